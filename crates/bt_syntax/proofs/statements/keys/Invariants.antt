use Rattle.std.proofs.Common.{◌≡◌, length}
use Rattle.bt_syntax.specs.Readers as spec
use Rattle.bt_syntax.proofs.Turns.{in_front}
use Rattle.bt_syntax.proofs.statements.keys.Given as goal

abbrev pub invariant-loop-alloc : goal.invariant-loop-alloc
invariant-loop-alloc l = in_front l.found (spec.keys l.c) ≡ spec.keys l.fn.c

abbrev pub decreases-loop-alloc : goal.decreases-loop-alloc
decreases-loop-alloc l = length l.c
