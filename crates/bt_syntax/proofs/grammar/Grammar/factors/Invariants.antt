use Rattle.std.proofs.Common.{◌≡◌, length}
use Rattle.bt_syntax.specs.Readers as spec
use Rattle.bt_syntax.proofs.Turns.{in_front}
use Rattle.bt_syntax.proofs.grammar.Grammar.factors.Given as goal

abbrev pub invariant-loop-c : goal.invariant-loop-c
invariant-loop-c g l = in_front l.found (spec.factors (spec.query l.self.depth) l.c) ≡ spec.factors (spec.query l.self.depth) l.fn.c

abbrev pub decreases-loop-c : goal.decreases-loop-c
decreases-loop-c g l = length l.c
