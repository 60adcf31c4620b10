use Rattle.std.proofs.Common.{◌≡◌, length}
use Rattle.bt_syntax.specs.Reading.{map_res}
use Rattle.bt_syntax.specs.Readers as spec
use Rattle.bt_syntax.proofs.ElseTurns.{if_from}
use Rattle.bt_syntax.proofs.grammar.Grammar.elses.Given as goal

abbrev pub invariant-loop-c : goal.invariant-loop-c
invariant-loop-c g l = map_res (if_from l.branches) (spec.elses (spec.query l.self.depth) l.c) ≡ map_res (spec.if_of l.fn.first) (spec.elses (spec.query l.self.depth) l.fn.c)

abbrev pub decreases-loop-c : goal.decreases-loop-c
decreases-loop-c g l = length l.c
