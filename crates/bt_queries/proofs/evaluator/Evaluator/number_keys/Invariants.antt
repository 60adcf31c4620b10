use Rattle.std.proofs.Common.{◌≡◌, ◌+◌, drop, Ok, Some}
use Rattle.bt_contexts.specs.Seen.{seen}
use Rattle.bt_kinds.specs.Targets as targets
use Rattle.bt_meaning.specs.Lambdas as spec
use Rattle.bt_meaning.specs.Literals.{one_more}
use Rattle.bt_queries.specs.Views as views
use Rattle.bt_queries.proofs.Loops.{after}
use Rattle.bt_queries.proofs.evaluator.Evaluator.number_keys.Given as goal

abbrev pub invariant-loop-i : goal.invariant-loop-i
invariant-loop-i g l = one_more (Ok (Some (l.fn.first, 0))) (spec.keys_from targets.number (views.arg_of l.f) 1 l.rest (seen l.c)) ≡ after l.got (spec.keys_from targets.number (views.arg_of l.f) (l.i + 1) (drop l.i l.rest) (seen l.c))
