use Rattle.std.proofs.Common.{◌≡◌, [], drop, map, Ok}
use Rattle.bt_contexts.specs.Seen.{seen, out_of}
use Rattle.bt_tree.specs.Parts.{in_arg, in_member, in_term, in_case, in_suffix}
use Rattle.bt_meaning.specs.Value.{value, sense}
use Rattle.bt_meaning.specs.Lambdas as spec
use Rattle.bt_queries.specs.Views as views
use Rattle.bt_queries.proofs.Loops.{after}
use Rattle.bt_queries.proofs.evaluator.Evaluator.filtered.Given as goal

abbrev pub invariant-loop-item : goal.invariant-loop-item
invariant-loop-item g l = spec.filtered (views.arg_of l.f) l.item-items (seen l.c) ≡ after l.got (spec.filtered (views.arg_of l.f) (drop l.item-index l.item-items) (seen l.c))
