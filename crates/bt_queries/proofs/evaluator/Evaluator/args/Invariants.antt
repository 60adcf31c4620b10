use Rattle.std.proofs.Common.{◌≡◌, [], drop, map, Ok}
use Rattle.bt_contexts.specs.Seen.{seen, out_of}
use Rattle.bt_tree.specs.Parts.{in_arg, in_member, in_term, in_case, in_suffix}
use Rattle.bt_meaning.specs.Value.{value, sense}
use Rattle.bt_meaning.specs.Methods as spec
use Rattle.bt_queries.specs.Views as views
use Rattle.bt_queries.proofs.Loops.{after}
use Rattle.bt_queries.proofs.evaluator.Evaluator.args.Given as goal

abbrev pub invariant-loop-arg : goal.invariant-loop-arg
invariant-loop-arg g l = views.args_value l.arg-items (seen l.c) ≡ after l.got (views.args_value (drop l.arg-index l.arg-items) (seen l.c))
