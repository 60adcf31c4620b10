use Rattle.std.proofs.Common.{◌≡◌, [], drop, map, Ok}
use Rattle.bt_contexts.specs.Seen.{seen, out_of}
use Rattle.bt_tree.specs.Parts.{in_arg, in_member, in_term, in_case, in_suffix}
use Rattle.bt_meaning.specs.Value.{value, sense}
use Rattle.bt_meaning.specs.Maps as spec
use Rattle.bt_queries.specs.Views as views
use Rattle.bt_queries.proofs.Loops.{after}
use Rattle.bt_queries.proofs.evaluator.Evaluator.body.Given as goal

abbrev pub invariant-loop-s : goal.invariant-loop-s
invariant-loop-s g l = views.body_value l.body (seen l.c) ≡ spec.map_steps (seen l.c) (drop l.s-index l.body) (Ok l.state)
