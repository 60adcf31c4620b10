use Rattle.std.proofs.Common.{◌≡◌, [], drop, map, Ok}
use Rattle.bt_contexts.specs.Seen.{seen, out_of}
use Rattle.bt_tree.specs.Parts.{in_arg, in_member, in_term, in_case, in_suffix}
use Rattle.bt_meaning.specs.Value.{value, sense}
use Rattle.bt_meaning.specs.Methods as spec
use Rattle.bt_queries.specs.Views as views
use Rattle.bt_queries.proofs.Loops.{after}
use Rattle.bt_queries.proofs.evaluator.Evaluator.item.Given as goal

abbrev pub invariant-loop-x : goal.invariant-loop-x
invariant-loop-x g l = spec.suffixes (map (in_suffix sense) l.x-items) (seen l.c) (value l.head (seen l.c)) ≡ spec.suffixes (map (in_suffix sense) (drop l.x-index l.x-items)) (seen l.c) (out_of l.got)
