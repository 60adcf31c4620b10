use Rattle.std.proofs.Common.{◌≡◌, []}
use Rattle.std.specs.Vec.Iter.{into_iter_items}
use Rattle.bt_value.specs.Keys.{put_all}
use Rattle.bt_value.proofs.fields.Fields.from_pairs.Given as goal

abbrev pub invariant-loop-key : goal.invariant-loop-key
invariant-loop-key g l = put_all [] l.fn.pairs.items ≡ put_all l.members (into_iter_items l.key-iterator)
