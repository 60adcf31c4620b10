use Rattle.std.proofs.Common.{◌≡◌, map}
use Rattle.std.specs.Vec.Iter.{into_iter_items}
use Rattle.bt_value.specs.Keys.{put_all}
use Rattle.bt_value.proofs.Gathered.{named}
use Rattle.bt_value.proofs.builder.put_pairs.Given as goal

abbrev pub invariant-loop-key : goal.invariant-loop-key
invariant-loop-key g l = put_all (map named l.fn.sorted.entries) l.fn.pairs.items ≡ put_all (map named l.sorted.entries) (into_iter_items l.key-iterator)
