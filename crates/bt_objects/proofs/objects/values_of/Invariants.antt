use Rattle.std.proofs.Common.{◌≡◌, ◌++◌, map}
use Rattle.std.specs.Vec.Iter.{into_iter_items}
use Rattle.bt_objects.specs.Objects as spec
use Rattle.bt_objects.proofs.objects.values_of.Given as goal

abbrev pub invariant-loop-member : goal.invariant-loop-member
invariant-loop-member l = map spec.value_of l.fn.members.items ≡ l.got ++ map spec.value_of (into_iter_items l.member-iterator)
