use Rattle.std.proofs.Common.{◌≡◌, take, map}
use Rattle.bt_objects.proofs.objects.names.Given as goal

abbrev pub invariant-loop-part : goal.invariant-loop-part
invariant-loop-part l = l.names ≡ map (λ x. x.now) (take l.part-index l.part-items)
