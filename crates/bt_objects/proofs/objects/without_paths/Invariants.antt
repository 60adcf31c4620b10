use Rattle.std.proofs.Common.{◌≡◌, take}
use Rattle.std.specs.List.{fold}
use Rattle.bt_objects.specs.Objects as spec
use Rattle.bt_objects.proofs.objects.without_paths.Given as goal

abbrev pub invariant-loop-path : goal.invariant-loop-path
invariant-loop-path l = l.left ≡ fold spec.without_path l.fn.v (take l.path-index l.path-items)
