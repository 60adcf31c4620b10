use Rattle.std.proofs.Common.{◌≡◌, ◌+◌, ◌≤◌, drop}
use Rattle.bt_walk.specs.Members.{kinds}
use Rattle.bt_walk.specs.Walk.{met}
use Rattle.bt_walk.proofs.members.has_one_kind.Given as goal

abbrev pub invariant-loop-field : goal.invariant-loop-field
invariant-loop-field l = (l.count ≤ l.field-index) × ((l.count + kinds l.here (met (drop l.field-index l.field-items)) ≡ kinds l.here (met l.field-items))
    × (l.count + kinds l.here (drop l.field-index l.field-items) ≡ kinds l.here l.field-items))
