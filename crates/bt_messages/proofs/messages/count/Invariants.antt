use Rattle.std.proofs.Common.{◌≡◌, ◌+◌, ◌≤◌, drop}
use Rattle.bt_messages.specs.Steps as spec
use Rattle.bt_messages.proofs.messages.count.Given as goal

abbrev pub invariant-loop-x : goal.invariant-loop-x
invariant-loop-x l = (l.n ≤ l.x-index) × (l.n + spec.count (drop l.x-index l.places) ≡ spec.count l.places)
