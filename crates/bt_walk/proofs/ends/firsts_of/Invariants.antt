use Rattle.std.proofs.Common.{◌≡◌, ◌≤◌, ℕ, List, drop, length}
use Rattle.std.specs.BTreeMap.{get_by_text}
use Rattle.bt_value.specs.Keys.{find}
use Rattle.bt_walk.proofs.ends.firsts_of.Given as goal

abbrev pub invariant-loop-i : goal.invariant-loop-i
invariant-loop-i l = (l.i ≤ length l.ends) × ((q : List ℕ) → get_by_text l.firsts q ≡ find q (drop l.i l.ends))

abbrev pub decreases-loop-i : goal.decreases-loop-i
decreases-loop-i l = l.i
