use Rattle.std.proofs.Common.{◌≡◌, ℕ, List, drop}
use Rattle.std.specs.BTreeMap.{get_by_text}
use Rattle.bt_value.specs.Keys.{find}
use Rattle.bt_walk.specs.Ends as spec
use Rattle.bt_walk.specs.Meaning.{End}
use Rattle.bt_walk.proofs.ends.differ.Given as goal

abbrev pub invariant-loop-end : goal.invariant-loop-end
invariant-loop-end l = (all : List End) → ((q : List ℕ) → get_by_text l.firsts q ≡ find q all)
    → spec.differ all (drop l.end-index l.ends) ≡ spec.differ all l.ends
