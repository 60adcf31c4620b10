-- Parts as contracts see them.
use Rattle.std.proofs.Common.{◌≡◌, ℕ, zero, suc, ◌<◌, List, [], ◌∷◌, length, map, get_or, set, arith, refl, ap, eqb, true}
use Rattle.std.proofs.lemmas.List.{map-set}
use Rattle.bt_demand.specs.Parts.{Part, parts_of}
use Rattle.bt_demand.specs.Tree.{Tree}
use Rattle.bt_demand.specs.View.{tree}
use Rattle.bt_demand.specs.declared.routes.Routed.{Routed}
use Rattle.bt_ledger.specs.Open.{tree_of, from_of, with_tree}

pub parts_length : (rs : List Routed) → length (parts_of rs) ≡ length rs
parts_length [] = refl
parts_length (r ∷ rs) = ap suc (parts_length rs)

pub tree_seen : (rs : List Routed) (k : ℕ) (d : Routed) → k < length rs → tree (get_or rs k d).demand ≡ tree_of (parts_of rs) k
tree_seen [] k d h = absurd (omega arith)
tree_seen (r ∷ rs) zero d h = refl
tree_seen (r ∷ rs) (suc k) d h = tree_seen rs k d (omega arith)

pub from_seen : (rs : List Routed) (k : ℕ) (d : Routed) → k < length rs → (get_or rs k d).from ≡ from_of (parts_of rs) k
from_seen [] k d h = absurd (omega arith)
from_seen (r ∷ rs) zero d h = refl
from_seen (r ∷ rs) (suc k) d h = from_seen rs k d (omega arith)

pub part_set : (rs : List Routed) (k : ℕ) (d r : Routed) (t : Tree) → k < length rs → r.from ≡ (get_or rs k d).from → tree r.demand ≡ t
    → parts_of (set rs k r) ≡ with_tree (parts_of rs) k t
part_set [] k d r t h e w = absurd (omega arith)
part_set (q ∷ rs) zero d r t h e w = rw (e, w) refl
part_set (q ∷ rs) (suc k) d r t h e w = ap (λ (ps : List Part). record { from = q.from; demand = tree q.demand } ∷ ps) (part_set rs k d r t (omega arith) e w)

pub answered_set : (cs : List ℕ) (i : ℕ) → map (λ n. eqb n 0) (set cs i 0) ≡ set (map (λ n. eqb n 0) cs) i true
answered_set cs i = map-set (λ n. eqb n 0) cs i 0
