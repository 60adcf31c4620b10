-- Messages that are hidden and shown again.
use Rattle.std.proofs.Common.{◌≡◌, ℕ, zero, suc, List, [], ◌∷◌, Option, Some, None, refl, ap}
use Rattle.bt_messages.specs.Steps.{Places, put_back}
use Rattle.bt_messages.specs.Cases.{others}

-- the others suffice to put the messages back
pub put_back_others : (ns : List (Option ℕ)) (ys xs : Places) → put_back ns ys (others ns xs) ≡ put_back ns ys xs
put_back_others [] ys xs = refl
put_back_others (n ∷ ns) [] xs = refl
put_back_others (n ∷ ns) (y ∷ ys) [] = refl
put_back_others (Some zero ∷ ns) (y ∷ ys) (x ∷ xs) = ap (λ zs. y ∷ zs) (put_back_others ns ys xs)
put_back_others (Some (suc k) ∷ ns) (y ∷ ys) (x ∷ xs) = ap (λ zs. x ∷ zs) (put_back_others ns ys xs)
put_back_others (None ∷ ns) (y ∷ ys) (x ∷ xs) = ap (λ zs. x ∷ zs) (put_back_others ns ys xs)
