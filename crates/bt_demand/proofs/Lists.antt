-- Numbers of two lists that stand one after the other.
use Rattle.std.proofs.Common.{◌≡◌, ◌≢◌, ℕ, List, [], ◌∷◌, ◌++◌, ◌⊎◌, inl, inr, sym, ◌∙◌}
use Rattle.std.specs.List.{AllByRecursion}
use Rattle.bt_demand.specs.WellFormed.{Differ}

abbrev pub InList : ℕ → List ℕ → Type 0
InList m [] = ⊥
InList m (x ∷ xs) = (m ≡ x) ⊎ InList m xs

pub in-left : (m : ℕ) (xs ys : List ℕ) → InList m xs → InList m (xs ++ ys)
in-left m [] ys h = absurd h
in-left m (x ∷ xs) ys (inl e) = inl e
in-left m (x ∷ xs) ys (inr h) = inr (in-left m xs ys h)

pub in-right : (m : ℕ) (xs ys : List ℕ) → InList m ys → InList m (xs ++ ys)
in-right m [] ys h = h
in-right m (x ∷ xs) ys h = inr (in-right m xs ys h)

pub all-left : (P : ℕ → Type 0) (xs ys : List ℕ) → AllByRecursion P (xs ++ ys) → AllByRecursion P xs
all-left P [] ys h = tt
all-left P (x ∷ xs) ys h = (h.0, all-left P xs ys h.1)

pub all-right : (P : ℕ → Type 0) (xs ys : List ℕ) → AllByRecursion P (xs ++ ys) → AllByRecursion P ys
all-right P [] ys h = h
all-right P (x ∷ xs) ys h = all-right P xs ys h.1

pub distinct-left : (xs ys : List ℕ) → Differ (xs ++ ys) → Differ xs
distinct-left [] ys d = tt
distinct-left (x ∷ xs) ys d = (all-left (λ y. x ≢ y) xs ys d.0, distinct-left xs ys d.1)

pub distinct-right : (xs ys : List ℕ) → Differ (xs ++ ys) → Differ ys
distinct-right [] ys d = d
distinct-right (x ∷ xs) ys d = distinct-right xs ys d.1

differs : (x m : ℕ) (ys : List ℕ) → AllByRecursion (λ y. x ≢ y) ys → m ≡ x → InList m ys → ⊥
differs x m [] a e i = i
differs x m (y ∷ ys) a e (inl f) = a.0 (sym e ∙ f)
differs x m (y ∷ ys) a e (inr i) = differs x m ys a.1 e i

-- a number of distinct numbers stands in one of the two lists alone
pub apart : (m : ℕ) (xs ys : List ℕ) → Differ (xs ++ ys) → InList m xs → InList m ys → ⊥
apart m [] ys d i j = i
apart m (x ∷ xs) ys d (inl e) j = differs x m ys (all-right (λ y. x ≢ y) xs ys d.0) e j
apart m (x ∷ xs) ys d (inr i) j = apart m xs ys d.1 i j
