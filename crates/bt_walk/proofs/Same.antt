-- What a value means knows the value.
use Rattle.std.proofs.Common.{◌≡◌, ℕ, List, [], ◌∷◌, map, refl, ap, ap₂, subst}
use Rattle.bt_value.specs.declared.val.Val.{Val, fold-roll-Val, ind-Val, roll-Val, map-Val}
use Rattle.bt_value.specs.declared.val.Val.TheOpen.{Val-F}
use Rattle.bt_walk.specs.Meaning.{Meaning}
use Rattle.bt_walk.specs.Walk.{meaning, meaning_step}

abbrev IsSame : Val → Type 0
IsSame v = (meaning v).is ≡ v

abbrev Shown : Type 0
Shown = (v : Val) × IsSame v

abbrev onto : {X Y : Type 0} → (X → Y) → List ℕ × X → List ℕ × Y
onto h p = (p.0, h p.1)

items : (vs : List Shown) → map (λ m. m.is) (map meaning (map (λ e. e.0) vs)) ≡ map (λ e. e.0) vs
items [] = refl
items (v ∷ vs) = ap₂ (λ x xs. x ∷ xs) v.1 (items vs)

members : (ms : List (List ℕ × Shown)) → map (onto (λ m. m.is)) (map (onto meaning) (map (onto (λ e. e.0)) ms)) ≡ map (onto (λ e. e.0)) ms
members [] = refl
members (m ∷ ms) = ap₂ (λ x xs. (m.0, x) ∷ xs) m.1.1 (members ms)

abbrev under : Val-F Shown → Val-F Val
under y = map-Val Shown Val (λ e. e.0) y

level : (y : Val-F Shown) → map-Val Meaning Val (λ m. m.is) (map-Val Val Meaning meaning (under y)) ≡ under y
level Val-F.Null = refl
level (Val-F.Bool b) = refl
level (Val-F.Int n) = refl
level (Val-F.Str s) = refl
level (Val-F.Bytes b) = refl
level (Val-F.Arr vs) = ap Val-F.Arr (items vs)
level (Val-F.Obj ms) = ap Val-F.Obj (members ms)

pub is_same : (v : Val) → (meaning v).is ≡ v
is_same = ind-Val IsSame (λ x y is. subst (λ z. IsSame (roll-Val z)) is (rw (fold-roll-Val Meaning meaning_step (under y)) (ap roll-Val (level y))))
