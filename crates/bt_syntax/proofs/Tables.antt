-- A name that no row of a table has.
use Rattle.std.proofs.Common.{◌≡◌, ℕ, List, [], ◌∷◌, Bool, true, false, cond, Some, None, refl, ap, ◌∙◌}
use Rattle.std.proofs.lemmas.Slice.Eq.{bytes_eq-Decides}
use Rattle.std.specs.Str.{bytes_eq}
use Rattle.bt_value.specs.Keys.{find}

off : {P : Type 0} (b : Bool) → (b ≡ true → P) → (P → ⊥) → false ≡ b
off true f n = absurd (n (f refl))
off false f n = refl

module _ {V : Type 0} (k : List ℕ) where
  -- each row's name is another one
  abbrev pub Missed : List (List ℕ × V) → Type 0
  Missed [] = Unit {0}
  Missed (r ∷ rs) = (k ≡ r.0 → ⊥) × Missed rs

  pub missed : (rs : List (List ℕ × V)) → Missed rs → None ≡ find k rs
  missed [] h = refl
  missed (r ∷ rs) h = missed rs h.1 ∙ ap (λ b. cond b (Some r.1) (find k rs)) (off (bytes_eq k r.0) (bytes_eq-Decides k r.0).0 h.0)
