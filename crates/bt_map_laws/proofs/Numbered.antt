-- The number of a map: how many applications stand in a row below it.
use Rattle.std.proofs.Common.{◌≡◌, ℕ, zero, suc, ◌+◌, ◌≤◌, ◌<◌, max, List, [], ◌∷◌, length, Bool, true, false, inl, inr, if◌then◌else◌, refl, sym, ap, ap₂, ◌∙◌, subst, arith}
use Rattle.std.specs.List.{Contains}
use Rattle.std.specs.Str.{bytes_eq}
use Rattle.bt_tree.specs.declared.tree.Mapping.{Mapping}
use Rattle.bt_tree.specs.declared.tree.Stmt.{Stmt}
use Rattle.bt_lints.specs.Lints.{applications, map_names}
use Rattle.bt_lints.specs.declared.lint.MapLintKind.TheVariants as kind
use Rattle.bt_lints.specs.declared.lint.Use.{Use}
use Rattle.bt_lints.specs.declared.reach.Application.{Application}
use Rattle.bt_lints.proofs.Members.{bytes_equal, bytes_same, contains_cases, contains_head, contains_none, contains_tail}
use Rattle.bt_meaning.specs.Mapped.{maps_of}
use Rattle.bt_map_laws.specs.Nests.{HasNo, IsNumbering, map_count}
use Rattle.bt_map_laws.proofs.Linted.{IsAcyclic, acyclic, applier_named, link}
use Rattle.bt_map_laws.proofs.Nested.{IsApart, Met, apart_more, apart_none, few, met_more, met_none}

-- one more than the number of a map that is applied, and 0 where it is another that applies it
abbrev one : (List ℕ → ℕ) → Application → List ℕ → ℕ
one h l n = if bytes_eq l.by n then suc (h l.map) else 0

-- one more than the highest of the maps that it applies, and 0 where it applies none
abbrev above : (List ℕ → ℕ) → List Application → List ℕ → ℕ
above h [] n = 0
above h (l ∷ ls) n = max (one h l n) (above h ls n)

abbrev height : List Application → ℕ → List ℕ → ℕ
height ls zero n = 0
height ls (suc i) n = above (height ls i) ls n

one_is : (b : Bool) (k : ℕ) → b ≡ true → (if b then k else 0) ≡ k
one_is true k e = refl
one_is false k e = cc

is_above : (h : List ℕ → ℕ) (ls : List Application) (a b : List ℕ) → Contains ls (link a b) → suc (h b) ≤ above h ls a
is_above h [] a b c = contains_none (link a b) c
is_above h (l ∷ ls) a b c =
    elim (contains_cases l (link a b) ls c) as (λ _. suc (h b) ≤ max (one h l a) (above h ls a)) [
      | inl e ↦
          let here : one h l a ≡ suc (h b) = ap (λ (k : Application). one h k a) e ∙ one_is (bytes_eq a a) (suc (h b)) (bytes_same a) in
          omega (arith, here)
      | inr t ↦ omega (arith, is_above h ls a b t)
    ]

one_most : (b : Bool) (k i : ℕ) → k ≤ i → (if b then suc k else 0) ≤ suc i
one_most true k i h = omega arith
one_most false k i h = omega arith

above_most : (h : List ℕ → ℕ) (i : ℕ) → ((k : List ℕ) → h k ≤ i) → (ls : List Application) (n : List ℕ) → above h ls n ≤ suc i
above_most h i most [] n = omega arith
above_most h i most (l ∷ ls) n = omega (arith, one_most (bytes_eq l.by n) (h l.map) i (most l.map), above_most h i most ls n)

height_most : (ls : List Application) (i : ℕ) (n : List ℕ) → height ls i n ≤ i
height_most ls zero n = omega arith
height_most ls (suc i) n = above_most (height ls i) i (height_most ls i) ls n

one_same : (b : Bool) (j k : ℕ) → (b ≡ true → j ≡ k) → (if b then suc j else 0) ≡ (if b then suc k else 0)
one_same true j k e = ap suc (e refl)
one_same false j k e = refl

above_same : (f g : List ℕ → ℕ) (ls : List Application) (n : List ℕ) → ((l : Application) → Contains ls l → l.by ≡ n → f l.map ≡ g l.map) → above f ls n ≡ above g ls n
above_same f g [] n same = refl
above_same f g (l ∷ ls) n same =
    ap₂ max (one_same (bytes_eq l.by n) (f l.map) (g l.map) (λ e. same l (contains_head l ls) (bytes_equal l.by n e)))
    (above_same f g ls n (λ k h. same k (contains_tail l k ls h)))

one_none : (b : Bool) (k : ℕ) → (b ≡ true → ⊥) → (if b then k else 0) ≡ 0
one_none true k never = absurd (never refl)
one_none false k never = refl

above_none : (h : List ℕ → ℕ) (ls : List Application) (n : List ℕ) → ((l : Application) → Contains ls l → l.by ≡ n → ⊥) → above h ls n ≡ 0
above_none h [] n never = refl
above_none h (l ∷ ls) n never =
    ap₂ max (one_none (bytes_eq l.by n) (suc (h l.map)) (λ e. never l (contains_head l ls) (bytes_equal l.by n e)))
    (above_none h ls n (λ k c. never k (contains_tail l k ls c)))

module _ (ss : List Stmt) (no_cycle : IsAcyclic ss) where
  abbrev number : ℕ → List ℕ → ℕ
  number i = height (applications ss) i

  number_none : (i : ℕ) (n : List ℕ) → ((l : Application) → Contains (applications ss) l → l.by ≡ n → ⊥) → number i n ≡ 0
  number_none zero n never = refl
  number_none (suc i) n never = above_none (number i) (applications ss) n never

  by_map : (n : List ℕ) (l : Application) → Contains (applications ss) l → l.by ≡ n → Contains (map_names ss) n
  by_map n l h e = subst (λ (k : List ℕ). Contains (map_names ss) k) e (applier_named ss l h)

  -- where all maps were met, none is left
  none_left : (vs : List (List ℕ)) (n : List ℕ) → Met ss vs → IsApart ss vs n → length (map_names ss) ≤ length vs → (l : Application) → Contains (applications ss) l → l.by ≡ n → ⊥
  none_left vs n met apart all l h e = omega (arith, few ss (n ∷ vs) (met_more ss vs n met apart (by_map n l h e)))

  stable : (i j : ℕ) (vs : List (List ℕ)) (n : List ℕ) → Met ss vs → IsApart ss vs n → length (map_names ss) ≤ i + length vs → length (map_names ss) ≤ j + length vs →
      number i n ≡ number j n
  stable zero j vs n met apart a b = sym (number_none j n (none_left vs n met apart (omega arith)))
  stable (suc i) zero vs n met apart a b = number_none (suc i) n (none_left vs n met apart (omega arith))
  stable (suc i) (suc j) vs n met apart a b =
      above_same (number i) (number j) (applications ss) n (λ l h e.
      stable i j (n ∷ vs) l.map (met_more ss vs n met apart (by_map n l h e))
      (apart_more ss vs n l.map no_cycle apart (subst (λ (k : List ℕ). Contains (applications ss) (link k l.map)) e h)) (omega arith) (omega arith))

  numbering : IsNumbering ss (number (length (map_names ss)))
  numbering a b one =
      let most : ℕ = length (map_names ss) in
      subst (λ (k : ℕ). number most b < k) (stable (suc most) most [] a (met_none ss) (apart_none ss a) (omega arith) (omega arith))
      (is_above (number most) (applications ss) a b one)

pub numbered : (m : Mapping) (how : Use) → HasNo kind.MapCycle m how → (number : List ℕ → ℕ) × IsNumbering (maps_of m) number × ((n : List ℕ) → number n ≤ map_count m)
numbered m how never = (
  height (applications (maps_of m)) (map_count m),
  numbering (maps_of m) (acyclic m how never),
  height_most (applications (maps_of m)) (map_count m),
)
