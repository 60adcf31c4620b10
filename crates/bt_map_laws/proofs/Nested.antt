-- Maps that apply one another where none reaches itself: no name comes twice, so they are no more than there are maps.
use Rattle.std.proofs.Common.{◌≡◌, ℕ, ◌+◌, ◌≤◌, List, [], ◌∷◌, length, Bool, true, false, inl, inr, refl, sym, subst, arith}
use Rattle.std.specs.List.{AllByRecursion as AllOf, Contains, IsDistinct}
use Rattle.std.specs.Str.{bytes_eq}
use Rattle.std.proofs.lemmas.Cmp.{nat_list_eq_equiv}
use Rattle.std.proofs.lemmas.Map.Keys.{IsDistinct-cons}
use Rattle.std.proofs.lemmas.Map.Made.{is_member-Decides, length-le_from_is_member}
use Rattle.std.proofs.lemmas.Slice.Eq.{bytes_eq-Decides}
use Rattle.bt_tree.specs.declared.tree.Stmt.{Stmt}
use Rattle.bt_lints.specs.Lints.{Reaches, applications, applies, itself, map_names}
use Rattle.bt_lints.proofs.Members.{bytes_equal, contains_cases, contains_head, contains_none, contains_tail}
use Rattle.bt_map_laws.specs.Nests.{IsNest}
use Rattle.bt_map_laws.proofs.Linted.{IsAcyclic, link}

-- names of maps, none of them twice
pub record Met (ss : List Stmt) (vs : List (List ℕ)) : Type 0 where
  pub distinct : IsDistinct bytes_eq vs
  pub maps : (v : List ℕ) → Contains vs v → Contains (map_names ss) v

-- a name that reaches none of them
abbrev pub IsApart : List Stmt → List (List ℕ) → List ℕ → Type 0
IsApart ss vs n = (v : List ℕ) → Contains vs v → Reaches (applications ss) n v → ⊥

pub met_none : (ss : List Stmt) → Met ss []
unfolding IsDistinct
met_none ss = record { distinct = tt; maps = λ v h. contains_none v h }

pub apart_none : (ss : List Stmt) (n : List ℕ) → IsApart ss [] n
apart_none ss n v h r = contains_none v h

differs : (b : Bool) → (b ≡ true → ⊥) → b ≡ false
differs true h = absurd (h refl)
differs false h = refl

all_differ : (n : List ℕ) (vs : List (List ℕ)) → (Contains vs n → ⊥) → AllOf (λ v. bytes_eq n v ≡ false) vs
all_differ n [] new = tt
all_differ n (v ∷ vs) new = (
  differs (bytes_eq n v) (λ e. new (subst (λ (k : List ℕ). Contains (v ∷ vs) k) (sym (bytes_equal n v e)) (contains_head v vs))),
  all_differ n vs (λ h. new (contains_tail v n vs h)),
)

pub met_more : (ss : List Stmt) (vs : List (List ℕ)) (n : List ℕ) → Met ss vs → IsApart ss vs n → Contains (map_names ss) n → Met ss (n ∷ vs)
met_more ss vs n met apart here = record {
  distinct = IsDistinct-cons bytes_eq n vs (all_differ n vs (λ h. apart n h itself)) met.distinct;
  maps = λ v h. elim (contains_cases n v vs h) as (λ _. Contains (map_names ss) v)
      [ inl e ↦ subst (λ (k : List ℕ). Contains (map_names ss) k) e here | inr k ↦ met.maps v k ];
}

pub apart_more : (ss : List Stmt) (vs : List (List ℕ)) (n k : List ℕ) → IsAcyclic ss → IsApart ss vs n → Contains (applications ss) (link n k) → IsApart ss (n ∷ vs) k
apart_more ss vs n k never apart one v h r =
    elim (contains_cases n v vs h) as (λ _. ⊥) [
      | inl e ↦ never n k one (subst (λ (u : List ℕ). Reaches (applications ss) k u) (sym e) r)
      | inr t ↦ apart v t (applies one r)
    ]

pub few : (ss : List Stmt) (vs : List (List ℕ)) → Met ss vs → length vs ≤ length (map_names ss)
few ss vs met =
    length-le_from_is_member nat_list_eq_equiv vs (map_names ss) met.distinct
    (λ q e. (is_member-Decides bytes_eq-Decides (map_names ss) q).1 (met.maps q ((is_member-Decides bytes_eq-Decides vs q).0 e)))

nested : (ss : List Stmt) → IsAcyclic ss → (vs : List (List ℕ)) (n : List ℕ) (ns : List (List ℕ)) → Met ss vs → IsApart ss vs n → IsNest ss (n ∷ ns) →
    length (n ∷ ns) + length vs ≤ length (map_names ss)
nested ss never vs n [] met apart h = omega (arith, few ss (n ∷ vs) (met_more ss vs n met apart h.0))
nested ss never vs n (k ∷ ns) met apart h =
    omega (arith, nested ss never (n ∷ vs) k ns (met_more ss vs n met apart h.0) (apart_more ss vs n k never apart h.1) h.2)

pub no_deeper : (ss : List Stmt) → IsAcyclic ss → (ns : List (List ℕ)) → IsNest ss ns → length ns ≤ length (map_names ss)
no_deeper ss never [] h = omega arith
no_deeper ss never (n ∷ ns) h = omega (arith, nested ss never [] n ns (met_none ss) (apart_none ss n) h)
