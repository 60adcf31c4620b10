-- What one step after another adds.
use Rattle.std.proofs.Common.{◌≡◌, List, [], ◌∷◌, ◌++◌, ◌⊎◌, ◌↔◌, inl, inr, sym, subst, ℕ, Bool, IsTrue, Result, OnOk, ◌+◌, ◌<◌, length, get_or, drop, ◌≤◌}
use Rattle.std.specs.List.{Contains}
use Rattle.std.proofs.lemmas.List.Elements.{Contains-push, Contains-push_cases, Contains-append_left}
use Rattle.bt_findings.proofs.FoundLayers.{on_ok}
use Rattle.bt_lints.specs.Adding.{Adds}
use Rattle.bt_lints.specs.Lints.{OneOf, Scope, scope, MapStmtLint, BodyLint, map_sets}
use Rattle.bt_tree.specs.declared.tree.MapStmt.{MapStmt}
use Rattle.bt_lints.proofs.Members.{left_at}
use Rattle.std.proofs.lemmas.List.{drop_all}
use Rattle.bt_lints.specs.declared.lint.MapLint.{MapLint}

pub adds_none : (P : MapLint → Type 0) (u : List MapLint) → ((x : MapLint) → P x → ⊥) → Adds P u u
adds_none P u none = record { has = λ x. ((λ h. inl h), (λ h. elim h as (λ _. Contains u x) [ inl k ↦ k | inr p ↦ absurd (none x p) ])) }

pub adds_one : (u v : List MapLint) (l : MapLint) → v ≡ u ++ l ∷ [] → Adds (λ x. x ≡ l) u v
adds_one u v l e = record {
  has = λ x. (
    (λ h. elim (Contains-push_cases u l x (rw e at h)) as (λ _. Contains u x ⊎ (x ≡ l)) [ inl k ↦ inl k | inr same ↦ inr (sym same) ]),
    (λ h. rw e (elim h as (λ _. Contains (u ++ l ∷ []) x)
        [ inl k ↦ Contains-append_left u (l ∷ []) x k | inr same ↦ subst (λ (y : MapLint). Contains (u ++ l ∷ []) y) (sym same) (Contains-push u l) ])),
  );
}

pub adds_same : (P Q : MapLint → Type 0) (u v : List MapLint) → ((x : MapLint) → P x ↔ Q x) → Adds P u v → Adds Q u v
adds_same P Q u v same a = record {
  has = λ x. (
    (λ h. elim ((a.has x).0 h) as (λ _. Contains u x ⊎ Q x) [ inl k ↦ inl k | inr p ↦ inr ((same x).0 p) ]),
    (λ h. (a.has x).1 (elim h as (λ _. Contains u x ⊎ P x) [ inl k ↦ inl k | inr q ↦ inr ((same x).1 q) ])),
  );
}

pub adds_both : (P Q : MapLint → Type 0) (u v w : List MapLint) → Adds P u v → Adds Q v w → Adds (λ x. P x ⊎ Q x) u w
adds_both P Q u v w a b = record {
  has = λ x. (
    (λ h. elim ((b.has x).0 h) as (λ _. Contains u x ⊎ (P x ⊎ Q x))
        [ inl k ↦ elim ((a.has x).0 k) as (λ _. Contains u x ⊎ (P x ⊎ Q x)) [ inl j ↦ inl j | inr p ↦ inr (inl p) ] | inr q ↦ inr (inr q) ]),
    (λ h. (b.has x).1 (elim h as (λ _. Contains v x ⊎ Q x) [
      | inl k ↦ inl ((a.has x).1 (inl k))
      | inr pq ↦ elim pq as (λ _. Contains v x ⊎ Q x) [ inl p ↦ inl ((a.has x).1 (inr p)) | inr q ↦ inr q ]
    ])),
  );
}

-- one more of a list, and then the others
pub adds_next : {A : Type 0} (P : A → MapLint → Type 0) (xs : List A) (i : ℕ) (x : A) (u v w : List MapLint) → i < length xs → x ≡ get_or xs i x →
    Adds (P x) u v → Adds (λ y. OneOf (λ a. P a y) (drop (i + 1) xs)) v w → Adds (λ y. OneOf (λ a. P a y) (drop i xs)) u w
adds_next {A} P xs i x u v w lt is a b =
    subst (λ (ys : List A). Adds (λ y. OneOf (λ a. P a y) ys) u w) (sym (left_at xs i x lt is)) (adds_both (P x) _ u v w a b)

-- a lint that there is under a condition
pub adds_where : {E Q : Type 0} (r : Result Q E) (b : Bool) (C : Type 0) (l : MapLint) (u v : List MapLint) → (IsTrue b ↔ C) →
    OnOk r (Adds (λ x. IsTrue b × (x ≡ l)) u v) → OnOk r (Adds (λ x. C × (x ≡ l)) u v)
adds_where r b C l u v tells =
    on_ok r (adds_same (λ x. IsTrue b × (x ≡ l)) (λ x. C × (x ≡ l)) u v (λ x. ((λ p. (tells.0 p.0, p.1)), (λ p. (tells.1 p.0, p.1)))))

pub adds_end : {A : Type 0} (P : A → MapLint → Type 0) (xs : List A) (i : ℕ) (u : List MapLint) → length xs ≤ i → Adds (λ y. OneOf (λ a. P a y) (drop i xs)) u u
adds_end {A} P xs i u past =
    subst (λ (ys : List A). Adds (λ y. OneOf (λ a. P a y) ys) u u) (sym (drop_all i xs past)) (adds_none (λ y. OneOf (λ a. P a y) []) u (λ x h. h))

-- one more statement of a body, and then the others
pub body_next : (s : Scope) (L : List ℕ → Type 0) (ys : List MapStmt) (i : ℕ) (y : MapStmt) (names : List (List ℕ)) (u v w : List MapLint) →
    i < length ys → y ≡ get_or ys i y → names ≡ s.variables ++ map_sets y →
    Adds (MapStmtLint s L y) u v → Adds (BodyLint (scope s.how s.maps names) L (drop (i + 1) ys)) v w → Adds (BodyLint s L (drop i ys)) u w
body_next s L ys i y names u v w lt is set a b =
    subst (λ (zs : List MapStmt). Adds (BodyLint s L zs) u w) (sym (left_at ys i y lt is))
    (adds_both (MapStmtLint s L y) _ u v w a (subst (λ (n : List (List ℕ)). Adds (BodyLint (scope s.how s.maps n) L (drop (i + 1) ys)) v w) set b))

pub body_end : (s : Scope) (L : List ℕ → Type 0) (ys : List MapStmt) (i : ℕ) (u : List MapLint) → length ys ≤ i → Adds (BodyLint s L (drop i ys)) u u
body_end s L ys i u past = subst (λ (zs : List MapStmt). Adds (BodyLint s L zs) u u) (sym (drop_all i ys past)) (adds_none (BodyLint s L []) u (λ x h. h))
