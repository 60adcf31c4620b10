-- The maps that apply one map, put behind names, and when all that reach a map are found.
use Rattle.std.proofs.Common.{◌≡◌, ℕ, ◌+◌, ◌<◌, ◌≤◌, List, [], ◌∷◌, ◌++◌, length, get_or, Bool, true, false, not, ◌&&◌, ◌⊎◌, inl, inr, refl, sym, ap, ◌∙◌, subst, arith, if◌then◌else◌, append-nil, append_assoc, length-append, ◌-◌, ◌↔◌, slice_get, Some}
use Rattle.std.specs.List.{Contains}
use Rattle.std.specs.Str.{bytes_eq}
use Rattle.std.proofs.lemmas.List.Elements.{Contains-push, Contains-push_cases, Contains-append_left}
use Rattle.std.proofs.lemmas.List.{get_or_append_left}
use Rattle.std.proofs.lemmas.Option.{get_or_from_slice_get}
use Rattle.std.proofs.lemmas.Bool.{cases_lt}
use Rattle.bt_lints.specs.Names.{has, with_appliers}
use Rattle.bt_lints.specs.Lints.{Reaches, itself, applies}
use Rattle.bt_lints.specs.declared.reach.Application.{Application}
use Rattle.bt_lints.proofs.Members.{contains_head, contains_tail, contains_none, contains_cases, bytes_same, bytes_equal, contained, has_it}

abbrev link : List ℕ → List ℕ → Application
link a b = record { by = a; map = b }

-- a name put behind others where a test holds
abbrev put_if : Bool → List (List ℕ) → List ℕ → List (List ℕ)
put_if b names x = if b then names ++ x ∷ [] else names

kept : (b : Bool) (names : List (List ℕ)) (x n : List ℕ) → Contains names n → Contains (put_if b names x) n
kept true names x n h = Contains-append_left names (x ∷ []) n h
kept false names x n h = h

was : (b : Bool) (names : List (List ℕ)) (x n : List ℕ) → Contains (put_if b names x) n → Contains names n ⊎ ((b ≡ true) × (x ≡ n))
was true names x n h =
    elim (Contains-push_cases names x n h) as (λ _. Contains names n ⊎ ((true ≡ true) × (x ≡ n))) [ inl k ↦ inl k | inr e ↦ inr (refl, e) ]
was false names x n h = inl h

pub still : (links : List Application) (name : List ℕ) (names : List (List ℕ)) (n : List ℕ) → Contains names n → Contains (with_appliers links name names) n
still [] name names n h = h
still (a ∷ r) name names n h = still r name _ n (kept (bytes_eq a.map name && not (has names a.by)) names a.by n h)

both_true : (b d : Bool) → (b && d) ≡ true → b ≡ true
both_true true d h = refl
both_true false d h = cc

pub new_ones : (links : List Application) (name : List ℕ) (names : List (List ℕ)) (n : List ℕ) → Contains (with_appliers links name names) n →
    Contains names n ⊎ Contains links (link n name)
new_ones [] name names n h = inl h
new_ones (a ∷ r) name names n h =
    let goal : Type 0 = Contains names n ⊎ Contains (a ∷ r) (link n name) in
    let here : (bytes_eq a.map name && not (has names a.by)) ≡ true → a.by ≡ n → Contains (a ∷ r) (link n name) =
    λ t e. subst (λ (x : Application). Contains (a ∷ r) x)
    (ap (λ m. link a.by m) (bytes_equal a.map name (both_true _ _ t)) ∙ ap (λ m. link m name) e) (contains_head a r) in
    elim (new_ones r name _ n h) as (λ _. goal) [
      | inl k ↦ elim (was (bytes_eq a.map name && not (has names a.by)) names a.by n k) as (λ _. goal) [ inl j ↦ inl j | inr p ↦ inr (here p.0 p.1) ]
      | inr k ↦ inr (contains_tail a _ r k)
    ]

put_now : (b h : Bool) (names : List (List ℕ)) (x : List ℕ) → b ≡ true → h ≡ has names x → Contains (put_if (b && not h) names x) x
put_now false h names x e f = cc
put_now true true names x e f = contained names x (sym f)
put_now true false names x e f = Contains-push names x

pub all_appliers : (links : List Application) (name : List ℕ) (names : List (List ℕ)) (n : List ℕ) → Contains links (link n name) →
    Contains (with_appliers links name names) n
all_appliers [] name names n h = contains_none _ h
all_appliers (a ∷ r) name names n h =
    let next : List (List ℕ) = put_if (bytes_eq a.map name && not (has names a.by)) names a.by in
    elim (contains_cases a (link n name) r h) as (λ _. Contains (with_appliers r name next) n) [
      | inl e ↦ still r name next n
          (subst (λ (x : List ℕ). Contains next x) (ap (λ (x : Application). x.by) e)
          (put_now _ (has names a.by) names a.by (ap (λ (x : Application). bytes_eq x.map name) e ∙ bytes_same name) refl))
      | inr k ↦ all_appliers r name next n k
    ]

-- what stands in front
pub record Starts (u v : List (List ℕ)) : Type 0 where
  pub more : List (List ℕ)
  pub is : v ≡ u ++ more

starts_put : (b : Bool) (names : List (List ℕ)) (x : List ℕ) → Starts names (put_if b names x)
starts_put true names x = record { more = x ∷ []; is = refl }
starts_put false names x = record { more = []; is = sym (append-nil names) }

pub front : (links : List Application) (name : List ℕ) (names : List (List ℕ)) → Starts names (with_appliers links name names)
front [] name names = record { more = []; is = sym (append-nil names) }
front (a ∷ r) name names =
    let s = starts_put (bytes_eq a.map name && not (has names a.by)) names a.by in
    let t = front r name (put_if (bytes_eq a.map name && not (has names a.by)) names a.by) in
    record { more = s.more ++ t.more; is = t.is ∙ ap (λ u. u ++ t.more) s.is ∙ append_assoc names s.more t.more }

-- how many applications are by maps that aren't among names
abbrev one_if : Bool → ℕ
one_if true = 0
one_if false = 1

pub unfound : List Application → List (List ℕ) → ℕ
unfound [] names = 0
unfound (a ∷ r) names = one_if (has names a.by) + unfound r names

has_more : (names : List (List ℕ)) (x n : List ℕ) → has names n ≡ true → has (names ++ x ∷ []) n ≡ true
has_more names x n h = has_it _ n (Contains-append_left names (x ∷ []) n (contained names n h))

one_less : (b d : Bool) → (b ≡ true → d ≡ true) → one_if d ≤ one_if b
one_less true d h = rw (h refl) (omega arith)
one_less false true h = omega arith
one_less false false h = omega arith

unfound_less : (links : List Application) (names : List (List ℕ)) (x : List ℕ) → unfound links (names ++ x ∷ []) ≤ unfound links names
unfolding unfound
unfound_less [] names x = omega arith
unfound_less (a ∷ r) names x =
    let first = one_less (has names a.by) (has (names ++ x ∷ []) a.by) (has_more names x a.by) in
    omega (arith, first, unfound_less r names x)

unfound_one : (links : List Application) (names : List (List ℕ)) (a : Application) → Contains links a → has names a.by ≡ false →
    unfound links (names ++ a.by ∷ []) + 1 ≤ unfound links names
unfolding unfound
unfound_one [] names a h new = contains_none _ h
unfound_one (b ∷ r) names a h new =
    let now : has (names ++ a.by ∷ []) a.by ≡ true = has_it _ a.by (Contains-push names a.by) in
    let first = one_less (has names b.by) (has (names ++ a.by ∷ []) b.by) (has_more names a.by b.by) in
    elim (contains_cases b a r h) as (λ _. one_if (has (names ++ a.by ∷ []) b.by) + unfound r (names ++ a.by ∷ []) + 1 ≤ one_if (has names b.by) + unfound r names) [
      | inl e ↦ rw (e, now, new) (omega (arith, unfound_less r names a.by))
      | inr k ↦ omega (arith, first, unfound_one r names a k new)
    ]

less_put : (b h : Bool) (links : List Application) (names : List (List ℕ)) (a : Application) → Contains links a → h ≡ has names a.by →
    unfound links (put_if (b && not h) names a.by) + length (put_if (b && not h) names a.by) ≤ unfound links names + length names
less_put false h links names a c e = omega arith
less_put true true links names a c e = omega arith
less_put true false links names a c e = simp length-append (omega (arith, unfound_one links names a c (sym e)))

pub no_more : (all links : List Application) (name : List ℕ) (names : List (List ℕ)) → ((a : Application) → Contains links a → Contains all a) →
    unfound all (with_appliers links name names) + length (with_appliers links name names) ≤ unfound all names + length names
no_more all [] name names within = omega arith
no_more all (a ∷ r) name names within =
    omega (
      arith,
      no_more all r name (put_if (bytes_eq a.map name && not (has names a.by)) names a.by) (λ x h. within x (contains_tail a x r h)),
      less_put (bytes_eq a.map name) (has names a.by) all names a (within a (contains_head a r)) refl,
    )

-- names that are closed under being applied by have all maps that reach one of them
pub reached : (links : List Application) (names : List (List ℕ)) → ((a b : List ℕ) → Contains names b → Contains links (link a b) → Contains names a) →
    (a c : List ℕ) → Contains names c → Reaches links a c → Contains names a
reached links names closed a c h (itself) = h
reached links names closed a c h (applies {b = b} one r) = closed a b (reached links names closed b c h r) one

-- ---- the search

-- what the search has found: names that reach the target, and all that apply one of the first of them
pub record Found (links : List Application) (target : List ℕ) (names : List (List ℕ)) (next : ℕ) : Type 0 where
  pub target_in : Contains names target
  pub sound : (a : List ℕ) → Contains names a → Reaches links a target
  pub closed : (a b : List ℕ) (k : ℕ) → k < next → get_or names k b ≡ b → Contains links (link a b) → Contains names a
  pub within : next ≤ length names

pub found_first : (links : List Application) (target : List ℕ) (names : List (List ℕ)) → names ≡ target ∷ [] → Found links target names 0
found_first links target names e = record {
  target_in = rw e (contains_head target []);
  sound = λ a h. elim (contains_cases target a [] (rw e at h)) as (λ _. Reaches links a target)
      [ inl same ↦ subst (λ (x : List ℕ). Reaches links x target) same itself | inr none ↦ contains_none a none ];
  closed = λ a b k lt at one. absurd (omega (arith, lt));
  within = omega arith;
}

pub found_step : (links : List Application) (target : List ℕ) (names : List (List ℕ)) (next : ℕ) (name : List ℕ) (after : List (List ℕ)) →
    Found links target names next → next < length names → slice_get names next ≡ Some name → after ≡ with_appliers links name names →
    Found links target after (next + 1)
found_step links target names next name after f lt at e =
    let starts = front links name names in
    let name_in : Contains names name = (next, lt, get_or_from_slice_get names next name name at) in
    record {
      target_in = rw e (still links name names target f.target_in);
      sound = λ a h. elim (new_ones links name names a (rw e at h)) as (λ _. Reaches links a target)
          [ inl k ↦ f.sound a k | inr one ↦ applies one (f.sound name name_in) ];
      closed = λ a b k below at_k one.
          let read : get_or after k b ≡ get_or names k b = ap (λ u. get_or u k b) (e ∙ starts.is) ∙ get_or_append_left names starts.more b k (omega (arith, below, lt)) in
          elim (cases_lt k next) as (λ _. Contains after a) [
            | inl less ↦ rw e (still links name names a (f.closed a b k less (sym read ∙ at_k) one))
            | inr more ↦
                let same : k ≡ next = omega (arith, below, more) in
                let b_is : name ≡ b = sym (get_or_from_slice_get names next name b at) ∙ ap (λ i. get_or names i b) (sym same) ∙ sym read ∙ at_k in
                rw e (all_appliers links name names a (subst (λ (x : List ℕ). Contains links (link a x)) (sym b_is) one))
          ];
      within = rw (e ∙ starts.is) (simp length-append (omega (arith, lt)));
    }

pub found_all : (links : List Application) (target : List ℕ) (names : List (List ℕ)) (next : ℕ) → Found links target names next → length names ≤ next →
    (a : List ℕ) → Contains names a ↔ Reaches links a target
found_all links target names next f end a = (
  f.sound a,
  (λ r. reached links names (λ x b h one. f.closed x b h.0 (omega (arith, h.1, end)) h.2 one) a target f.target_in r),
)

pub closer : (links : List Application) (names : List (List ℕ)) (next : ℕ) (name : List ℕ) (after : List (List ℕ)) →
    next < length names → after ≡ with_appliers links name names →
    unfound links after + length after - (next + 1) < unfound links names + length names - next
closer links names next name after lt e = rw e (omega (arith, no_more links links name names (λ a h. h), lt))
