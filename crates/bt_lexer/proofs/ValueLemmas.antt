-- What the parts of a text stand for, part by part.
use Rattle.std.proofs.Common.{◌≡◌, ℕ, zero, suc, ◌+◌, ◌-◌, ◌≤◌, ◌<◌, Bool, true, false, ◌&&◌, List, [], ◌∷◌, ◌++◌, length, take, drop, get_or, refl, sym, subst, ap, ◌∙◌, ◌⊎◌, inl, inr, ⊎_elim, arith, Option, Some, None, if◌then◌else◌, nat_eq, nat_lt}
use Rattle.std.proofs.lemmas.Bool.Decides.{nat_tests}
use Rattle.std.specs.List.{list_all}
use Rattle.bt_lexer.specs.Bytes.{quote, backslash, is_backslash, begins}
use Rattle.bt_lexer.specs.Strings.{Part, is_hex, unit_at, escaped_unit_at, short_of, short_escape, escape_at, is_plain, part_at, len_of, value_of, is_empty, is_closed, parts_value, is_quoted}
use Rattle.std.proofs.lemmas.List.{get_or-drop}
use Rattle.bt_lexer.proofs.KindLemmas.{and_left, and_right, nat_eq_same}
use Rattle.bt_lexer.proofs.PartLemmas.{either, Unicode, unicode_cases, short_len}

pub skip_closed : (v : List ℕ) (k : ℕ) → is_closed v k ≡ is_closed (drop k v) 0
skip_closed [] zero = refl
skip_closed [] (suc k) = refl
skip_closed (c ∷ v) zero = refl
skip_closed (c ∷ v) (suc k) = skip_closed v k

pub skip_value : (v : List ℕ) (k : ℕ) → parts_value v k ≡ parts_value (drop k v) 0
skip_value [] zero = refl
skip_value [] (suc k) = refl
skip_value (c ∷ v) zero = refl
skip_value (c ∷ v) (suc k) = skip_value v k

-- one part read: what is left is closed, and stands for the rest
pub record Step (s : List ℕ) (n : ℕ) (value : List ℕ) : Type 0 where
  pub closed : is_closed (drop n s) 0 ≡ true
  pub same : parts_value s 0 ≡ value ++ parts_value (drop n s) 0

pub quote_no_part : (c : ℕ) (v : List ℕ) → nat_eq c quote ≡ true → part_at (c ∷ v) ≡ None
quote_no_part c v h = ap (λ y. part_at (y ∷ v)) (nat_eq_same c quote h)

pub part_step : (s : List ℕ) (p : Part) → part_at s ≡ Some p → is_closed s 0 ≡ true → Step s p.len p.value
part_step [] p h k = absurd (cc)
part_step (c ∷ v) p h k = go (nat_eq c quote) refl k
  where
    rest : (n : ℕ) → p.len ≡ n → nat_lt 0 n ≡ true → is_closed v (n - 1) ≡ true → Step (c ∷ v) n p.value
    rest zero e l k = let x : nat_lt 0 0 ≡ true = l in absurd (cc)
    rest (suc n) e l k =
        let m : suc n - 1 ≡ n = omega arith in
        record {
          closed = sym (skip_closed v n) ∙ subst (λ y. is_closed v y ≡ true) m k;
          same = ap (λ o. value_of o ++ parts_value v (len_of o - 1)) h ∙ ap (λ y. p.value ++ parts_value v (y - 1)) e ∙ ap (λ y. p.value ++ parts_value v y) m ∙ ap (λ y. p.value ++ y) (skip_value v n);
        }

    go : (b : Bool) → nat_eq c quote ≡ b → (if b then is_empty v else nat_lt 0 (len_of (part_at (c ∷ v))) && is_closed v (len_of (part_at (c ∷ v)) - 1)) ≡ true → Step (c ∷ v) p.len p.value
    go true q k = let x : None ≡ Some p = sym (quote_no_part c v q) ∙ h in absurd (cc)
    go false q k =
        let k' : (nat_lt 0 p.len && is_closed v (p.len - 1)) ≡ true = subst (λ o. (nat_lt 0 (len_of o) && is_closed v (len_of o - 1)) ≡ true) h k in
        rest p.len refl (and_left _ _ k') (and_right _ _ k')

plain_no_backslash : (c : ℕ) → is_plain c ≡ true → nat_eq c backslash ≡ false
plain_no_backslash c h = grind (arith, nat_tests)

abbrev alone : ℕ → Part
alone c = record { len = 1; value = c ∷ [] }

abbrev if_plain : ℕ → Bool → Option Part
if_plain c b = if b then Some (alone c) else None

abbrev chosen : ℕ → List ℕ → Bool → Option Part
chosen c v b = if b then escape_at v else if_plain c (is_plain c)

plain_part : (c : ℕ) (v : List ℕ) → is_plain c ≡ true → part_at (c ∷ v) ≡ Some (alone c)
plain_part c v h = ap (chosen c v) (plain_no_backslash c h) ∙ ap (if_plain c) h

pub plain_run : (n : ℕ) (s : List ℕ) → n ≤ length s → list_all is_plain (take n s) ≡ true → is_closed s 0 ≡ true → Step s n (take n s)
plain_run zero s le all k = record { closed = k; same = refl }
plain_run (suc n) [] le all k = absurd (omega arith)
plain_run (suc n) (c ∷ v) le all k =
    let one = part_step (c ∷ v) (record { len = 1; value = c ∷ [] }) (plain_part c v (and_left _ _ all)) k in
    let more = plain_run n v (omega arith) (and_right _ _ all) one.closed in
    record { closed = more.closed; same = one.same ∙ ap (λ y. c ∷ y) more.same }

-- where neither a plain byte nor an escape begins, the text ends
pub record Ended (s : List ℕ) : Type 0 where
  pub value : parts_value s 0 ≡ []

no_part_closed : (c : ℕ) (v : List ℕ) → nat_eq c quote ≡ false → part_at (c ∷ v) ≡ None → is_closed (c ∷ v) 0 ≡ true → ⊥
no_part_closed c v q h k =
    let a = subst (λ b. (if b then is_empty v else nat_lt 0 (len_of (part_at (c ∷ v))) && is_closed v (len_of (part_at (c ∷ v)) - 1)) ≡ true) q k in
    let b : (nat_lt 0 0 && is_closed v (0 - 1)) ≡ true = subst (λ o. (nat_lt 0 (len_of o) && is_closed v (len_of o - 1)) ≡ true) h a in
    let z : nat_lt 0 0 ≡ true = and_left (nat_lt 0 0) (is_closed v (0 - 1)) b in cc

stuck_part : (c : ℕ) (v : List ℕ) → is_plain c ≡ false → (nat_eq c backslash ≡ true → part_at (c ∷ v) ≡ None) → part_at (c ∷ v) ≡ None
stuck_part c v p h = go (nat_eq c backslash) refl
  where
    go : (b : Bool) → nat_eq c backslash ≡ b → part_at (c ∷ v) ≡ None
    go true e = h e
    go false e = ap (chosen c v) e ∙ ap (if_plain c) p

pub text_ended : (s : List ℕ) → is_closed s 0 ≡ true → begins is_plain s ≡ false → (begins is_backslash s ≡ true → part_at s ≡ None) → parts_value s 0 ≡ []
text_ended [] k p h = refl
text_ended (c ∷ v) k p h = go (nat_eq c quote) refl
  where
    none : part_at (c ∷ v) ≡ None
    none = stuck_part c v p h

    empty : (v : List ℕ) → is_empty v ≡ true → parts_value v 0 ≡ []
    empty [] e = refl
    empty (d ∷ v) e = absurd (cc)

    go : (b : Bool) → nat_eq c quote ≡ b → parts_value (c ∷ v) 0 ≡ []
    go false q = absurd (no_part_closed c v q none k)
    go true q =
        let e : is_empty v ≡ true = subst (λ b. (if b then is_empty v else nat_lt 0 (len_of (part_at (c ∷ v))) && is_closed v (len_of (part_at (c ∷ v)) - 1)) ≡ true) q k in
        ap (λ o. value_of o ++ parts_value v (len_of o - 1)) none ∙ empty v e

stuck_low : (c : ℕ) → is_plain c ≡ false → c < 128
stuck_low c h = grind (arith, nat_tests)

-- what isn't plain is below 128, and something is there
pub run_stops : (s : List ℕ) → is_closed s 0 ≡ true → begins is_plain s ≡ false → (0 < length s) × (get_or s 0 0 < 128)
run_stops [] k p = absurd (cc)
run_stops (c ∷ v) k p = (omega arith, stuck_low c p)

-- a text of the first form
pub record Quoted (s : List ℕ) : Type 0 where
  pub some : 1 ≤ length s
  pub mark : get_or s 0 0 < 128
  pub closed : is_closed (drop 1 s) 0 ≡ true

pub quoted_is : (s : List ℕ) → is_quoted s ≡ true → Quoted s
quoted_is [] h = absurd (cc)
quoted_is (c ∷ v) h = let e = nat_eq_same c quote (and_left _ _ h) in record { some = omega arith; mark = omega arith; closed = and_right _ _ h }

hex_low : (c : ℕ) → is_hex c ≡ true → c < 128
hex_low c h = grind (arith, nat_tests)

if_true : (b : Bool) (o : Option ℕ) (n : ℕ) → (if b then o else None) ≡ Some n → (b ≡ true) × (o ≡ Some n)
if_true true o n h = (refl, h)
if_true false o n h = absurd (cc)

unit_last : (x : List ℕ) (n : ℕ) → unit_at x ≡ Some n → get_or x 3 0 < 128
unit_last [] n h = absurd (cc)
unit_last (a ∷ []) n h = absurd (cc)
unit_last (a ∷ b ∷ []) n h = absurd (cc)
unit_last (a ∷ b ∷ c ∷ []) n h = absurd (cc)
unit_last (a ∷ b ∷ c ∷ d ∷ x) n h = hex_low d (and_right (is_hex a && is_hex b && is_hex c) (is_hex d) (if_true (is_hex a && is_hex b && is_hex c && is_hex d) _ n h).0)

escaped_last : (x : List ℕ) (n : ℕ) → escaped_unit_at x ≡ Some n → get_or x 5 0 < 128
escaped_last [] n h = absurd (cc)
escaped_last (a ∷ []) n h = absurd (cc)
escaped_last (a ∷ b ∷ x) n h = unit_last x n (if_true _ (unit_at x) n h).1

wide_not : (c n : ℕ) → 128 ≤ c → n < 128 → nat_eq c n ≡ false
wide_not c n h l = grind (arith, nat_tests)

wide_no_short : (e : ℕ) → 128 ≤ e → short_escape e ≡ None
wide_no_short e h = rw (wide_not e 34 h (omega arith), wide_not e 92 h (omega arith), wide_not e 47 h (omega arith), wide_not e 98 h (omega arith), wide_not e 102 h (omega arith), wide_not e 110 h (omega arith), wide_not e 114 h (omega arith), wide_not e 116 h (omega arith)) refl

low_or_wide : (e : ℕ) → (e < 128) ⊎ (128 ≤ e)
low_or_wide e = go (nat_lt e 128) refl
  where
    go : (b : Bool) → nat_lt e 128 ≡ b → (e < 128) ⊎ (128 ≤ e)
    go true h = inl (grind (arith, nat_tests))
    go false h = inr (grind (arith, nat_tests))

short_low : (e c : ℕ) → short_escape e ≡ Some c → e < 128
short_low e c h = ⊎_elim (λ l. l) (λ w. (let x : None ≡ Some c = sym (wide_no_short e w) ∙ h in absurd (cc))) (low_or_wide e)

short_some : (o : Option ℕ) (p : Part) → short_of o ≡ Some p → (c : ℕ) × (o ≡ Some c)
short_some None p h = absurd (cc)
short_some (Some c) p h = (c, refl)

-- an escape ends with a byte below 128
pub record EndsLow (s : List ℕ) (p : Part) : Type 0 where
  pub long : 2 ≤ p.len
  pub last : get_or s (p.len - 1) 0 < 128

last_at : (s : List ℕ) (p : Part) (n m : ℕ) → p.len ≡ n → n ≡ suc m → 2 ≤ n → get_or s m 0 < 128 → EndsLow s p
last_at s p n m e f two low = let k : p.len - 1 ≡ m = omega arith in record { long = omega arith; last = subst (λ i. get_or s i 0 < 128) (sym k) low }

escape_last : (c e : ℕ) (x : List ℕ) (p : Part) (b : Bool) → either e x b ≡ Some p → EndsLow (c ∷ e ∷ x) p
escape_last c e x p false h = let o = short_some (short_escape e) p h in last_at (c ∷ e ∷ x) p 2 1 (short_len (short_escape e) p h) refl (omega arith) (short_low e o.0 o.1)
escape_last c e x p true h = go (unicode_cases (unit_at x) (escaped_unit_at (drop 4 x)) p h)
  where
    drop_four : (x : List ℕ) (i : ℕ) → get_or (drop 4 x) i 0 ≡ get_or x (4 + i) 0
    drop_four x i = get_or-drop 4 x i 0

    go : Unicode (unit_at x) (escaped_unit_at (drop 4 x)) p → EndsLow (c ∷ e ∷ x) p
    go u = ⊎_elim
        (λ a. last_at (c ∷ e ∷ x) p 12 11 a.3 refl (omega arith) (subst (λ y. y < 128) (drop_four x 5) (escaped_last (drop 4 x) a.1 a.2)))
        (λ b. last_at (c ∷ e ∷ x) p 6 5 b.1 refl (omega arith) (unit_last x u.n u.first)) u.rest

pub escape_ends : (s : List ℕ) (p : Part) → begins is_backslash s ≡ true → part_at s ≡ Some p → EndsLow s p
escape_ends [] p b h = absurd (cc)
escape_ends (c ∷ []) p b h = let x : None ≡ Some p = sym (ap (chosen c []) b) ∙ h in absurd (cc)
escape_ends (c ∷ e ∷ x) p b h = escape_last c e x p (nat_eq e 117) (sym (ap (chosen c (e ∷ x)) b) ∙ h)
