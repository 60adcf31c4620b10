-- A text of the first form is what its parts spell.
use Rattle.std.proofs.Common.{◌≡◌, ℕ, zero, suc, ◌-◌, ◌≤◌, ◌<◌, Bool, true, false, ◌&&◌, List, [], ◌∷◌, ◌++◌, length, take, drop, refl, sym, subst, ap, ◌∙◌, arith, Option, Some, None, if◌then◌else◌, nat_eq, nat_lt, append_assoc, take-append-drop}
use Rattle.std.proofs.lemmas.Bool.Decides.{nat_tests}
use Rattle.std.proofs.lemmas.List.{drop_at, length-drop}
use Rattle.std.specs.Prelude.{encode_utf8}
use Rattle.bt_lexer.specs.Bytes.{quote, backslash}
use Rattle.bt_lexer.specs.Strings.{Part, unit_at, escaped_unit_at, is_high, is_low, pair_value, pair_of, unicode_of, short_of, short_escape, escape_at, is_plain, part_at, len_of, value_of, is_empty, is_closed, parts_value, is_quoted, begins_tripled, text_value}
use Rattle.bt_lexer.specs.Spelling.{IsPart, plain, short, unit, pair, Spells, nothing, part}
use Rattle.bt_lexer.proofs.KindLemmas.{and_left, and_right, nat_eq_same}
use Rattle.bt_lexer.proofs.PartLemmas.{part_more}
use Rattle.bt_lexer.proofs.ValueLemmas.{part_step, skip_closed, skip_value, quote_no_part}

-- from spelled parts to the bytes

abbrev spelt : ℕ → List ℕ → Part
spelt n w = record { len = n; value = w }

abbrev pair_if : ℕ → ℕ → Bool → Option Part
pair_if n m b = if b then Some (record { len = 12; value = encode_utf8 (pair_value n m) }) else None

abbrev low_if : ℕ → Bool → Option Part
low_if n b = if b then None else Some (record { len = 6; value = encode_utf8 n })

abbrev high_if : ℕ → Option ℕ → Bool → Option Part
high_if n next b = if b then pair_of n next else low_if n (is_low n)

unit_part : (n : ℕ) (next : Option ℕ) → is_high n ≡ false → is_low n ≡ false → unicode_of (Some n) next ≡ Some (record { len = 6; value = encode_utf8 n })
unit_part n next h l = ap (high_if n next) h ∙ ap (low_if n) l

pair_part : (n m : ℕ) → is_high n ≡ true → is_low m ≡ true → unicode_of (Some n) (Some m) ≡ Some (record { len = 12; value = encode_utf8 (pair_value n m) })
pair_part n m h l = ap (high_if n (Some m)) h ∙ ap (pair_if n m) l

short_not_u : (e c : ℕ) → short_escape e ≡ Some c → nat_eq e 117 ≡ false
short_not_u e c h = go (nat_eq e 117) refl
  where
    go : (b : Bool) → nat_eq e 117 ≡ b → b ≡ false
    go false q = refl
    go true q = let x : None ≡ Some c = sym (ap short_escape (nat_eq_same e 117 q)) ∙ h in absurd (cc)

abbrev either : ℕ → List ℕ → Bool → Option Part
either e v b = if b then unicode_of (unit_at v) (escaped_unit_at (drop 4 v)) else short_of (short_escape e)

abbrev if_plain : ℕ → Bool → Option Part
if_plain c b = if b then Some (record { len = 1; value = c ∷ [] }) else None

abbrev chosen : ℕ → List ℕ → Bool → Option Part
chosen c v b = if b then escape_at v else if_plain c (is_plain c)

plain_no_backslash : (c : ℕ) → is_plain c ≡ true → nat_eq c backslash ≡ false
plain_no_backslash c h = grind (arith, nat_tests)

-- a part as it is spelled is the part at its front
pub part_read : (u w : List ℕ) → IsPart u w → part_at u ≡ Some (record { len = length u; value = w })
part_read _ _ (plain c h) = ap (chosen c []) (plain_no_backslash c h) ∙ ap (if_plain c) h
part_read _ _ (short e c h) = ap (either e []) (short_not_u e c h) ∙ ap short_of h
part_read _ _ (unit a b c d n h i l) = ap (λ o. unicode_of o None) h ∙ unit_part n None i l
part_read _ _ (pair a b c d n e f g h m x i y l) = ap (λ o. unicode_of o (unit_at (e ∷ f ∷ g ∷ h ∷ []))) x ∙ ap (unicode_of (Some n)) y ∙ pair_part n m i l

part_some : (u w : List ℕ) → IsPart u w → 0 < length u
part_some _ _ (plain c h) = omega arith
part_some _ _ (short e c h) = omega arith
part_some _ _ (unit a b c d n h i l) = omega arith
part_some _ _ (pair a b c d n e f g h m x i y l) = omega arith

abbrev closed_here : List ℕ → Bool → Option Part → Bool
closed_here v b o = if b then is_empty v else nat_lt 0 (len_of o) && is_closed v (len_of o - 1)

a_len : (n : ℕ) → nat_lt 0 (suc n) ≡ true
a_len n = grind (arith, nat_tests)

-- what is closed behind a part is closed before it
closed_back : (s : List ℕ) (n : ℕ) (w : List ℕ) → part_at s ≡ Some (record { len = suc n; value = w }) → is_closed (drop (suc n) s) 0 ≡ true → is_closed s 0 ≡ true
closed_back [] n w h k = absurd (cc)
closed_back (c ∷ v) n w h k = go (nat_eq c quote) refl
  where
    m : suc n - 1 ≡ n
    m = omega arith

    go : (b : Bool) → nat_eq c quote ≡ b → is_closed (c ∷ v) 0 ≡ true
    go true q = let x : None ≡ Some (spelt (suc n) w) = sym (quote_no_part c v q) ∙ h in absurd (cc)
    go false q = ap (λ b. closed_here v b (part_at (c ∷ v))) q ∙ ap (closed_here v false) h ∙ ap (λ b. b && is_closed v (suc n - 1)) (a_len n) ∙ ap (is_closed v) m ∙ skip_closed v n ∙ k

value_back : (s : List ℕ) (n : ℕ) (w : List ℕ) → part_at s ≡ Some (record { len = suc n; value = w }) → parts_value s 0 ≡ w ++ parts_value (drop (suc n) s) 0
value_back [] n w h = absurd (cc)
value_back (c ∷ v) n w h =
    let m : suc n - 1 ≡ n = omega arith in
    ap (λ o. value_of o ++ parts_value v (len_of o - 1)) h ∙ ap (λ k. w ++ parts_value v k) m ∙ ap (λ y. w ++ y) (skip_value v n)

pub record Closed (y w : List ℕ) : Type 0 where
  pub closed : is_closed y 0 ≡ true
  pub value : parts_value y 0 ≡ w

before_part : (u w y x : List ℕ) (n : ℕ) → length u ≡ suc n → IsPart u w → Closed y x → Closed (u ++ y) (w ++ x)
before_part u w y x n e p k =
    let at : part_at (u ++ y) ≡ Some (record { len = suc n; value = w }) = part_more u y (record { len = suc n; value = w }) (part_read u w p ∙ ap (λ m. Some (record { len = m; value = w })) e) in
    let rest : drop (suc n) (u ++ y) ≡ y = drop_at u y (suc n) e in
    record {
      closed = closed_back (u ++ y) n w at (subst (λ z. is_closed z 0 ≡ true) (sym rest) k.closed);
      value = value_back (u ++ y) n w at ∙ ap (λ z. w ++ parts_value z 0) rest ∙ ap (λ z. w ++ z) k.value;
    }

suc_of : (n : ℕ) → 0 < n → (m : ℕ) × (n ≡ suc m)
suc_of zero h = absurd (omega arith)
suc_of (suc m) h = (m, refl)

spelled_closed : (v w : List ℕ) → Spells v w → Closed (v ++ quote ∷ []) w
spelled_closed _ _ nothing = record { closed = refl; value = refl }
spelled_closed _ _ (part {u} {v} {w} {x} p more) =
    let some = suc_of (length u) (part_some u w p) in
    subst (λ y. Closed y (w ++ x)) (sym (append_assoc u v (quote ∷ []))) (before_part u w (v ++ quote ∷ []) x some.0 some.1 p (spelled_closed v x more))

closed_no_three : (y : List ℕ) → is_closed y 0 ≡ true → begins_tripled (quote ∷ y) ≡ false
closed_no_three [] h = refl
closed_no_three (c ∷ []) h = refl
closed_no_three (c ∷ d ∷ v) h = go (nat_eq c quote) refl
  where
    go : (b : Bool) → nat_eq c quote ≡ b → (b && nat_eq d quote) ≡ false
    go false q = refl
    go true q = let x : false ≡ true = sym (ap (λ b. closed_here (d ∷ v) b (part_at (c ∷ d ∷ v))) q) ∙ h in absurd (cc)

abbrev value_if : List ℕ → Bool → List ℕ
value_if u b = if b then take (length u - 6) (drop 3 u) else parts_value (drop 1 u) 0

quoted_value_is : (y : List ℕ) → is_closed y 0 ≡ true → text_value (quote ∷ y) ≡ parts_value y 0
quoted_value_is y h = ap (value_if (quote ∷ y)) (closed_no_three y h)

-- what parts spell, between two marks, is a text, and they are its value
pub spelled_text : (v w : List ℕ) → Spells v w → (is_quoted (quote ∷ (v ++ quote ∷ [])) ≡ true) × (text_value (quote ∷ (v ++ quote ∷ [])) ≡ w)
spelled_text v w h = let k = spelled_closed v w h in (k.closed, quoted_value_is (v ++ quote ∷ []) k.closed ∙ k.value)

-- from the bytes to spelled parts

abbrev Is : List ℕ → Part → Type 0
Is y p = IsPart (take p.len y) p.value

same_part : (p q : Part) → Some p ≡ Some q → p ≡ q
same_part p q h = cc

is_part : (y : List ℕ) (n : ℕ) (w : List ℕ) (p : Part) → Some (spelt n w) ≡ Some p → Is y (spelt n w) → Is y p
is_part y n w p h k = subst (Is y) (same_part (spelt n w) p h) k

none_some : (p : Part) → None ≡ Some p → ⊥
none_some p h = cc

if_plain_is : (c : ℕ) (v : List ℕ) (p : Part) (b : Bool) → is_plain c ≡ b → if_plain c b ≡ Some p → Is (c ∷ v) p
if_plain_is c v p true q h = is_part (c ∷ v) 1 (c ∷ []) p h (plain c q)
if_plain_is c v p false q h = absurd (none_some p h)

short_is : (e : ℕ) (x : List ℕ) (p : Part) (o : Option ℕ) → short_escape e ≡ o → short_of o ≡ Some p → Is (backslash ∷ e ∷ x) p
short_is e x p None q h = absurd (none_some p h)
short_is e x p (Some c) q h = is_part (backslash ∷ e ∷ x) 2 (c ∷ []) p h (short e c q)

low_is : (a b c d n : ℕ) (z : List ℕ) (p : Part) → unit_at (a ∷ b ∷ c ∷ d ∷ []) ≡ Some n → is_high n ≡ false → (l : Bool) → is_low n ≡ l → low_if n l ≡ Some p → Is (backslash ∷ 117 ∷ a ∷ b ∷ c ∷ d ∷ z) p
low_is a b c d n z p u i true l h = absurd (none_some p h)
low_is a b c d n z p u i false l h = is_part (backslash ∷ 117 ∷ a ∷ b ∷ c ∷ d ∷ z) 6 (encode_utf8 n) p h (unit a b c d n u i l)

pair_low_is : (a b c d n e f g k m : ℕ) (t : List ℕ) (p : Part) → unit_at (a ∷ b ∷ c ∷ d ∷ []) ≡ Some n → is_high n ≡ true → unit_at (e ∷ f ∷ g ∷ k ∷ []) ≡ Some m → (l : Bool) → is_low m ≡ l → pair_if n m l ≡ Some p →
    Is (backslash ∷ 117 ∷ a ∷ b ∷ c ∷ d ∷ backslash ∷ 117 ∷ e ∷ f ∷ g ∷ k ∷ t) p
pair_low_is a b c d n e f g k m t p u i v true l h = is_part (backslash ∷ 117 ∷ a ∷ b ∷ c ∷ d ∷ backslash ∷ 117 ∷ e ∷ f ∷ g ∷ k ∷ t) 12 (encode_utf8 (pair_value n m)) p h (pair a b c d n e f g k m u i v l)
pair_low_is a b c d n e f g k m t p u i v false l h = absurd (none_some p h)

module _ (a b c d n : ℕ) (p : Part) (u : unit_at (a ∷ b ∷ c ∷ d ∷ []) ≡ Some n) (i : is_high n ≡ true) where
  second_is : (t : List ℕ) (o : Option ℕ) → unit_at t ≡ o → pair_of n o ≡ Some p → Is (backslash ∷ 117 ∷ a ∷ b ∷ c ∷ d ∷ backslash ∷ 117 ∷ t) p
  second_is t None q h = absurd (none_some p h)
  second_is [] (Some m) q h = absurd (cc)
  second_is (e ∷ []) (Some m) q h = absurd (cc)
  second_is (e ∷ f ∷ []) (Some m) q h = absurd (cc)
  second_is (e ∷ f ∷ g ∷ []) (Some m) q h = absurd (cc)
  second_is (e ∷ f ∷ g ∷ k ∷ t) (Some m) q h = pair_low_is a b c d n e f g k m t p u i q (is_low m) refl h

  next_is : (z : List ℕ) → pair_of n (escaped_unit_at z) ≡ Some p → Is (backslash ∷ 117 ∷ a ∷ b ∷ c ∷ d ∷ z) p
  next_is [] h = absurd (none_some p h)
  next_is (x ∷ []) h = absurd (none_some p h)
  next_is (x ∷ y ∷ t) h = go (nat_eq x backslash) refl (nat_eq y 117) refl h
    where
      go : (v : Bool) → nat_eq x backslash ≡ v → (w : Bool) → nat_eq y 117 ≡ w → pair_of n (if v && w then unit_at t else None) ≡ Some p → Is (backslash ∷ 117 ∷ a ∷ b ∷ c ∷ d ∷ x ∷ y ∷ t) p
      go false e w f h = absurd (none_some p h)
      go true e false f h = absurd (none_some p h)
      go true e true f h =
          subst (λ x. Is (backslash ∷ 117 ∷ a ∷ b ∷ c ∷ d ∷ x ∷ y ∷ t) p) (sym (nat_eq_same x backslash e))
          (subst (λ y. Is (backslash ∷ 117 ∷ a ∷ b ∷ c ∷ d ∷ backslash ∷ y ∷ t) p) (sym (nat_eq_same y 117 f)) (second_is t (unit_at t) refl h))

first_is : (a b c d : ℕ) (z : List ℕ) (p : Part) (o : Option ℕ) → unit_at (a ∷ b ∷ c ∷ d ∷ []) ≡ o → unicode_of o (escaped_unit_at z) ≡ Some p → Is (backslash ∷ 117 ∷ a ∷ b ∷ c ∷ d ∷ z) p
first_is a b c d z p None u h = absurd (none_some p h)
first_is a b c d z p (Some n) u h = go (is_high n) refl h
  where
    go : (i : Bool) → is_high n ≡ i → high_if n (escaped_unit_at z) i ≡ Some p → Is (backslash ∷ 117 ∷ a ∷ b ∷ c ∷ d ∷ z) p
    go true i h = next_is a b c d n p u i z h
    go false i h = low_is a b c d n z p u i (is_low n) refl h

unicode_is : (x : List ℕ) (p : Part) → unicode_of (unit_at x) (escaped_unit_at (drop 4 x)) ≡ Some p → Is (backslash ∷ 117 ∷ x) p
unicode_is [] p h = absurd (none_some p h)
unicode_is (a ∷ []) p h = absurd (none_some p h)
unicode_is (a ∷ b ∷ []) p h = absurd (none_some p h)
unicode_is (a ∷ b ∷ c ∷ []) p h = absurd (none_some p h)
unicode_is (a ∷ b ∷ c ∷ d ∷ z) p h = first_is a b c d z p (unit_at (a ∷ b ∷ c ∷ d ∷ [])) refl h

escape_is : (v : List ℕ) (p : Part) → escape_at v ≡ Some p → Is (backslash ∷ v) p
escape_is [] p h = absurd (none_some p h)
escape_is (e ∷ x) p h = go (nat_eq e 117) refl h
  where
    go : (b : Bool) → nat_eq e 117 ≡ b → either e x b ≡ Some p → Is (backslash ∷ e ∷ x) p
    go true q h = subst (λ e. Is (backslash ∷ e ∷ x) p) (sym (nat_eq_same e 117 q)) (unicode_is x p h)
    go false q h = short_is e x p (short_escape e) refl h

part_is : (y : List ℕ) (p : Part) → part_at y ≡ Some p → Is y p
part_is [] p h = absurd (none_some p h)
part_is (c ∷ v) p h = go (nat_eq c backslash) refl h
  where
    go : (b : Bool) → nat_eq c backslash ≡ b → chosen c v b ≡ Some p → Is (c ∷ v) p
    go true q h = subst (λ c. Is (c ∷ v) p) (sym (nat_eq_same c backslash q)) (escape_is v p h)
    go false q h = if_plain_is c v p (is_plain c) refl h

-- what parts, and then a quotation mark, spell
pub record Spelled (y : List ℕ) : Type 0 where
  pub spelling : List ℕ
  pub value : List ℕ
  pub whole : y ≡ spelling ++ quote ∷ []
  pub spells : Spells spelling value

mark_alone : (c : ℕ) (v : List ℕ) → nat_eq c quote ≡ true → is_empty v ≡ true → Spelled (c ∷ v)
mark_alone c [] q e = record { spelling = []; value = []; whole = ap (λ x. x ∷ []) (nat_eq_same c quote q); spells = nothing }
mark_alone c (d ∷ v) q e = absurd (cc)

one_more : (y : List ℕ) (p : Part) → Is y p → Spelled (drop p.len y) → Spelled y
one_more y p is x = record {
  spelling = take p.len y ++ x.spelling;
  value = p.value ++ x.value;
  whole = sym (take-append-drop p.len y) ∙ ap (λ z. take p.len y ++ z) x.whole ∙ sym (append_assoc (take p.len y) x.spelling (quote ∷ []));
  spells = part is x.spells;
}

some_part : (o : Option Part) → nat_lt 0 (len_of o) ≡ true → (p : Part) × (o ≡ Some p)
some_part None h = let x : nat_lt 0 0 ≡ true = h in cc
some_part (Some p) h = (p, refl)

above_none : (n : ℕ) → nat_lt 0 n ≡ true → 0 < n
above_none n h = grind (arith, nat_tests)

spelled_within : (n : ℕ) (y : List ℕ) → length y ≤ n → is_closed y 0 ≡ true → Spelled y
spelled_within n [] le h = absurd (cc)
spelled_within zero (c ∷ v) le h = absurd (omega arith)
spelled_within (suc n) (c ∷ v) le h = go (nat_eq c quote) refl h (λ z l k. spelled_within n z l k)
  where
    go : (b : Bool) → nat_eq c quote ≡ b → closed_here v b (part_at (c ∷ v)) ≡ true → ((z : List ℕ) → length z ≤ n → is_closed z 0 ≡ true → Spelled z) → Spelled (c ∷ v)
    go true q k ih = mark_alone c v q k
    go false q k ih =
        let some = some_part (part_at (c ∷ v)) (and_left _ _ k) in
        let p : Part = some.0 in
        let long : 0 < p.len = above_none p.len (subst (λ o. nat_lt 0 (len_of o) ≡ true) some.1 (and_left _ _ k)) in
        let step = part_step (c ∷ v) p some.1 h in
        one_more (c ∷ v) p (part_is (c ∷ v) p some.1) (ih (drop p.len (c ∷ v)) (omega (arith, length-drop p.len (c ∷ v))) step.closed)

-- a text of the first form is parts between two marks, and stands for what they spell
pub text_spelled : (u : List ℕ) → is_quoted u ≡ true → (v : List ℕ) × (u ≡ quote ∷ (v ++ quote ∷ [])) × Spells v (text_value u)
text_spelled [] h = absurd (cc)
text_spelled (c ∷ y) h =
    let mark = nat_eq_same c quote (and_left _ _ h) in
    let x = spelled_within (length y) y (omega arith) (and_right _ _ h) in
    let whole : c ∷ y ≡ quote ∷ (x.spelling ++ quote ∷ []) = ap (λ z. z ∷ y) mark ∙ ap (λ z. quote ∷ z) x.whole in
    let value : text_value (c ∷ y) ≡ x.value = ap text_value whole ∙ (spelled_text x.spelling x.value x.spells).1 in
    (x.spelling, whole, subst (Spells x.spelling) (sym value) x.spells)
