-- The part of a text that begins at a place depends on no more bytes than spell it.
use Rattle.std.proofs.Common.{◌≡◌, ℕ, ◌+◌, ◌≤◌, Bool, true, false, List, [], ◌∷◌, ◌++◌, length, drop, refl, sym, subst, ap, ◌∙◌, ◌⊎◌, inl, inr, ⊎_elim, arith, Option, Some, None, nat_eq, if◌then◌else◌, length-drop}
use Rattle.std.specs.Prelude.{encode_utf8}
use Rattle.std.proofs.lemmas.List.{drop-append-le}
use Rattle.bt_lexer.specs.Bytes.{backslash}
use Rattle.bt_lexer.specs.Strings.{Part, pair_value, unit_at, escaped_unit_at, unicode_of, pair_of, is_high, is_low, short_of, short_escape, escape_at, is_plain, part_at, len_of}

unit_len : (x : List ℕ) (n : ℕ) → unit_at x ≡ Some n → 4 ≤ length x
unit_len [] n h = cc
unit_len (a ∷ []) n h = cc
unit_len (a ∷ b ∷ []) n h = cc
unit_len (a ∷ b ∷ c ∷ []) n h = cc
unit_len (a ∷ b ∷ c ∷ d ∷ x) n h = omega arith

unit_same : (x w : List ℕ) → 4 ≤ length x → unit_at (x ++ w) ≡ unit_at x
unit_same [] w h = absurd (omega arith)
unit_same (a ∷ []) w h = absurd (omega arith)
unit_same (a ∷ b ∷ []) w h = absurd (omega arith)
unit_same (a ∷ b ∷ c ∷ []) w h = absurd (omega arith)
unit_same (a ∷ b ∷ c ∷ d ∷ x) w h = refl

if_some : (b : Bool) (o : Option ℕ) (n : ℕ) → (if b then o else None) ≡ Some n → o ≡ Some n
if_some true o n h = h
if_some false o n h = absurd (cc)

escaped_unit_len : (x : List ℕ) (n : ℕ) → escaped_unit_at x ≡ Some n → 6 ≤ length x
escaped_unit_len [] n h = cc
escaped_unit_len (a ∷ []) n h = cc
escaped_unit_len (a ∷ b ∷ x) n h = let l = unit_len x n (if_some _ _ n h) in omega arith

escaped_unit_same : (x w : List ℕ) → 6 ≤ length x → escaped_unit_at (x ++ w) ≡ escaped_unit_at x
escaped_unit_same [] w h = absurd (omega arith)
escaped_unit_same (a ∷ []) w h = absurd (omega arith)
escaped_unit_same (a ∷ b ∷ x) w h = rw (unit_same x w (omega arith)) refl

-- what a part that `\u` begins is: a pair of surrogates, or a unit that is none
pub record Unicode (o next : Option ℕ) (p : Part) : Type 0 where
  pub n : ℕ
  pub first : o ≡ Some n
  pub rest : ((is_high n ≡ true) × (m : ℕ) × (next ≡ Some m) × (p.len ≡ 12)) ⊎ ((is_high n ≡ false) × (p.len ≡ 6))

pub unicode_cases : (o next : Option ℕ) (p : Part) → unicode_of o next ≡ Some p → Unicode o next p
unicode_cases None next p h = absurd (cc)
unicode_cases (Some n) next p h = go (is_high n) refl next h
  where
    pair : (m : ℕ) (b : Bool) → (if b then Some (record { len = 12; value = encode_utf8 (pair_value n m) }) else None) ≡ Some p → p.len ≡ 12
    pair m true h = let q = len_of (Some p) in let e : Some (record { len = 12; value = encode_utf8 (pair_value n m) }) ≡ Some p = h in sym (ap len_of e)
    pair m false h = absurd (cc)

    alone : (b : Bool) → (if b then None else Some (record { len = 6; value = encode_utf8 n })) ≡ Some p → p.len ≡ 6
    alone true h = absurd (cc)
    alone false h = sym (ap len_of h)

    high : is_high n ≡ true → (next : Option ℕ) → pair_of n next ≡ Some p → Unicode (Some n) next p
    high e None h = absurd (cc)
    high e (Some m) h = record { n = n; first = refl; rest = inl (e, m, refl, pair m (is_low m) h) }

    go : (b : Bool) → is_high n ≡ b → (next : Option ℕ) → unicode_of (Some n) next ≡ Some p → Unicode (Some n) next p
    go true e next h = high e next (subst (λ b. (if b then pair_of n next else if is_low n then None else Some (record { len = 6; value = encode_utf8 n })) ≡ Some p) e h)
    go false e next h = record { n = n; first = refl; rest = inr (e, alone (is_low n) (subst (λ b. (if b then pair_of n next else if is_low n then None else Some (record { len = 6; value = encode_utf8 n })) ≡ Some p) e h)) }

-- a unit that is no first half doesn't ask what follows
no_next : (n : ℕ) (next other : Option ℕ) → is_high n ≡ false → unicode_of (Some n) next ≡ unicode_of (Some n) other
no_next n next other h = rw h refl

abbrev pub unicode_at : List ℕ → Option Part
unicode_at x = unicode_of (unit_at x) (escaped_unit_at (drop 4 x))

-- bytes at the end change nothing where these many are there
unicode_same : (x w : List ℕ) (n : ℕ) → unit_at x ≡ Some n → ((is_high n ≡ false) ⊎ (6 ≤ length (drop 4 x))) → unicode_at (x ++ w) ≡ unicode_at x
unicode_same x w n h (inl low) =
    let l = unit_len x n h in
    ap (λ o. unicode_of o (escaped_unit_at (drop 4 (x ++ w)))) (unit_same x w l ∙ h) ∙ no_next n (escaped_unit_at (drop 4 (x ++ w))) (escaped_unit_at (drop 4 x)) low ∙ ap (λ o. unicode_of o (escaped_unit_at (drop 4 x))) (sym h)
unicode_same x w n h (inr k) =
    let l = unit_len x n h in
    ap (λ o. unicode_of o (escaped_unit_at (drop 4 (x ++ w)))) (unit_same x w l) ∙ ap (λ y. unicode_of (unit_at x) (escaped_unit_at y)) (drop-append-le 4 x w l) ∙ ap (unicode_of (unit_at x)) (escaped_unit_same (drop 4 x) w k)

unicode_more : (x w : List ℕ) (p : Part) → unicode_at x ≡ Some p → unicode_at (x ++ w) ≡ Some p
unicode_more x w p h = go (unicode_cases (unit_at x) (escaped_unit_at (drop 4 x)) p h)
  where
    go : Unicode (unit_at x) (escaped_unit_at (drop 4 x)) p → unicode_at (x ++ w) ≡ Some p
    go u = ⊎_elim (λ a. unicode_same x w u.n u.first (inr (escaped_unit_len (drop 4 x) a.1 a.2)) ∙ h) (λ b. unicode_same x w u.n u.first (inl b.0) ∙ h) u.rest

unicode_less : (x w : List ℕ) (p : Part) → unicode_at (x ++ w) ≡ Some p → p.len ≤ 2 + length x → unicode_at x ≡ Some p
unicode_less x w p h fits = go (unicode_cases (unit_at (x ++ w)) (escaped_unit_at (drop 4 (x ++ w))) p h)
  where
    go : Unicode (unit_at (x ++ w)) (escaped_unit_at (drop 4 (x ++ w))) p → unicode_at x ≡ Some p
    go u = ⊎_elim
        (λ a. (let l : 4 ≤ length x = omega (arith, a.3) in let k : 6 ≤ length (drop 4 x) = omega (arith, length-drop 4 x, a.3) in sym (unicode_same x w u.n (sym (unit_same x w l) ∙ u.first) (inr k)) ∙ h))
        (λ b. (let l : 4 ≤ length x = omega (arith, b.1) in sym (unicode_same x w u.n (sym (unit_same x w l) ∙ u.first) (inl b.0)) ∙ h)) u.rest

unicode_long : (x : List ℕ) (p : Part) → unicode_at x ≡ Some p → 6 ≤ p.len
unicode_long x p h = go (unicode_cases (unit_at x) (escaped_unit_at (drop 4 x)) p h)
  where
    go : Unicode (unit_at x) (escaped_unit_at (drop 4 x)) p → 6 ≤ p.len
    go u = ⊎_elim (λ a. omega (arith, a.3)) (λ b. omega (arith, b.1)) u.rest

pub short_len : (o : Option ℕ) (p : Part) → short_of o ≡ Some p → p.len ≡ 2
short_len None p h = absurd (cc)
short_len (Some c) p h = sym (ap len_of h)

abbrev pub either : (e : ℕ) (x : List ℕ) (b : Bool) → Option Part
either e x b = if b then unicode_at x else short_of (short_escape e)

either_more : (e : ℕ) (x w : List ℕ) (p : Part) (b : Bool) → either e x b ≡ Some p → either e (x ++ w) b ≡ Some p
either_more e x w p true h = unicode_more x w p h
either_more e x w p false h = h

either_less : (e : ℕ) (x w : List ℕ) (p : Part) (b : Bool) → either e (x ++ w) b ≡ Some p → p.len ≤ 2 + length x → either e x b ≡ Some p
either_less e x w p true h fits = unicode_less x w p h fits
either_less e x w p false h fits = h

either_long : (e : ℕ) (x : List ℕ) (p : Part) (b : Bool) → either e x b ≡ Some p → 2 ≤ p.len
either_long e x p true h = let l = unicode_long x p h in omega arith
either_long e x p false h = let l = short_len (short_escape e) p h in omega arith

escape_more : (v w : List ℕ) (p : Part) → escape_at v ≡ Some p → escape_at (v ++ w) ≡ Some p
escape_more [] w p h = absurd (cc)
escape_more (e ∷ x) w p h = either_more e x w p (nat_eq e 117) h

escape_long : (v : List ℕ) (p : Part) → escape_at v ≡ Some p → 2 ≤ p.len
escape_long [] p h = absurd (cc)
escape_long (e ∷ x) p h = either_long e x p (nat_eq e 117) h

escape_less : (v w : List ℕ) (p : Part) → escape_at (v ++ w) ≡ Some p → p.len ≤ 1 + length v → escape_at v ≡ Some p
escape_less [] w p h fits = let l = escape_long w p h in absurd (omega arith)
escape_less (e ∷ x) w p h fits = either_less e x w p (nat_eq e 117) h (omega arith)

abbrev choice : ℕ → List ℕ → Bool → Option Part
choice c v b = if b then escape_at v else if is_plain c then Some (record { len = 1; value = c ∷ [] }) else None

choice_more : (c : ℕ) (v w : List ℕ) (p : Part) (b : Bool) → choice c v b ≡ Some p → choice c (v ++ w) b ≡ Some p
choice_more c v w p true h = escape_more v w p h
choice_more c v w p false h = h

choice_less : (c : ℕ) (v w : List ℕ) (p : Part) (b : Bool) → choice c (v ++ w) b ≡ Some p → p.len ≤ 1 + length v → choice c v b ≡ Some p
choice_less c v w p true h fits = escape_less v w p h fits
choice_less c v w p false h fits = h

-- a part stays the part whatever follows
pub part_more : (u w : List ℕ) (p : Part) → part_at u ≡ Some p → part_at (u ++ w) ≡ Some p
part_more [] w p h = absurd (cc)
part_more (c ∷ v) w p h = choice_more c v w p (nat_eq c backslash) h

-- and the bytes that spell it are enough
pub part_less : (c : ℕ) (v w : List ℕ) (p : Part) → part_at (c ∷ (v ++ w)) ≡ Some p → p.len ≤ 1 + length v → part_at (c ∷ v) ≡ Some p
part_less c v w p h fits = choice_less c v w p (nat_eq c backslash) h fits

unicode_fits : (x : List ℕ) (p : Part) → unicode_at x ≡ Some p → p.len ≤ 2 + length x
unicode_fits x p h = go (unicode_cases (unit_at x) (escaped_unit_at (drop 4 x)) p h)
  where
    go : Unicode (unit_at x) (escaped_unit_at (drop 4 x)) p → p.len ≤ 2 + length x
    go u = let l = unit_len x u.n u.first in
        ⊎_elim (λ a. (let k = escaped_unit_len (drop 4 x) a.1 a.2 in omega (arith, length-drop 4 x, a.3))) (λ b. omega (arith, b.1)) u.rest

either_fits : (e : ℕ) (x : List ℕ) (p : Part) (b : Bool) → either e x b ≡ Some p → p.len ≤ 2 + length x
either_fits e x p true h = unicode_fits x p h
either_fits e x p false h = let l = short_len (short_escape e) p h in omega arith

escape_fits : (v : List ℕ) (p : Part) → escape_at v ≡ Some p → p.len ≤ 1 + length v
escape_fits [] p h = absurd (cc)
escape_fits (e ∷ x) p h = let l = either_fits e x p (nat_eq e 117) h in omega arith

alone_fits : (c : ℕ) (p : Part) (b : Bool) → (if b then Some (record { len = 1; value = c ∷ [] }) else None) ≡ Some p → p.len ≡ 1
alone_fits c p false h = absurd (cc)
alone_fits c p true h = sym (ap len_of h)

choice_fits : (c : ℕ) (v : List ℕ) (p : Part) (b : Bool) → choice c v b ≡ Some p → p.len ≤ 1 + length v
choice_fits c v p true h = escape_fits v p h
choice_fits c v p false h = let l = alone_fits c p (is_plain c) h in omega arith

-- a part is spelled within the text
pub part_fits : (s : List ℕ) → len_of (part_at s) ≤ length s
part_fits [] = omega arith
part_fits (c ∷ v) = let l = go (part_at (c ∷ v)) refl in omega arith
  where
    go : (o : Option Part) → part_at (c ∷ v) ≡ o → len_of o ≤ 1 + length v
    go None h = omega arith
    go (Some p) h = choice_fits c v p (nat_eq c backslash) h
