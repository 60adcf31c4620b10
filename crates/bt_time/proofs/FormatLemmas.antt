-- What a text shows by a format.
use Rattle.std.proofs.Common.{◌≡◌, ◌≢◌, ℕ, List, Bool, true, false, ◌&&◌, if◌then◌else◌, Some, None, refl, sym, ap, subst, arith, nat_eq}
use Rattle.std.proofs.Common.{◌<◌, ◌≤◌, [], ◌∷◌, ◌++◌, encode_utf8}
use Rattle.std.proofs.lemmas.Str.{encode_ascii}
use Rattle.std.proofs.Common.{unwrap_or, zero, ◌^◌, suc, ◌+◌, length, eqb, ne_eqb}
use Rattle.std.specs.List.{position_or_len, before_first, after_first}
use Rattle.std.specs.Cmp.Lexicographic.{pointwise, told_text}
use Rattle.bt_time.specs.declared.civil.Civil.{Civil}
use Rattle.bt_time.specs.declared.format.Piece.{Piece}
use Rattle.bt_time.specs.declared.format.Piece.TheVariants.{Part, Byte}
use Rattle.bt_time.specs.declared.format.Directive.{Directive}
use Rattle.bt_time.specs.Civil.{is_civil}
use Rattle.bt_time.specs.Format.{directive_of, pieces_behind, shown_by, written, civil_in}

-- the choice of `civil_in`, where the two tests are known
chosen : (c : Civil) (a : Bool) (xs ys : List ℕ) (b : Bool) → b ≡ pointwise nat_eq xs ys → a ≡ true → xs ≡ ys
    → (if a && b then Some c else None) ≡ Some c
chosen c a xs ys true e is same = rw is refl
chosen c a xs ys false e is same = absurd (told_text xs ys false e same)

left : (c : Civil) (a : Bool) (xs ys : List ℕ) (b : Bool) → b ≡ pointwise nat_eq xs ys → (a ≡ true → xs ≢ ys)
    → (if a && b then Some c else None) ≡ None
left c false xs ys b e differ = refl
left c true xs ys false e differ = refl
left c true xs ys true e differ = absurd (differ refl (told_text xs ys true e))

-- a text that shows what is written in it
pub civil_found : (ps : List Piece) (t : List ℕ) → is_civil (written ps t) ≡ true → shown_by (written ps t) ps ≡ t
    → civil_in ps t ≡ Some (written ps t)
unfolding civil_in
civil_found ps t is shows = chosen (written ps t) (is_civil (written ps t)) (shown_by (written ps t) ps) t _ refl is shows

-- and one that doesn't
pub civil_missed : (ps : List Piece) (t : List ℕ) → (is_civil (written ps t) ≡ true → shown_by (written ps t) ps ≢ t)
    → civil_in ps t ≡ None
unfolding civil_in
civil_missed ps t differ = left (written ps t) (is_civil (written ps t)) (shown_by (written ps t) ps) t _ refl differ

-- an ASCII character is one byte
pub encoded : (c : ℕ) → c < 128 → encode_utf8 c ≡ c ∷ []
encoded c small = encode_ascii c small

-- a byte that is no directive's letter and no percent sign stands for itself, and so does the sign before it
pub plain_behind : (s : List ℕ) → ((b : ℕ) (bs : List ℕ) → s ≡ b ∷ bs → (directive_of b ≡ None) × (b ≢ 37))
    → pieces_behind true s ≡ Byte 37 ∷ pieces_behind false s
plain_behind [] none = refl
plain_behind (b ∷ bs) none =
    let letter : directive_of b ≡ None = (none b bs refl).0 in
    let other : nat_eq b 37 ≡ false = ne_eqb b 37 (none b bs refl).1 in
    rw (letter, other) refl

-- a second percent sign stands for one
pub sign_behind : (s : List ℕ) → pieces_behind true (37 ∷ s) ≡ Byte 37 ∷ pieces_behind false s
sign_behind s = refl

-- a directive's letter
pub letter_behind : (b : ℕ) (s : List ℕ) (d : Directive) → directive_of b ≡ Some d → pieces_behind true (b ∷ s) ≡ Part d ∷ pieces_behind false s
letter_behind b s d is = rw is refl

-- bytes before the first percent sign stand for themselves
pub plain_before : (c : Civil) (s : List ℕ) → position_or_len (λ b. eqb b 37) s < length s
    → shown_by c (pieces_behind false s) ≡ before_first (λ b. eqb b 37) s ++ shown_by c (pieces_behind true (after_first (λ b. eqb b 37) s))
plain_before c [] less = absurd (omega arith)
plain_before c (b ∷ bs) less = by_test (λ fewer. plain_before c bs fewer) (eqb b 37) refl
  where
    by_test : (position_or_len (λ b. eqb b 37) bs < length bs
        → shown_by c (pieces_behind false bs) ≡ before_first (λ b. eqb b 37) bs ++ shown_by c (pieces_behind true (after_first (λ b. eqb b 37) bs)))
        → (t : Bool) → eqb b 37 ≡ t
        → shown_by c (pieces_behind false (b ∷ bs)) ≡ before_first (λ b. eqb b 37) (b ∷ bs) ++ shown_by c (pieces_behind true (after_first (λ b. eqb b 37) (b ∷ bs)))
    by_test more true e = rw e refl
    by_test more false e =
        let later : position_or_len (λ b. eqb b 37) (b ∷ bs) ≡ suc (position_or_len (λ b. eqb b 37) bs) = rw e (omega arith) in
        let fewer : position_or_len (λ b. eqb b 37) bs < length bs = omega (arith, later, less) in
        let next : suc (position_or_len (λ b. eqb b 37) bs) + 1 ≡ suc (position_or_len (λ b. eqb b 37) bs + 1) = omega arith in
        rw (later, next, e) (ap (λ u. b ∷ u) (more fewer))

pub all_plain : (c : Civil) (s : List ℕ) → position_or_len (λ b. eqb b 37) s ≡ length s → shown_by c (pieces_behind false s) ≡ s
all_plain c [] none = refl
all_plain c (b ∷ bs) none = by_test (λ all. all_plain c bs all) (eqb b 37) refl
  where
    by_test : (position_or_len (λ b. eqb b 37) bs ≡ length bs → shown_by c (pieces_behind false bs) ≡ bs)
        → (t : Bool) → eqb b 37 ≡ t → shown_by c (pieces_behind false (b ∷ bs)) ≡ b ∷ bs
    by_test more true e = let first : position_or_len (λ b. eqb b 37) (b ∷ bs) ≡ 0 = rw e refl in absurd (omega (arith, first, none))
    by_test more false e =
        let later : position_or_len (λ b. eqb b 37) (b ∷ bs) ≡ suc (position_or_len (λ b. eqb b 37) bs) = rw e (omega arith) in
        rw e (ap (λ u. b ∷ u) (more (omega (arith, later, none))))

-- a number of at most four digits
pub short : (n k : ℕ) → k ≤ 4 → n < 10 ^ k → n < 10000
short n zero few small = omega (arith, small)
short n (suc zero) few small = omega (arith, small)
short n (suc (suc zero)) few small = omega (arith, small)
short n (suc (suc (suc zero))) few small = omega (arith, small)
short n (suc (suc (suc (suc zero)))) few small = omega (arith, small)
short n (suc (suc (suc (suc (suc k))))) few small = absurd (omega arith)

none_some : {c : Civil} → None ≡ Some c → ⊥
none_some e = cc

-- what a text shows exists, and is what it is the text of
pub civil_in_exists : (ps : List Piece) (t : List ℕ) (c : Civil) → civil_in ps t ≡ Some c → (is_civil c ≡ true) × (shown_by c ps ≡ t)
unfolding civil_in
civil_in_exists ps t c e = of_tests (written ps t) (is_civil (written ps t)) refl (pointwise nat_eq (shown_by (written ps t) ps) t) refl e
  where
    of_tests : (d : Civil) (a : Bool) → is_civil d ≡ a → (b : Bool) → pointwise nat_eq (shown_by d ps) t ≡ b
        → (if a && b then Some d else None) ≡ Some c → (is_civil c ≡ true) × (shown_by c ps ≡ t)
    of_tests d true is true same e =
        let one : d ≡ c = ap (λ o. unwrap_or o d) e in
        subst (λ x. (is_civil x ≡ true) × (shown_by x ps ≡ t)) one (is, told_text (shown_by d ps) t true (sym same))
    of_tests d true is false same e = absurd (none_some e)
    of_tests d false is b same e = absurd (none_some e)
