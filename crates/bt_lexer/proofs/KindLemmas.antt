-- The kind of a text, by its first byte.
use Rattle.std.proofs.Common.{◌≡◌, ℕ, Bool, true, false, ◌&&◌, not, List, [], ◌∷◌, refl, sym, subst, arith, nat_eq, Some, None, if◌then◌else◌}
use Rattle.std.proofs.lemmas.Bool.Decides.{nat_tests}
use Rattle.std.specs.List.{list_all}
use Rattle.bt_lexer.specs.declared.token.Kind.{Kind}
use Rattle.bt_lexer.specs.declared.token.Kind.TheVariants.{Name, Var, Int, Text}
use Rattle.bt_lexer.specs.Bytes.{is_letter, is_digit, is_name_byte, begins, quote}
use Rattle.bt_lexer.specs.Strings.{is_tripled, begins_tripled}
use Rattle.bt_lexer.specs.Kinds.{kind_of, is_name, is_text, marks, mark_in, same_text}

pub false_left : (a b : Bool) → a ≡ false → (a && b) ≡ false
false_left a b h = rw h refl

pub false_right : (a b : Bool) → b ≡ false → (a && b) ≡ false
false_right true b h = h
false_right false b h = refl

pub and_left : (a b : Bool) → (a && b) ≡ true → a ≡ true
and_left true b h = refl
and_left false b h = absurd (cc)

pub and_right : (a b : Bool) → (a && b) ≡ true → b ≡ true
and_right true b h = h
and_right false b h = absurd (cc)

pub nat_eq_same : (a b : ℕ) → nat_eq a b ≡ true → a ≡ b
nat_eq_same a b h = grind (arith, nat_tests)

-- no mark begins with a byte of a class
pub no_mark : (p : ℕ → Bool) (ms : List (List ℕ × Kind)) → list_all (λ m. not (begins p m.0)) ms ≡ true → (c : ℕ) (v : List ℕ) → p c ≡ true → mark_in ms (c ∷ v) ≡ None
no_mark p [] h c v q = refl
no_mark p (m ∷ ms) h c v q = rw (differs m.0 (and_left _ _ h)) (no_mark p ms (and_right _ _ h) c v q)
  where
    differs : (w : List ℕ) → not (begins p w) ≡ true → same_text (c ∷ v) w ≡ false
    differs [] h = refl
    differs (d ∷ w) h = false_left _ _ (first (nat_eq c d) refl)
      where
        first : (b : Bool) → nat_eq c d ≡ b → b ≡ false
        first false e = refl
        first true e =
            let x : p d ≡ true = subst (λ y. p y ≡ true) (nat_eq_same c d e) q in
            let y : not true ≡ true = subst (λ z. not z ≡ true) x h in cc

letter_no_digit : (c : ℕ) → is_letter c ≡ true → is_digit c ≡ false
letter_no_digit c h = grind (arith, nat_tests)

letter_no_number : (c n : ℕ) → is_letter c ≡ true → is_letter n ≡ false → nat_eq c n ≡ false
letter_no_number c n h e = grind (arith, nat_tests)

digit_no_letter : (c : ℕ) → is_digit c ≡ true → is_letter c ≡ false
digit_no_letter c h = grind (arith, nat_tests)

digit_no_number : (c n : ℕ) → is_digit c ≡ true → is_digit n ≡ false → nat_eq c n ≡ false
digit_no_number c n h e = grind (arith, nat_tests)

no_quote_no_text : (c : ℕ) (v : List ℕ) → nat_eq c quote ≡ false → is_text (c ∷ v) ≡ false
no_quote_no_text c [] h = rw h refl
no_quote_no_text c (d ∷ []) h = rw h refl
no_quote_no_text c (d ∷ e ∷ v) h = rw h refl

pub kind-letter : (c : ℕ) (v : List ℕ) → is_letter c ≡ true → kind_of (c ∷ v) ≡ (if list_all is_name_byte v then Some Name else None)
unfolding kind_of
kind-letter c v h = rw (h, letter_no_number c 36 h refl, letter_no_digit c h, no_quote_no_text c v (letter_no_number c quote h refl), no_mark is_letter marks refl c v h) refl

pub kind-digit : (c : ℕ) (v : List ℕ) → is_digit c ≡ true → kind_of (c ∷ v) ≡ (if list_all is_digit v then Some Int else None)
unfolding kind_of
kind-digit c v h = rw (digit_no_letter c h, digit_no_number c 36 h refl, h, no_quote_no_text c v (digit_no_number c quote h refl), no_mark is_digit marks refl c v h) refl

pub kind-dollar : (v : List ℕ) → kind_of (36 ∷ v) ≡ (if is_name v then Some Var else None)
unfolding kind_of
kind-dollar v = rw (no_quote_no_text 36 v refl) refl

pub kind-quote : (v : List ℕ) → kind_of (quote ∷ v) ≡ (if is_text (quote ∷ v) then Some Text else None)
unfolding kind_of
kind-quote v = refl

pub kind-other : (c : ℕ) (v : List ℕ) → is_letter c ≡ false → is_digit c ≡ false → nat_eq c 36 ≡ false → nat_eq c quote ≡ false → kind_of (c ∷ v) ≡ mark_in marks (c ∷ v)
unfolding kind_of
kind-other c v l d e q = rw (l, e, d, no_quote_no_text c v q) refl

pub kind-empty : kind_of [] ≡ None
unfolding kind_of
kind-empty = refl

quote_then : (a b c : ℕ) (v : List ℕ) → begins_tripled (a ∷ b ∷ c ∷ v) ≡ true → (a ≡ quote) × (b ≡ quote)
quote_then a b c v h =
    let x = and_left _ _ h in
    (nat_eq_same a quote (and_left (nat_eq a quote) (nat_eq b quote) x), nat_eq_same b quote (and_right (nat_eq a quote) (nat_eq b quote) x))

-- what begins with three quotation marks is at most a text of the second form
pub kind-tripled : (u : List ℕ) → begins_tripled u ≡ true → kind_of u ≡ (if is_tripled u then Some Text else None)
kind-tripled [] h = absurd (cc)
kind-tripled (a ∷ []) h = absurd (cc)
kind-tripled (a ∷ b ∷ []) h = absurd (cc)
kind-tripled (a ∷ b ∷ c ∷ v) h =
    let (e, f) = quote_then a b c v h in
    subst (λ y. kind_of (y ∷ b ∷ c ∷ v) ≡ (if is_tripled (y ∷ b ∷ c ∷ v) then Some Text else None)) (sym e)
    (subst (λ y. kind_of (quote ∷ y ∷ c ∷ v) ≡ (if is_tripled (quote ∷ y ∷ c ∷ v) then Some Text else None)) (sym f) (kind-quote (quote ∷ c ∷ v)))
