-- A token's text begins and ends with a byte below 128, so a text may be cut round it.
use Rattle.std.proofs.Common.{◌≡◌, ℕ, zero, suc, ◌+◌, ◌-◌, ◌<◌, Bool, true, false, ◌&&◌, ◌||◌, List, [], ◌∷◌, length, drop, get_or, refl, sym, subst, ap, ◌∙◌, arith, Option, Some, None, if◌then◌else◌, nat_eq, nat_lt, nat_le, slice_range, length-drop, get_or-take, get_or-drop}
use Rattle.std.proofs.lemmas.Bool.Decides.{nat_tests}
use Rattle.std.proofs.lemmas.List.{length-take-le}
use Rattle.std.specs.List.{list_all}
use Rattle.std.specs.Str.{IsUtf8, IsCharBoundary}
use Rattle.std.proofs.lemmas.Str.{IsCharBoundary-before_ascii, IsCharBoundary-after_ascii}
use Rattle.bt_lexer.specs.declared.token.Kind.{Kind}
use Rattle.bt_lexer.specs.declared.token.Kind.TheVariants.{Name, Var, Int, Text}
use Rattle.bt_lexer.specs.declared.token.Token.{Token}
use Rattle.bt_lexer.specs.Bytes.{quote, is_letter, is_digit, is_name_byte}
use Rattle.bt_lexer.specs.Strings.{part_at, len_of, is_empty, is_closed, is_quoted, begins_tripled, ends_tripled, is_tripled}
use Rattle.bt_lexer.specs.Kinds.{kind_of, is_name, is_var, is_number, is_text, marks, mark_in, same_text}
use Rattle.bt_lexer.specs.Spans.{IsSpan}
use Rattle.bt_lexer.proofs.KindLemmas.{kind-other, no_mark, and_left, and_right, nat_eq_same}

-- the last byte is below 128
abbrev pub ends_ascii : List ℕ → Bool
ends_ascii [] = false
ends_ascii (c ∷ []) = nat_lt c 128
ends_ascii (c ∷ d ∷ v) = ends_ascii (d ∷ v)

ends_cons : (c : ℕ) (v : List ℕ) → ends_ascii v ≡ true → ends_ascii (c ∷ v) ≡ true
ends_cons c [] h = absurd (cc)
ends_cons c (d ∷ v) h = h

list_ends : (p : ℕ → Bool) → ((c : ℕ) → p c ≡ true → nat_lt c 128 ≡ true) → (c : ℕ) (v : List ℕ) → p c ≡ true → list_all p v ≡ true → ends_ascii (c ∷ v) ≡ true
list_ends p low c [] h k = low c h
list_ends p low c (d ∷ v) h k = list_ends p low d v (and_left _ _ k) (and_right _ _ k)

name_byte_low : (c : ℕ) → is_name_byte c ≡ true → nat_lt c 128 ≡ true
name_byte_low c h = grind (arith, nat_tests)

digit_low : (c : ℕ) → is_digit c ≡ true → nat_lt c 128 ≡ true
digit_low c h = grind (arith, nat_tests)

letter_name_byte : (c : ℕ) → is_letter c ≡ true → is_name_byte c ≡ true
letter_name_byte c h = rw h refl

quote_low : (c : ℕ) → nat_eq c quote ≡ true → nat_lt c 128 ≡ true
quote_low c h = grind (arith, nat_tests)

name_ends : (u : List ℕ) → is_name u ≡ true → ends_ascii u ≡ true
name_ends [] h = absurd (cc)
name_ends (c ∷ v) h = list_ends is_name_byte name_byte_low c v (letter_name_byte c (and_left _ _ h)) (and_right _ _ h)

var_ends : (u : List ℕ) → is_var u ≡ true → ends_ascii u ≡ true
var_ends [] h = absurd (cc)
var_ends (c ∷ v) h = ends_cons c v (name_ends v (and_right _ _ h))

number_ends : (u : List ℕ) → is_number u ≡ true → ends_ascii u ≡ true
number_ends [] h = absurd (cc)
number_ends (c ∷ v) h = list_ends is_digit digit_low c v (and_left _ _ h) (and_right _ _ h)

closed_ends : (v : List ℕ) (skip : ℕ) → is_closed v skip ≡ true → ends_ascii v ≡ true
closed_ends [] skip h = absurd (cc)
closed_ends (c ∷ v) (suc skip) h = ends_cons c v (closed_ends v skip h)
closed_ends (c ∷ v) zero h = go (nat_eq c quote) refl h (λ skip h. closed_ends v skip h)
  where
    last : (v : List ℕ) → is_empty v ≡ true → nat_eq c quote ≡ true → ends_ascii (c ∷ v) ≡ true
    last [] h q = quote_low c q
    last (d ∷ v) h q = absurd (cc)

    go : (b : Bool) → nat_eq c quote ≡ b → (if b then is_empty v else nat_lt 0 (len_of (part_at (c ∷ v))) && is_closed v (len_of (part_at (c ∷ v)) - 1)) ≡ true → ((skip : ℕ) → is_closed v skip ≡ true → ends_ascii v ≡ true) → ends_ascii (c ∷ v) ≡ true
    go true q h ih = last v h q
    go false q h ih = ends_cons c v (ih (len_of (part_at (c ∷ v)) - 1) (and_right _ _ h))

quoted_ends : (u : List ℕ) → is_quoted u ≡ true → ends_ascii u ≡ true
quoted_ends [] h = absurd (cc)
quoted_ends (c ∷ v) h = ends_cons c v (closed_ends v 0 (and_right _ _ h))

tripled_ends : (v : List ℕ) → ends_tripled v ≡ true → ends_ascii v ≡ true
tripled_ends [] h = absurd (cc)
tripled_ends (c ∷ []) h = absurd (cc)
tripled_ends (c ∷ d ∷ []) h = absurd (cc)
tripled_ends (c ∷ d ∷ e ∷ v) h = go (begins_tripled (c ∷ d ∷ e ∷ v)) refl h (λ h. tripled_ends (d ∷ e ∷ v) h)
  where
    last : (v : List ℕ) → begins_tripled (c ∷ d ∷ e ∷ v) ≡ true → nat_eq (length (d ∷ e ∷ v)) 2 ≡ true → ends_ascii (c ∷ d ∷ e ∷ v) ≡ true
    last [] t h = quote_low e (and_right (nat_eq c quote && nat_eq d quote) (nat_eq e quote) t)
    last (f ∷ v) t h = let x : length (d ∷ e ∷ f ∷ v) ≡ 2 = grind (arith, nat_tests) in absurd (omega arith)

    go : (b : Bool) → begins_tripled (c ∷ d ∷ e ∷ v) ≡ b → (if b then nat_eq (length (d ∷ e ∷ v)) 2 else ends_tripled (d ∷ e ∷ v)) ≡ true → (ends_tripled (d ∷ e ∷ v) ≡ true → ends_ascii (d ∷ e ∷ v) ≡ true) → ends_ascii (c ∷ d ∷ e ∷ v) ≡ true
    go true t h ih = last v t h
    go false t h ih = ih h

drop_ends : (u : List ℕ) → ends_ascii (drop 3 u) ≡ true → ends_ascii u ≡ true
drop_ends [] h = absurd (cc)
drop_ends (a ∷ []) h = absurd (cc)
drop_ends (a ∷ b ∷ []) h = absurd (cc)
drop_ends (a ∷ b ∷ c ∷ u) h = ends_cons a (b ∷ c ∷ u) (ends_cons b (c ∷ u) (ends_cons c u h))

text_ends : (u : List ℕ) → (a b : Bool) → is_quoted u ≡ a → is_tripled u ≡ b → (a || b) ≡ true → ends_ascii u ≡ true
text_ends u true b h k o = quoted_ends u h
text_ends u false true h k o = drop_ends u (tripled_ends (drop 3 u) (and_right (begins_tripled u) (ends_tripled (drop 3 u)) k))
text_ends u false false h k o = absurd (cc)

same_is : (u v : List ℕ) → same_text u v ≡ true → u ≡ v
same_is [] [] h = refl
same_is [] (d ∷ v) h = absurd (cc)
same_is (c ∷ u) [] h = absurd (cc)
same_is (c ∷ u) (d ∷ v) h =
    let e = nat_eq_same c d (and_left _ _ h) in
    let f = same_is u v (and_right _ _ h) in cc

mark_ends : (ms : List (List ℕ × Kind)) → list_all (λ m. ends_ascii m.0) ms ≡ true → (u : List ℕ) (k : Kind) → mark_in ms u ≡ Some k → ends_ascii u ≡ true
mark_ends [] all u k h = absurd (cc)
mark_ends (m ∷ ms) all u k h = go (same_text u m.0) refl h (λ h. mark_ends ms (and_right _ _ all) u k h)
  where
    go : (b : Bool) → same_text u m.0 ≡ b → (if b then Some m.1 else mark_in ms u) ≡ Some k → (mark_in ms u ≡ Some k → ends_ascii u ≡ true) → ends_ascii u ≡ true
    go true e h ih = subst (λ y. ends_ascii y ≡ true) (sym (same_is u m.0 e)) (and_left _ _ all)
    go false e h ih = ih h

-- the kind by its tests
abbrev pub by_tests : (n v i t : Bool) → Option Kind → Option Kind
by_tests n v i t m = if n then Some Name else if v then Some Var else if i then Some Int else if t then Some Text else m

pub kind-tests : (u : List ℕ) → kind_of u ≡ by_tests (is_name u) (is_var u) (is_number u) (is_text u) (mark_in marks u)
unfolding kind_of
kind-tests u = refl

pub kind_ends : (u : List ℕ) (k : Kind) → kind_of u ≡ Some k → ends_ascii u ≡ true
kind_ends u k h = go (is_name u) refl (is_var u) refl (is_number u) refl (is_text u) refl (sym (kind-tests u) ∙ h)
  where
    go : (n : Bool) → is_name u ≡ n → (v : Bool) → is_var u ≡ v → (i : Bool) → is_number u ≡ i → (t : Bool) → is_text u ≡ t → by_tests n v i t (mark_in marks u) ≡ Some k → ends_ascii u ≡ true
    go true n v _ i _ t _ h = name_ends u n
    go false n true v i _ t _ h = var_ends u v
    go false n false v true i t _ h = number_ends u i
    go false n false v false i true t h = text_ends u (is_quoted u) (is_tripled u) refl refl t
    go false n false v false i false t h = mark_ends marks refl u k h

abbrev some_kind : Kind → Option Kind
some_kind k = Some k

abbrev is_wide : ℕ → Bool
is_wide c = nat_le 128 c

wide_no_letter : (c : ℕ) → is_wide c ≡ true → is_letter c ≡ false
wide_no_letter c h = grind (arith, nat_tests)

wide_no_digit : (c : ℕ) → is_wide c ≡ true → is_digit c ≡ false
wide_no_digit c h = grind (arith, nat_tests)

wide_not : (c n : ℕ) → is_wide c ≡ true → n < 128 → nat_eq c n ≡ false
wide_not c n h l = grind (arith, nat_tests)

narrow : (c : ℕ) → is_wide c ≡ false → c < 128
narrow c h = grind (arith, nat_tests)

pub kind_begins : (u : List ℕ) (k : Kind) → kind_of u ≡ Some k → get_or u 0 0 < 128
kind_begins [] k h = omega arith
kind_begins (c ∷ v) k h = go (is_wide c) refl
  where
    go : (b : Bool) → is_wide c ≡ b → c < 128
    go false w = narrow c w
    go true w =
        let e = kind-other c v (wide_no_letter c w) (wide_no_digit c w) (wide_not c 36 w (omega arith)) (wide_not c quote w (omega arith)) in
        let x : None ≡ some_kind k = sym (e ∙ no_mark is_wide marks refl c v w) ∙ h in absurd (cc)

ends_get : (u : List ℕ) → ends_ascii u ≡ true → get_or u (length u - 1) 0 < 128
ends_get [] h = absurd (cc)
ends_get (c ∷ []) h = grind (arith, nat_tests)
ends_get (c ∷ d ∷ v) h =
    let e : suc (suc (length v)) - 1 ≡ suc (length v) = omega arith in
    let f : suc (length v) - 1 ≡ length v = omega arith in
    subst (λ n. get_or (c ∷ d ∷ v) n 0 < 128) (sym e) (subst (λ n. get_or (d ∷ v) n 0 < 128) f (ends_get (d ∷ v) h))

module _ (s : List ℕ) (t : Token) (utf8 : IsUtf8 s) (span : IsSpan s t) where
  span_at : (i : ℕ) → i < t.to - t.from → get_or (slice_range s t.from t.to) i 0 ≡ get_or s (t.from + i) 0
  span_at i l = get_or-take (t.to - t.from) (drop t.from s) i 0 l ∙ get_or-drop t.from s i 0

  span_len : length (slice_range s t.from t.to) ≡ t.to - t.from
  span_len = let o = span.order in let w = span.within in length-take-le (t.to - t.from) (drop t.from s) (omega (arith, length-drop t.from s))

  pub cut_before : IsCharBoundary s t.from
  cut_before =
      let o = span.order in let w = span.within in
      let z : t.from + 0 ≡ t.from = omega arith in
      let low = kind_begins (slice_range s t.from t.to) t.kind span.has in
      IsCharBoundary-before_ascii s t.from (omega arith) (subst (λ x. x < 128) (span_at 0 (omega arith) ∙ ap (λ i. get_or s i 0) z) low)

  pub cut_after : IsCharBoundary s t.to
  cut_after =
      let o = span.order in let w = span.within in
      let n = (t.to - t.from) - 1 in
      let place : t.from + ((t.to - t.from) - 1) ≡ t.to - 1 = omega arith in
      let end : (t.to - 1) + 1 ≡ t.to = omega arith in
      let low = ends_get (slice_range s t.from t.to) (kind_ends (slice_range s t.from t.to) t.kind span.has) in
      let low' : get_or (slice_range s t.from t.to) ((t.to - t.from) - 1) 0 < 128 = subst (λ m. get_or (slice_range s t.from t.to) (m - 1) 0 < 128) span_len low in
      subst (IsCharBoundary s) end (IsCharBoundary-after_ascii s (t.to - 1) utf8 (omega arith) (subst (λ x. x < 128) (span_at ((t.to - t.from) - 1) (omega arith) ∙ ap (λ i. get_or s i 0) place) low'))
