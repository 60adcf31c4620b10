-- The tokens of a text are spans of it that rise.
use Rattle.std.proofs.Common.{◌≡◌, ℕ, zero, suc, ◌+◌, ◌-◌, ◌≤◌, ◌<◌, Bool, true, false, ◌&&◌, ◌||◌, not, List, [], ◌∷◌, ◌++◌, length, take, drop, refl, sym, subst, ap, ◌∙◌, arith, Option, Some, None, Result, Ok, Err, if◌then◌else◌, nat_lt, slice_range, slice_get, take-append-drop, length-drop, length-append}
use Rattle.std.proofs.lemmas.Bool.Decides.{nat_tests}
use Rattle.std.proofs.lemmas.List.{drop-drop, drop_at, take_at}
use Rattle.bt_lexer.specs.declared.token.Kind.{Kind}
use Rattle.bt_lexer.specs.declared.token.Token.{Token}
use Rattle.bt_lexer.specs.declared.token.LexFault.{LexFault}
use Rattle.bt_lexer.specs.declared.token.LexFault.TheVariants.{Char, Text, Number, NoMemory}
use Rattle.bt_lexer.specs.Bytes.{begins, is_letter}
use Rattle.bt_lexer.specs.Kinds.{kind_of}
use Rattle.bt_lexer.specs.Tokens.{IsToken, is_int, is_bad, int_value, begins_fraction, is_dot, before, Reads, at_end, gap, token, bad_number, bad_text, bad_char}
use Rattle.bt_lexer.specs.Lines.{HasTokens, HasFault, hardened, is_line_feed, is_soft_after, is_soft_before}
use Rattle.bt_lexer.specs.Spans.{IsSpan, AreSpans, IsFaultWithin}
use Rattle.bt_lexer.proofs.SomeReading.{token_is_some}

abbrev Outcome : Type 0
Outcome = Result (List Token) LexFault

abbrev Placed : List ℕ → ℕ → Outcome → Type 0
Placed s low (Ok ts) = AreSpans s low ts
Placed s low (Err f) = IsFaultWithin s low f

lower_fault : (s : List ℕ) (low high : ℕ) → low ≤ high → (f : LexFault) → IsFaultWithin s high f → IsFaultWithin s low f
lower_fault s low high le (Char at) (h, k) = (omega arith, k)
lower_fault s low high le (Text at) (h, k) = (omega arith, k)
lower_fault s low high le (Number at) (h, k) = (omega arith, k)
lower_fault s low high le NoMemory h = h

lower_spans : (s : List ℕ) (low high : ℕ) → low ≤ high → (ts : List Token) → AreSpans s high ts → AreSpans s low ts
lower_spans s low high le [] h = omega arith
lower_spans s low high le (t ∷ ts) (h, k, more) = (omega arith, k, more)

lower : (s : List ℕ) (low high : ℕ) → low ≤ high → (r : Outcome) → Placed s high r → Placed s low r
lower s low high le (Ok ts) h = lower_spans s low high le ts h
lower s low high le (Err f) h = lower_fault s low high le f h

or_left : (a b : Bool) → (a || b) ≡ false → a ≡ false
or_left false b h = refl
or_left true b h = absurd (cc)

not_bad_small : (k : Kind) (dot : Bool) (u rest : List ℕ) → is_bad k dot u rest ≡ false → is_int k ≡ true → int_value u ≤ 9223372036854775807
not_bad_small k dot u rest h int =
    let x = subst (λ b. (b && (nat_lt 9223372036854775807 (int_value u) || begins is_letter rest || (not dot && begins_fraction rest))) ≡ false) int h in
    let y : nat_lt 9223372036854775807 (int_value u) ≡ false = or_left _ _ (or_left _ _ x) in
    grind (arith, nat_tests)

module _ (s : List ℕ) (at : ℕ) (rest u more : List ℕ) (le : at ≤ length s) (here : rest ≡ drop at s) (whole : rest ≡ u ++ more) where
  next : more ≡ drop (at + length u) s
  next = sym (drop_at u more (length u) refl) ∙ ap (drop (length u)) (sym whole ∙ here) ∙ drop-drop (length u) at s

  inside : at + length u ≤ length s
  inside = omega (arith, length-append u more, ap length whole, ap length here, length-drop at s)

  the_span : slice_range s at (at + length u) ≡ u
  the_span =
      let e : (at + length u) - at ≡ length u = omega arith in
      ap (λ n. take n (drop at s)) e ∙ ap (take (length u)) (sym here ∙ whole) ∙ take_at u more (length u) refl

  past : (to : ℕ) → at + length u < to → to ≤ length s → (k : Kind) → IsToken k u more → kind_of (slice_range s at to) ≡ None
  past to lt fits k w = go more refl ((to - at) - suc (length u)) (omega arith)
    where
      longer : (v : List ℕ) (m : ℕ) (w : List ℕ) → take (length v + m) (v ++ w) ≡ v ++ take m w
      longer [] m w = let e : 0 + m ≡ m = omega arith in ap (λ n. take n w) e
      longer (c ∷ v) m w = let e : suc (length v) + m ≡ suc (length v + m) = omega arith in ap (λ n. take n (c ∷ (v ++ w))) e ∙ ap (λ y. c ∷ y) (longer v m w)

      go : (y : List ℕ) → more ≡ y → (m : ℕ) → to - at ≡ length u + suc m → kind_of (slice_range s at to) ≡ None
      go [] e m f = absurd (omega (arith, length-append u more, ap length whole, ap length here, length-drop at s, ap length e))
      go (c ∷ y) e m f =
          let t : slice_range s at to ≡ u ++ c ∷ take m y = ap (λ n. take n (drop at s)) f ∙ ap (take (length u + suc m)) (sym here ∙ whole ∙ ap (λ z. u ++ z) e) ∙ longer u (suc m) (c ∷ y) in
          ap kind_of t ∙ w.longest c (take m y) (drop m y) (e ∙ ap (λ z. c ∷ z) (sym (take-append-drop m y)))

  is_span : (k : Kind) (dot : Bool) → IsToken k u more → is_bad k dot u more ≡ false → IsSpan s (record { kind = k; from = at; to = at + length u })
  is_span k dot w good = record {
    order = (let l = token_is_some k u more w in omega arith);
    within = inside;
    has = ap kind_of the_span ∙ w.has;
    longest = λ to lt fits. past to lt fits k w;
    number = λ int. subst (λ y. int_value y ≤ 9223372036854775807) (sym the_span) (not_bad_small k dot u more good int);
  }

  starts_inside : (k : Kind) → IsToken k u more → at < length s
  starts_inside k w = let l = token_is_some k u more w in let i = inside in omega arith

one_inside : (s : List ℕ) (at : ℕ) (rest : List ℕ) (c : ℕ) (v : List ℕ) → rest ≡ drop at s → rest ≡ c ∷ v → at < length s
one_inside s at rest c v here e = omega (arith, ap length e, ap length here, length-drop at s)

placed_token : (s : List ℕ) (at : ℕ) (t : Token) → at ≤ t.from → at ≤ t.to → IsSpan s t → (r : Outcome) → Placed s t.to r → Placed s at (before t r)
placed_token s at t le to span (Ok ts) h = (le, span, h)
placed_token s at t le to span (Err f) h = lower_fault s at t.to to f h

placed : (s : List ℕ) (at : ℕ) (dot : Bool) (rest : List ℕ) (r : Outcome) → at ≤ length s → rest ≡ drop at s → Reads at dot rest r → Placed s at r
placed s at dot _ _ le here at_end = le
placed s at dot rest r le here (gap u more e g h) =
    lower s at (at + length u) (omega arith) r (placed s (at + length u) false more r (inside s at rest u more le here e) (next s at rest u more le here e) h)
placed s at dot rest _ le here (token {r} k u more e w good h) =
    placed_token s at (record { kind = k; from = at; to = at + length u }) (omega arith) (omega arith) (is_span s at rest u more le here e k dot w good) r
    (placed s (at + length u) (is_dot k) more r (inside s at rest u more le here e) (next s at rest u more le here e) h)
placed s at dot rest _ le here (bad_number k u more e w bad) = (omega arith, starts_inside s at rest u more le here e k w)
placed s at dot rest _ le here (bad_text v e none) = (omega arith, one_inside s at rest 34 v here e)
placed s at dot rest _ le here (bad_char c v e none no_gap other) = (omega arith, one_inside s at rest c v here e)

spans_hardened : (s text : List ℕ) (behind : Option Kind) (low : ℕ) (ts : List Token) → AreSpans s low ts → AreSpans s low (hardened text behind ts)
spans_hardened s text behind low [] h = h
spans_hardened s text behind low (t ∷ ts) (le, span, more) = go (is_line_feed t.kind && (is_soft_after behind || is_soft_before text ts)) (spans_hardened s text (Some t.kind) t.to ts more)
  where
    go : (b : Bool) → AreSpans s t.to (hardened text (Some t.kind) ts) → AreSpans s low (if b then hardened text (Some t.kind) ts else t ∷ hardened text (Some t.kind) ts)
    go true h = lower_spans s low t.to (let o = span.order in omega arith) (hardened text (Some t.kind) ts) h
    go false h = (le, span, h)

pub tokens_spans : (s : List ℕ) (ts : List Token) → HasTokens s ts → AreSpans s 0 ts
tokens_spans s ts h = subst (AreSpans s 0) (sym h.hard) (spans_hardened s s None 0 h.all (placed s 0 false s (Ok h.all) (omega arith) refl h.reads))

pub fault_within : (s : List ℕ) (f : LexFault) → HasFault s f → IsFaultWithin s 0 f
fault_within s f h = placed s 0 false s (Err f) (omega arith) refl h

some_token : (t u : Token) → Some t ≡ Some u → t ≡ u
some_token t u h = cc

each_span : (s : List ℕ) (low : ℕ) (ts : List Token) → AreSpans s low ts → (i : ℕ) (t : Token) → slice_get ts i ≡ Some t → IsSpan s t
each_span s low [] h i t e = absurd (none i e)
  where
    none : (i : ℕ) → slice_get [] i ≡ Some t → ⊥
    none zero e = cc
    none (suc i) e = cc
each_span s low (u ∷ ts) (le, span, more) zero t e = subst (IsSpan s) (some_token u t e) span
each_span s low (u ∷ ts) (le, span, more) (suc i) t e = each_span s u.to ts more i t e

pub tokens_each : (s : List ℕ) (ts : List Token) → HasTokens s ts → (i : ℕ) (t : Token) → slice_get ts i ≡ Some t → IsSpan s t
tokens_each s ts h i t e = each_span s 0 ts (tokens_spans s ts h) i t e
