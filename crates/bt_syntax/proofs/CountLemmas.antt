-- Lines that are counted further on.
use Rattle.std.proofs.Common.{◌≡◌, ℕ, ◌+◌, ◌-◌, ◌≤◌, ◌<◌, ◌==◌, cond, List, [], ◌∷◌, length, take, drop, get_or, refl, sym, ap, ◌∙◌, arith, count_by}
use Rattle.std.proofs.Math.Seq.{take-add}
use Rattle.std.proofs.lemmas.List.Sums.{sum_by-append}
use Rattle.bt_lexer.specs.declared.token.Token.{Token}
use Rattle.bt_lexer.specs.Bytes.{line_feed}
use Rattle.bt_lexer.specs.Places.{line_of}
use Rattle.bt_lexer.specs.Spans.{AreSpans}
use Rattle.bt_syntax.specs.Lexemes.{lexemes}
use Rattle.bt_syntax.specs.Code.{next}

pub line_of_further : (s : List ℕ) (a b : ℕ) → a ≤ b → line_of s a + count_by (λ c. c == line_feed) (take (b - a) (drop a s)) ≡ line_of s b
line_of_further s a b h =
    let whole : a + (b - a) ≡ b = omega arith in
    let cut = sym (ap (λ n. take n s) whole) ∙ take-add a (b - a) s in
    let counted = ap (count_by (λ c. c == line_feed)) cut ∙ sum_by-append (λ c. cond (c == line_feed) 1 0) (take a s) (take (b - a) (drop a s)) in
    omega arith

pub spans_from_first : (s : List ℕ) (low : ℕ) (ts : List Token) (d : Token) → 0 < length ts → AreSpans s low ts → AreSpans s (get_or ts 0 d).from ts
spans_from_first s low [] d n a = absurd (omega arith)
spans_from_first s low (t ∷ ts) d n a = (omega arith, a.1, a.2)

pub first_from : (s : List ℕ) (low : ℕ) (ts : List Token) (d : Token) → 0 < length ts → AreSpans s low ts → low ≤ (get_or ts 0 d).from
first_from s low [] d n a = absurd (omega arith)
first_from s low (t ∷ ts) d n a = a.0

-- line feeds that are counted up to the first token
pub line_here : (s s' : List ℕ) (counted line n : ℕ) (ts : List Token) (d : Token) → 0 < length ts → AreSpans s counted ts → line ≡ line_of s counted → s' ≡ s →
    n ≡ count_by (λ c. c == line_feed) (take ((get_or ts 0 d).from - counted) (drop counted s')) → line + n ≡ line_of s (get_or ts 0 d).from
line_here s s' counted line n ts d some spans at same more =
    ap (λ m. m + n) at ∙ ap (λ m. line_of s counted + m) (more ∙ ap (λ y. count_by (λ c. c == line_feed) (take ((get_or ts 0 d).from - counted) (drop counted y))) same)
    ∙ line_of_further s counted (get_or ts 0 d).from (first_from s counted ts d some spans)

pub next_line : (s : List ℕ) (ts : List Token) (d : Token) → 0 < length ts → (next (lexemes s ts)).line ≡ line_of s (get_or ts 0 d).from
next_line s [] d n = absurd (omega arith)
next_line s (t ∷ ts) d n = refl
