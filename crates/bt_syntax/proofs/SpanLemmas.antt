-- Tokens that rise.
use Rattle.std.proofs.Common.{◌≡◌, ℕ, ◌≤◌, List, [], ◌∷◌, subst, arith}
use Rattle.bt_lexer.specs.declared.token.Token.{Token}
use Rattle.bt_lexer.specs.Spans.{AreSpans}

pub spans_from_lower : (s : List ℕ) (low high : ℕ) (ts : List Token) → low ≤ high → AreSpans s high ts → AreSpans s low ts
spans_from_lower s low high [] h a = omega arith
spans_from_lower s low high (t ∷ ts) h a = (omega (arith, a.0), a.1, a.2)

pub spans_of_rest : (s : List ℕ) (low : ℕ) (ts : List Token) (t : Token) (rest : List Token) → ts ≡ t ∷ rest → AreSpans s low ts → AreSpans s low rest
spans_of_rest s low ts t rest e a =
    let b : AreSpans s low (t ∷ rest) = subst (AreSpans s low) e a in
    spans_from_lower s low t.to rest (omega (arith, b.0, b.1.order)) b.2
