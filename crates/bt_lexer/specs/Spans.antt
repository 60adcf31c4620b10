-- What every token and every fault of a text satisfies.
use Rattle.std.specs.Prelude.{◌≡◌, ℕ, ◌<◌, ◌≤◌, true, List, [], ◌∷◌, length, Some, None, slice_range}
use Rattle.bt_lexer.specs.declared.token.Token.{Token}
use Rattle.bt_lexer.specs.declared.token.LexFault.{LexFault}
use Rattle.bt_lexer.specs.declared.token.LexFault.TheVariants.{Char, Text, Number, NoMemory}
use Rattle.bt_lexer.specs.Kinds.{kind_of}
use Rattle.bt_lexer.specs.Tokens.{is_int, int_value}

-- A token's bytes stand in the text and have its kind, those up to a later place have none, and a number isn't too large.
pub record IsSpan (s : List ℕ) (t : Token) : Type 0 where
  pub order : t.from < t.to
  pub within : t.to ≤ length s
  pub has : kind_of (slice_range s t.from t.to) ≡ Some t.kind
  pub longest : (to : ℕ) → t.to < to → to ≤ length s → kind_of (slice_range s t.from to) ≡ None
  pub number : is_int t.kind ≡ true → int_value (slice_range s t.from t.to) ≤ 9223372036854775807

-- the tokens rise from a place on
abbrev pub AreSpans : List ℕ → ℕ → List Token → Type 0
AreSpans s low [] = low ≤ length s
AreSpans s low (t ∷ ts) = (low ≤ t.from) × IsSpan s t × AreSpans s t.to ts

-- a fault is at a byte of the text, from a place on
abbrev pub IsFaultWithin : List ℕ → ℕ → LexFault → Type 0
IsFaultWithin s low (Char at) = (low ≤ at) × (at < length s)
IsFaultWithin s low (Text at) = (low ≤ at) × (at < length s)
IsFaultWithin s low (Number at) = (low ≤ at) × (at < length s)
IsFaultWithin s low NoMemory = Unit {0}
