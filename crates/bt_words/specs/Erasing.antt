-- Tokens and what readers answer, without places. Only proofs use these words.
use Rattle.std.specs.Prelude.{◌≡◌, map}
use Rattle.bt_syntax.specs.Lexemes.{Lexeme, Lexemes}
use Rattle.bt_syntax.specs.Reading.{Res, Got, Stuck, Deep, Reader}

-- a token without its place
abbrev pub erased : Lexeme → Lexeme
erased t = record { kind = t.kind; text = t.text; at = 0; line = 0 }

-- what a reader answers, with the value changed and the tokens without their places
abbrev pub res_erased : {A B : Type 0} → (A → B) → Res A → Res B
res_erased f (Got a rest) = Got (f a) (map erased rest)
res_erased f (Stuck rest) = Stuck (map erased rest)
res_erased f Deep = Deep

-- The second reader reads tokens without places as the first reads the tokens, but for places.
pub record Blind {A B : Type 0} (f : A → B) (p : Reader A) (p' : Reader B) : Type 0 where
  pub same : (ts : Lexemes) → p' (map erased ts) ≡ res_erased f (p ts)
