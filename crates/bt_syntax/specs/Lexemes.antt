-- Tokens with what the grammar sees of them.
use Rattle.std.specs.Prelude.{ℕ, List, Option, None, map, drop, slice_range}
use Rattle.bt_lexer.specs.declared.token.Kind.{Kind}
use Rattle.bt_lexer.specs.declared.token.Kind.TheVariants as k
use Rattle.bt_lexer.specs.declared.token.Token.{Token}
use Rattle.bt_lexer.specs.Places.{line_of}
use Rattle.bt_lexer.specs.Strings.{text_value}
use Rattle.bt_lexer.specs.Tokens.{int_value}
use Rattle.bt_value.specs.Keys.{find}
use Rattle.bt_syntax.specs.declared.keywords.Keyword.{Keyword}
use Rattle.bt_syntax.specs.Keywords.{keywords}

-- A token's kind, what it says, and where it stands: its place, in bytes from 0, and its line, from 1.
-- A name says itself, a variable its name without `$`, a text what it stands for, and any other token its own bytes.
pub record Lexeme : Type 0 where
  pub kind : Kind
  pub text : List ℕ
  pub at : ℕ
  pub line : ℕ

abbrev pub Lexemes : Type 0
Lexemes = List Lexeme

abbrev pub says : Kind → List ℕ → List ℕ
says k.Var u = drop 1 u
says k.Text u = text_value u
says _ u = u

-- a token of a text
abbrev pub lexeme : List ℕ → Token → Lexeme
lexeme s t = record { kind = t.kind; text = says t.kind (slice_range s t.from t.to); at = t.from; line = line_of s t.from }

-- the tokens of a text
abbrev pub lexemes : List ℕ → List Token → Lexemes
lexemes s ts = map (lexeme s) ts

-- the value of a run of digits
abbrev pub number : Lexeme → ℕ
number t = int_value t.text

-- the reserved name that a token is
abbrev pub reserved_in : Kind → List ℕ → Option Keyword
reserved_in k.Name u = find u keywords
reserved_in _ u = None

unfoldable pub reserved : Lexeme → Option Keyword
reserved t = reserved_in t.kind t.text
