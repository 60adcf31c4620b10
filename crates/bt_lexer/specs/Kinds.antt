-- The kind that a text has, taken as one token.
use Rattle.std.specs.Prelude.{ℕ, Bool, false, ◌&&◌, ◌||◌, ◌==◌, nat_eq, List, [], ◌∷◌, Option, Some, None, if◌then◌else◌, codes}
use Rattle.std.specs.List.{list_all}
use lib.Pointwise.{pointwise}
use Rattle.bt_lexer.specs.declared.token.Kind.{Kind}
use Rattle.bt_lexer.specs.declared.token.Kind.TheVariants.{Name, Var, Int, Text, Nl, Plus, Minus, Star, Slash, Percent, Equal, NotEqual, Less, LessEqual, Greater, GreaterEqual, And, Or, Pipe, Bang, Assign, FatArrow, Arrow, Dot, Comma, Colon, LeftParen, RightParen, LeftBracket, RightBracket, LeftBrace, RightBrace, At}
use Rattle.bt_lexer.specs.Bytes.{is_digit, is_letter, is_name_byte}
use Rattle.bt_lexer.specs.Strings.{is_quoted, is_tripled}

-- a letter or `_`, then letters, digits and `_`
abbrev pub is_name : List ℕ → Bool
is_name [] = false
is_name (c ∷ v) = is_letter c && list_all is_name_byte v

-- `$` and a name at once
abbrev pub is_var : List ℕ → Bool
is_var [] = false
is_var (c ∷ v) = c == 36 && is_name v

-- a run of digits
abbrev pub is_number : List ℕ → Bool
is_number [] = false
is_number (c ∷ v) = is_digit c && list_all is_digit v

abbrev pub is_text : List ℕ → Bool
is_text u = is_quoted u || is_tripled u

-- the line feed and the marks, each with its kind
abbrev pub marks : List (List ℕ × Kind)
marks =
    (codes "\n", Nl)
    ∷ (codes "+", Plus) ∷ (codes "-", Minus) ∷ (codes "*", Star) ∷ (codes "/", Slash) ∷ (codes "%", Percent)
    ∷ (codes "==", Equal) ∷ (codes "!=", NotEqual) ∷ (codes "<", Less) ∷ (codes "<=", LessEqual) ∷ (codes ">", Greater) ∷ (codes ">=", GreaterEqual)
    ∷ (codes "&&", And) ∷ (codes "||", Or) ∷ (codes "|", Pipe) ∷ (codes "!", Bang)
    ∷ (codes "=", Assign) ∷ (codes "=>", FatArrow) ∷ (codes "->", Arrow)
    ∷ (codes ".", Dot) ∷ (codes ",", Comma) ∷ (codes ":", Colon)
    ∷ (codes "(", LeftParen) ∷ (codes ")", RightParen) ∷ (codes "[", LeftBracket) ∷ (codes "]", RightBracket) ∷ (codes "{", LeftBrace) ∷ (codes "}", RightBrace)
    ∷ (codes "@", At)
    ∷ []

abbrev pub same_text : List ℕ → List ℕ → Bool
same_text u v = pointwise nat_eq u v

abbrev pub mark_in : List (List ℕ × Kind) → List ℕ → Option Kind
mark_in [] u = None
mark_in (m ∷ ms) u = if same_text u m.0 then Some m.1 else mark_in ms u

-- Kinds as a mapping's grammar has them. How large a run of digits may be is no matter of its kind.
unfoldable pub kind_of : List ℕ → Option Kind
kind_of u =
    if is_name u then Some Name else if is_var u then Some Var else if is_number u then Some Int else if is_text u then Some Text
    else mark_in marks u
