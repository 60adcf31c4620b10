-- Which line feeds are tokens, and the tokens of a mapping.
use Rattle.std.specs.Prelude.{◌≡◌, ℕ, Bool, true, false, ◌&&◌, ◌||◌, List, [], ◌∷◌, Option, Some, None, Ok, Err, if◌then◌else◌, slice_range, codes}
use Rattle.bt_lexer.specs.declared.token.Kind.{Kind}
use Rattle.bt_lexer.specs.declared.token.Kind.TheVariants.{Name, Nl, Plus, Minus, Star, Slash, Percent, Equal, NotEqual, Less, LessEqual, Greater, GreaterEqual, And, Or, Pipe, Bang, Assign, FatArrow, Arrow, Dot, Comma, Colon, LeftParen, RightParen, LeftBracket, RightBracket, LeftBrace, RightBrace}
use Rattle.bt_lexer.specs.declared.token.Token.{Token}
use Rattle.bt_lexer.specs.declared.token.LexFault.{LexFault}
use Rattle.bt_lexer.specs.Kinds.{same_text}
use Rattle.bt_lexer.specs.Tokens.{Reads}

abbrev pub is_line_feed : Kind → Bool
is_line_feed Nl = true
is_line_feed _ = false

abbrev pub is_name_kind : Kind → Bool
is_name_kind Name = true
is_name_kind _ = false

-- one of `( [ { , : = => ->` or an operator, `+ - * / % == != < <= > >= && || | !`
abbrev pub is_open_ended : Kind → Bool
is_open_ended LeftParen = true
is_open_ended LeftBracket = true
is_open_ended LeftBrace = true
is_open_ended Comma = true
is_open_ended Colon = true
is_open_ended Assign = true
is_open_ended FatArrow = true
is_open_ended Arrow = true
is_open_ended Plus = true
is_open_ended Minus = true
is_open_ended Star = true
is_open_ended Slash = true
is_open_ended Percent = true
is_open_ended Equal = true
is_open_ended NotEqual = true
is_open_ended Less = true
is_open_ended LessEqual = true
is_open_ended Greater = true
is_open_ended GreaterEqual = true
is_open_ended And = true
is_open_ended Or = true
is_open_ended Pipe = true
is_open_ended Bang = true
is_open_ended _ = false

-- one of `) ] } .`
abbrev pub is_closing : Kind → Bool
is_closing RightParen = true
is_closing RightBracket = true
is_closing RightBrace = true
is_closing Dot = true
is_closing _ = false

-- the name `else`
abbrev pub is_else : List ℕ → Token → Bool
is_else s t = is_name_kind t.kind && same_text (slice_range s t.from t.to) (codes "else")

-- A line feed is soft by what stands before it, blanks and comments aside: nothing, another line feed, or a token that wants more.
abbrev pub is_soft_after : Option Kind → Bool
is_soft_after None = true
is_soft_after (Some k) = is_line_feed k || is_open_ended k

-- It is soft by the next token after it that is no line feed: none, one that closes, or `else`.
abbrev pub is_soft_before : List ℕ → List Token → Bool
is_soft_before s [] = true
is_soft_before s (t ∷ ts) = if is_line_feed t.kind then is_soft_before s ts else is_closing t.kind || is_else s t

-- The tokens without the soft line feeds among them, behind one of the kind that is given, if there is one.
abbrev pub hardened : List ℕ → Option Kind → List Token → List Token
hardened s behind [] = []
hardened s behind (t ∷ ts) =
    if is_line_feed t.kind && (is_soft_after behind || is_soft_before s ts) then hardened s (Some t.kind) ts
    else t ∷ hardened s (Some t.kind) ts

-- The text has these tokens.
pub record HasTokens (s : List ℕ) (ts : List Token) : Type 0 where
  pub all : List Token
  pub reads : Reads 0 false s (Ok all)
  pub hard : ts ≡ hardened s None all

-- The text has this fault, and none before it.
abbrev pub HasFault : List ℕ → LexFault → Type 0
HasFault s fault = Reads 0 false s (Err fault)
