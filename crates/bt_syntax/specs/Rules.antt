-- The forms that the grammar's rules are made of.
use Rattle.std.specs.Prelude.{◌≡◌, Bool, true, List, [], ◌∷◌, ◌++◌, Option, Some, None}
use Rattle.bt_lexer.specs.declared.token.Kind.{Kind}
use Rattle.bt_lexer.specs.declared.token.Kind.TheVariants as k
use Rattle.bt_syntax.specs.Lexemes.{Lexeme, Lexemes}

-- { x }
pub data Repeated (A : Type 0) (R : A → Lexemes → Type 0) : List A → Lexemes → Type 0 where
  none : Repeated A R [] []
  more : {a : A} {rest : List A} {u v : Lexemes} → R a u → Repeated A R rest v → Repeated A R (a ∷ rest) (u ++ v)

-- [ x { "," x } [ "," ] ]
pub data Listed (A : Type 0) (R : A → Lexemes → Type 0) : List A → Lexemes → Type 0 where
  empty : Listed A R [] []
  last : {a : A} {u : Lexemes} → R a u → Listed A R (a ∷ []) u
  then : {a : A} {rest : List A} {u v : Lexemes} (comma : Lexeme) → R a u → comma.kind ≡ k.Comma → Listed A R rest v → Listed A R (a ∷ rest) (u ++ comma ∷ v)

-- x { separator x }
pub data Separated (separates : Kind → Bool) (A : Type 0) (R : A → Lexemes → Type 0) : List A → Lexemes → Type 0 where
  single : {a : A} {u : Lexemes} → R a u → Separated separates A R (a ∷ []) u
  then : {a : A} {rest : List A} {u v : Lexemes} (t : Lexeme) → R a u → separates t.kind ≡ true → Separated separates A R rest v → Separated separates A R (a ∷ rest) (u ++ t ∷ v)

-- x behind a mark
pub data Behind (mark : Kind) (A : Type 0) (R : A → Lexemes → Type 0) : A → Lexemes → Type 0 where
  behind : {a : A} {u : Lexemes} (t : Lexeme) → t.kind ≡ mark → R a u → Behind mark A R a (t ∷ u)

-- x in brackets
pub data Bracketed (opening closing : Kind) (A : Type 0) (R : A → Lexemes → Type 0) : A → Lexemes → Type 0 where
  bracketed : {a : A} {u : Lexemes} (t t' : Lexeme) → t.kind ≡ opening → R a u → t'.kind ≡ closing → Bracketed opening closing A R a (t ∷ (u ++ t' ∷ []))

-- [ x ]
pub data Optional (A : Type 0) (R : A → Lexemes → Type 0) : Option A → Lexemes → Type 0 where
  absent : Optional A R None []
  present : {a : A} {u : Lexemes} → R a u → Optional A R (Some a) u
