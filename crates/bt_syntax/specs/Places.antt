-- Where a list of tokens goes wrong.
use Rattle.std.specs.Prelude.{◌≡◌, ℕ, [], ◌∷◌, ◌++◌, Some, None}
use Rattle.bt_syntax.specs.declared.fault.SyntaxFault.{SyntaxFault}
use Rattle.bt_syntax.specs.declared.fault.SyntaxFault.TheVariants.{Syntax, TooDeep, NoMemory}
use Rattle.bt_syntax.specs.Lexemes.{Lexemes}
use Rattle.bt_syntax.specs.Brackets.{deep_at}

-- u is a prefix of a list that is read as something
abbrev pub Viable : {A : Type 0} → (A → Lexemes → Type 0) → Lexemes → Type 0
Viable {A} R u = (a : A) × (more : Lexemes) × R a (u ++ more)

-- u with the first token of the rest is no prefix of a list that is read
abbrev pub NoneFrom : {A : Type 0} → (A → Lexemes → Type 0) → Lexemes → Lexemes → Type 0
NoneFrom R u [] = Unit {0}
NoneFrom {A} R u (t ∷ rest) = (a : A) (more : Lexemes) → R a (u ++ t ∷ more) → ⊥

-- The tokens aren't read, and the rest begins with the first token that ends no prefix of a list that is read.
-- Where the rest is empty, they only stop too soon.
pub record FirstBad (A : Type 0) (R : A → Lexemes → Type 0) (ts rest : Lexemes) : Type 0 where
  pub u : Lexemes
  pub whole : ts ≡ u ++ rest
  pub viable : Viable R u
  pub bad : NoneFrom R u rest
  pub none : (a : A) → R a ts → ⊥

-- the place of the first token of the rest, or the text's length
abbrev pub place_of : Lexemes → ℕ → ℕ
place_of [] end = end
place_of (t ∷ ts) end = t.at

-- why the tokens of a text of this length are refused: a bracket too deep is told before all else
abbrev pub Refuses : {A : Type 0} → (A → Lexemes → Type 0) → Lexemes → ℕ → SyntaxFault → Type 0
Refuses {A} R ts end (Syntax at) = (deep_at 0 ts ≡ None) × (rest : Lexemes) × FirstBad A R ts rest × (at ≡ place_of rest end)
Refuses R ts end (TooDeep at) = deep_at 0 ts ≡ Some at
Refuses R ts end NoMemory = Unit {0}

-- the fault is the first bracket that is one too many open
abbrev pub IsTooDeep : Lexemes → SyntaxFault → Type 0
IsTooDeep ts (Syntax at) = ⊥
IsTooDeep ts (TooDeep at) = deep_at 0 ts ≡ Some at
IsTooDeep ts NoMemory = ⊥
