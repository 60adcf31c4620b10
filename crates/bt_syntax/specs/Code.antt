-- What the code answers beside a reader, where memory may run out.
use Rattle.std.specs.Prelude.{◌≡◌, ℕ, [], ◌∷◌, Option, Some, None, Result, Ok, Err}
use Rattle.std.specs.declared.alloc.Global.{Global}
use denote.Ref.{MutBor}
use Rattle.bt_lexer.specs.declared.token.Kind.TheVariants as k
use Rattle.bt_syntax.specs.declared.fault.SyntaxFault.{SyntaxFault}
use Rattle.bt_syntax.specs.declared.fault.SyntaxFault.TheVariants as fault
use Rattle.bt_syntax.specs.declared.stop.Stop.{Stop}
use Rattle.bt_syntax.specs.declared.stop.Stop.TheVariants as stop
use Rattle.bt_tree.specs.declared.tree.Query.{Query}
use Rattle.bt_tree.specs.declared.tree.Key.{Key}
use Rattle.bt_tree.specs.declared.tree.Key.TheVariants as keys
use Rattle.bt_tree.specs.declared.tree.Suffix.{Suffix}
use Rattle.bt_tree.specs.declared.tree.Suffix.TheVariants as s
use Rattle.bt_syntax.specs.Lexemes.{Lexeme, Lexemes}
use Rattle.bt_syntax.specs.Places.{place_of}
use Rattle.bt_syntax.specs.Reading.{Res, Got, Stuck, Deep}
use Rattle.bt_syntax.specs.Readers.{query}

-- the answer of a reader, unless memory ran out
abbrev pub Reads : {A : Type 0} → Res A → Result A Stop → Lexemes → Type 0
Reads outcome (Ok x) rest = outcome ≡ Got x rest
Reads outcome (Err stop.Stuck) rest = outcome ≡ Stuck rest
Reads outcome (Err stop.Deep) rest = outcome ≡ Deep
Reads outcome (Err stop.NoMemory) rest = Unit {0}

-- the same of a reader of a token, which is told apart from what the code makes of it
abbrev pub Passes : {X : Type 0} → Res Lexeme → Lexeme → Result X Stop → Lexemes → Type 0
Passes outcome t (Ok x) rest = outcome ≡ Got t rest
Passes outcome t (Err stop.Stuck) rest = outcome ≡ Stuck rest
Passes outcome t (Err stop.Deep) rest = outcome ≡ Deep
Passes outcome t (Err stop.NoMemory) rest = Unit {0}

-- what a token stands for, unless memory ran out
abbrev pub Makes : {A : Type 0} → Option A → Result A Stop → Type 0
Makes o (Ok x) = o ≡ Some x
Makes o (Err stop.Stuck) = o ≡ None
Makes o (Err stop.Deep) = ⊥
Makes o (Err stop.NoMemory) = Unit {0}

-- the next token; where there is none, one of no place
abbrev pub next : Lexemes → Lexeme
next [] = record { kind = k.Nl; text = []; at = 0; line = 0 }
next (t ∷ rest) = t

-- the key that a suffix is
abbrev pub key_in : Suffix Query → Option Key
key_in (s.Name u) = Some (keys.Name u)
key_in (s.Quoted u) = Some (keys.Quoted u)
key_in _ = None

-- a function value that reads queries in which brackets nest at most so deep
pub record Nests (depth : ℕ) (pre : Global → MutBor Lexemes → ℕ → Type 0)
    (post : Global → MutBor Lexemes → ℕ → Result Query Stop → MutBor Lexemes → Type 0) : Type 0 where
  pub callable : (alloc : Global) (old : MutBor Lexemes) → pre alloc old depth
  pub reads : (alloc : Global) (old new : MutBor Lexemes) (r : Result Query Stop) → post alloc old depth r new
      → Reads (query depth old.now) r new.now

-- what is answered where a reader of a whole list has ended before these tokens, and the text has that length
abbrev pub ended : {A : Type 0} → Result A Stop → Lexemes → ℕ → Result A SyntaxFault
ended (Ok a) [] end = Ok a
ended (Ok a) (t ∷ rest) end = Err (fault.Syntax t.at)
ended (Err stop.Stuck) rest end = Err (fault.Syntax (place_of rest end))
ended (Err stop.Deep) rest end = Err fault.NoMemory
ended (Err stop.NoMemory) rest end = Err fault.NoMemory
