-- The arguments of a method, from the first. A missing one is null.
use Rattle.std.specs.Prelude.{List, [], ◌∷◌, Option, Some, None}
use Rattle.bt_value.specs.declared.val.Val.{Val, Null}

-- the first one
abbrev pub first : List Val → Val
first [] = Null
first (x ∷ xs) = x

-- an argument that may be left out
abbrev pub optional : List Val → Option Val
optional [] = None
optional (x ∷ xs) = Some x

-- the others
abbrev pub rest : List Val → List Val
rest [] = []
rest (x ∷ xs) = xs
