-- `if` and `match`.
use Rattle.std.specs.Prelude.{List, [], ◌∷◌, codes, Bool, true, false, Option, Some, None, if◌then◌else◌}
use Rattle.bt_value.specs.Order.{equals}
use Rattle.bt_value.specs.declared.val.Val.{Val}
use Rattle.bt_value.specs.declared.val.Val.TheVariants as v
use Rattle.bt_value.specs.declared.names.PrefixOp.TheVariants as pre
use Rattle.bt_value.specs.declared.message.Out.{Out}
use Rattle.bt_value.specs.declared.message.Out.TheVariants.{Value, Nothing}
use Rattle.bt_tree.specs.declared.tree.Query.TheOpen.{Query-F}
use Rattle.bt_tree.specs.declared.tree.Case.{Case}
use Rattle.bt_tree.specs.declared.tree.Case.TheVariants as case
use Rattle.bt_tree.specs.declared.tree.Branch.{Branch}
use Rattle.bt_kinds.specs.Kinds.{kind_of, wrong}
use Rattle.bt_kinds.specs.Operators.{negate}
use Rattle.bt_kinds.specs.declared.kinds.Kind.{Kind}
use Rattle.bt_meaning.specs.Contexts.{Where, Sense, with_this}
use Rattle.bt_meaning.specs.Outcomes.{then_value, truth, passes}

-- what the branch gives where its condition is true, and the rest where it is false; no boolean is a wrong type of this kind
abbrev pub chosen : Option Bool → Kind → Out → Out → Out
chosen (Some true) kd x y = x
chosen (Some false) kd x y = y
chosen None kd x y = wrong (codes "if") kd

-- what `else` gives, and Nothing without one
abbrev pub otherwise : Option Sense → Where → Out
otherwise None c = Nothing
otherwise (Some q) c = q.at c

-- `if`: the first branch whose condition is true; a condition that is no boolean is a wrong type
abbrev pub branches : List (Branch Sense) → Option Sense → Where → Out
branches [] e c = otherwise e c
branches (b ∷ bs) e c = then_value (codes "if") (b.test.at c) (λ x. chosen (truth x) (kind_of x) (b.gives.at c) (branches bs e c))

-- the value of an outcome
abbrev pub negated : Out → Option Val
negated (Value x) = Some x
negated o = None

-- `-` before a number
abbrev pub minus : Option Val → Option Val
minus (Some x) = negated (negate pre.Minus x)
minus None = None

-- the literals that a case compares by: null, a boolean, a number, `-` and a number, a text
abbrev pub literal_of : Query-F Sense → Option Val
literal_of Query-F.Null = Some v.Null
literal_of Query-F.True = Some (v.Bool true)
literal_of Query-F.False = Some (v.Bool false)
literal_of (Query-F.Int z) = Some (v.Int z)
literal_of (Query-F.Quoted w) = Some (v.Str w.text)
literal_of (Query-F.Prefix pre.Minus q) = minus q.literal
literal_of _ = None

-- equality of a literal and `this`, which no failure is equal to
abbrev pub matches_literal : Val → Out → Bool
matches_literal x (Value y) = equals x y
matches_literal x o = false

-- a literal matches where it equals `this`, and any other query where it gives true
abbrev pub test_passes : Option Val → Out → Out → Bool
test_passes (Some x) this got = matches_literal x this
test_passes None this got = passes got

-- whether a case matches; `_` does
abbrev pub applies : Case Sense → Where → Bool
applies (case.Any g) c = true
applies (case.When q g) c = test_passes q.literal c.this (q.at c)

-- what stands behind `=>`
abbrev pub gives : Case Sense → Sense
gives (case.Any g) = g
gives (case.When q g) = g

-- the first case that matches, and Nothing where none does
abbrev pub first_case : List (Case Sense) → Where → Out
first_case [] c = Nothing
first_case (x ∷ xs) c = if applies x c then (gives x).at c else first_case xs c

-- `match`: with a value that is `this` in the cases, or without one
abbrev pub matched : Option Sense → List (Case Sense) → Where → Out
matched None xs c = first_case xs c
matched (Some q) xs c = then_value (codes "match") (q.at c) (λ x. first_case xs (with_this (Value x) c))
