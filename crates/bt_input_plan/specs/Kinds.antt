-- The kinds of inputs, and which of them an object names.
use Rattle.std.specs.Prelude.{ℕ, List, [], ◌∷◌, Option, Some, None, codes}
use Rattle.bt_value.specs.Keys.{find}
use Rattle.bt_input_plan.specs.declared.kinds.Kind.{Kind}
use Rattle.bt_input_plan.specs.declared.kinds.Kind.TheVariants as kind

-- the names of the kinds
abbrev pub kinds : List (List ℕ × Kind)
kinds =
    (codes "batched", kind.Batched) ∷
    (codes "file", kind.File) ∷
    (codes "read_until", kind.ReadUntil) ∷
    (codes "sequence", kind.Sequence) ∷
    (codes "stdin", kind.Stdin) ∷
    []

-- the kind of this name
abbrev pub kind_named : List ℕ → Option Kind
kind_named key = find key kinds

-- a member that names a kind, with the kind
pub record Chosen (V : Type 0) : Type 0 where
  pub kind : Kind
  pub key : List ℕ
  pub value : V

abbrev pub chosen_or : {V : Type 0} → Option Kind → List ℕ × V → Option (Chosen V) → Option (Chosen V)
chosen_or (Some k) m rest = Some (record { kind = k; key = m.0; value = m.1 })
chosen_or None m rest = rest

-- the first member that names a kind; of an input without lints it is the only one
abbrev pub chosen : {V : Type 0} → List (List ℕ × V) → Option (Chosen V)
chosen [] = None
chosen (m ∷ ms) = chosen_or (kind_named m.0) m (chosen ms)
