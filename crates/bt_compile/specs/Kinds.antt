-- The kinds of processors, and which of them an object names.
use Rattle.std.specs.Prelude.{ℕ, List, [], ◌∷◌, Option, Some, None, codes}
use Rattle.bt_value.specs.Keys.{find}
use Rattle.bt_schema.specs.declared.places.Place.{Place}
use Rattle.bt_schema.specs.declared.places.Place.TheVariants as place
use Rattle.bt_compile.specs.declared.kinds.Kind.{Kind}
use Rattle.bt_compile.specs.declared.kinds.Kind.TheVariants as kind

-- the names of the kinds; `mapping` has two
abbrev pub kinds : List (List ℕ × Kind)
kinds =
    (codes "archive", kind.Archive) ∷
    (codes "bloblang", kind.Mapping) ∷
    (codes "branch", kind.Branch) ∷
    (codes "catch", kind.Catch) ∷
    (codes "for_each", kind.ForEach) ∷
    (codes "group_by", kind.GroupBy) ∷
    (codes "group_by_value", kind.GroupByValue) ∷
    (codes "mapping", kind.Mapping) ∷
    (codes "split", kind.Split) ∷
    (codes "switch", kind.Switch) ∷
    (codes "try", kind.Try) ∷
    (codes "unarchive", kind.Unarchive) ∷
    []

-- the kind of this name
abbrev pub kind_named : List ℕ → Option Kind
kind_named key = find key kinds

-- a member that names a kind, with the kind
pub record Chosen (V : Type 0) : Type 0 where
  pub kind : Kind
  pub key : List ℕ
  pub value : V

abbrev pub chosen_or : {V : Type 0} → Option Kind → List ℕ × V → Option (Chosen V) → Option (Chosen V)
chosen_or (Some k) m rest = Some (record { kind = k; key = m.0; value = m.1 })
chosen_or None m rest = rest

-- the first member that names a kind; of a processor without lints it is the only one
abbrev pub chosen : {V : Type 0} → List (List ℕ × V) → Option (Chosen V)
chosen [] = None
chosen (m ∷ ms) = chosen_or (kind_named m.0) m (chosen ms)

-- the place of what stands at a kind
abbrev pub place_of : Kind → Place
place_of kind.Archive = place.Archive
place_of kind.Branch = place.Branch
place_of kind.Catch = place.Processors
place_of kind.ForEach = place.Processors
place_of kind.GroupBy = place.GroupBy
place_of kind.GroupByValue = place.GroupByValue
place_of kind.Mapping = place.Mapping
place_of kind.Split = place.Split
place_of kind.Switch = place.Switch
place_of kind.Try = place.Processors
place_of kind.Unarchive = place.Archive
