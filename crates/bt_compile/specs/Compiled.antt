-- The processors that a configuration has at a pointer, made ready.
use Rattle.std.specs.Prelude.{◌≡◌, ℕ, List, [], ◌∷◌, false, Option, Some, None, map, eqb}
use Rattle.std.specs.List.{slice_split}
use Rattle.bt_value.specs.declared.val.Val.{Val, out-Val}
use Rattle.bt_value.specs.declared.val.Val.TheOpen.{Val-F}
use Rattle.bt_schema.specs.declared.lints.Lint.{Lint}
use Rattle.bt_schema.specs.declared.places.Place.{Place}
use Rattle.bt_schema.specs.declared.places.Place.TheVariants as place
use Rattle.bt_walk.specs.Targets.{is_target, reach}
use Rattle.bt_making.specs.Sources.{AreMade, IsFirstLint}
use Rattle.bt_proc.specs.declared.tree.Processor.{Processor}
use Rattle.bt_compile.specs.Made.{blanked, joined, parts}
use Rattle.bt_compile.specs.Outlines.{Outline, listed}
use Rattle.bt_compile.specs.Reading.{reading}
use Rattle.bt_compile.specs.declared.fault.ProcsFault.{ProcsFault}
use Rattle.bt_compile.specs.declared.fault.ProcsFault.TheVariants as fault

-- what the elements of a list of processors are to be made as
abbrev pub outline : List Val → Outline (List Processor)
outline vs = listed (map (λ r. r.processor) (map reading vs))

-- These are the processors of a list at a pointer: they have its form, and each of its texts is made ready.
pub record AreProcessors (vs : List Val) (pointer : List ℕ) (ps : List Processor) : Type 0 where
  pub form : map blanked ps ≡ (outline vs).form
  pub made : AreMade ((outline vs).texts pointer) (joined (map parts ps))

-- ---- the list that a pointer names, if it names one

abbrev pub elements_of : Place → Val-F Val → Option (List Val)
elements_of place.Processors (Val-F.Arr vs) = Some vs
elements_of _ _ = None

abbrev pub elements_at : Option (Place × Val) → Option (List Val)
elements_at (Some p) = elements_of p.0 (out-Val p.1)
elements_at None = None

abbrev pub named_by : List (List ℕ) → Val → Option (List Val)
named_by ([] ∷ names) config = elements_at (reach names (place.Top, config))
named_by _ config = None

abbrev pub named : Val → List ℕ → Option (List Val)
named config pointer = named_by (slice_split (λ b. eqb b 47) pointer) config

-- ---- what a configuration has at a pointer

abbrev pub AreProcessorsAt : Val → List ℕ → List Processor → Type 0
AreProcessorsAt config pointer ps = (vs : List Val) × (named config pointer ≡ Some vs) × AreProcessors vs pointer ps

-- Why there are no such: the pointer names no list of processors, or the first text of the list that isn't made ready has this lint.
-- Want of memory may come at any time.
abbrev pub IsFaultAt : Val → List ℕ → ProcsFault → Type 0
IsFaultAt config pointer fault.NotThere = is_target config pointer ≡ false
IsFaultAt config pointer (fault.Lint l) = (vs : List Val) × (named config pointer ≡ Some vs) × IsFirstLint ((outline vs).texts pointer) l
IsFaultAt config pointer fault.NoMemory = Unit {0}
