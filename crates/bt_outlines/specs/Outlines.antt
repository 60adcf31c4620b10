-- What the parts of a configuration are to be made as: everything but the texts in the language of mappings, which are left blank,
-- and these texts with their pointers.
use Rattle.std.specs.Prelude.{ℕ, List, [], ◌∷◌, ◌++◌, ◌+◌, ◌==◌, Option, Some, None, if◌then◌else◌, length, map}
use Rattle.bt_mappings.specs.declared.interpolation.Bit.{Bit}
use Rattle.bt_ports.specs.Contents.{Contents}
use Rattle.bt_ready.specs.declared.ready.Ready.{Ready}
use Rattle.bt_schema.specs.Pointer.{nth, under}
use Rattle.bt_schema.specs.declared.forms.Language.{Language}
use Rattle.bt_schema.specs.declared.forms.Language.TheVariants as language
use Rattle.bt_tree.specs.declared.tree.Mapping.TheVariants as tree
use Rattle.bt_tree.specs.declared.tree.Query.TheVariants as query
use Rattle.bt_making.specs.Sources.{Part, Source, mapping, source}

-- what stands for each mapping that is left blank, and for the pieces of each text
abbrev pub blank : Ready
blank = record { mapping = tree.Query 0 query.Null; patterns = record { list = []; spare = 0 } }

abbrev pub no_pieces : Contents Bit
no_pieces = record { list = []; spare = 0 }

-- The form of what is to be made, with its texts left blank, and the texts in the order of the walk, where the pointer is given.
pub record Outline (A : Type 0) : Type 0 where
  pub form : A
  pub texts : List ℕ → List Source

-- without texts
abbrev pub plain : {A : Type 0} → A → Outline A
plain x = record { form = x; texts = λ at. [] }

-- in a form of another kind
abbrev pub formed : {A B : Type 0} → (A → B) → Outline A → Outline B
formed f o = record { form = f o.form; texts = o.texts }

-- at the member of this name
abbrev pub below : {A : Type 0} → List ℕ → Outline A → Outline A
below key o = record { form = o.form; texts = λ at. o.texts (under at key) }

-- a check
abbrev pub check_as : List ℕ → Outline Ready
check_as text = record { form = blank; texts = λ at. source language.Check text at ∷ [] }

-- the same, where the empty text stands for none
abbrev pub optional_check_as : List ℕ → Outline (Option Ready)
optional_check_as text = if length text == 0 then plain None else formed Some (check_as text)

-- the texts of elements from a place on
abbrev pub texts_from : {A : Type 0} → List ℕ → ℕ → List (Outline A) → List Source
texts_from at i [] = []
texts_from at i (o ∷ os) = o.texts (nth at i) ++ texts_from at (i + 1) os

-- a list of them
abbrev pub listed : {A : Type 0} → List (Outline A) → Outline (List A)
listed os = record { form = map (λ o. o.form) os; texts = λ at. texts_from at 0 os }

-- ---- what is made, with its texts left blank, and what they were made ready as

abbrev pub blank_of : Option Ready → Option Ready
blank_of (Some r) = Some blank
blank_of None = None

abbrev pub part_of : Option Ready → List Part
part_of (Some r) = mapping r ∷ []
part_of None = []

-- lists put end to end
abbrev pub joined : {A : Type 0} → List (List A) → List A
joined [] = []
joined (xs ∷ xss) = xs ++ joined xss
