-- What the values of a configuration are made as, where their texts are read, place by place.
use Rattle.std.proofs.Common.{◌≡◌, ℕ, List, true, Option, Some, None}
use Rattle.std.specs.Prelude.{is_some}
use Rattle.bt_schema.specs.Pointer.{under}
use Rattle.bt_schema.specs.declared.forms.Language.TheVariants as language
use Rattle.bt_schema.specs.declared.places.Place.{Place}
use Rattle.bt_schema.specs.declared.places.Place.TheVariants as place
use Rattle.bt_compile.specs.Kinds.{Chosen, place_of}
use Rattle.bt_compile.specs.Outlines.{Outline, optional_as}
use Rattle.bt_compile.specs.Reading as spec
use Rattle.bt_compile.specs.Reading.{Reading}
use Rattle.bt_compile.specs.declared.kinds.Kind.{Kind}
use Rattle.bt_compile.specs.declared.kinds.Kind.TheVariants as kind
use Rattle.bt_compile_laws.proofs.Known.{AllRead, IsRead}

-- each text that an outline has is read, wherever it stands
abbrev pub IsDone : {A : Type 0} → Outline A → Type 0
IsDone o = (at : List ℕ) → AllRead (o.texts at)

-- what a value is made as at a place has only texts that are read
abbrev pub IsGood : Place → Reading → Type 0
IsGood place.Mapping r = IsRead language.Mapping r.text
IsGood place.OptionalMapping r = IsDone (optional_as language.Mapping r.text)
IsGood place.Check r = IsRead language.Check r.text
IsGood place.OptionalCheck r = IsDone (optional_as language.Check r.text)
IsGood place.Interpolated r = IsRead language.Interpolated r.text
IsGood place.Processor r = IsDone r.processor × IsDone r.single
IsGood place.Processors r = IsDone r.processors × IsDone r.singles
IsGood place.Switch r = IsDone r.switch_cases
IsGood place.SwitchCase r = IsDone r.switch_case
IsGood place.Branch r = IsDone r.branch
IsGood place.GroupBy r = IsDone r.groups
IsGood place.Group r = IsDone r.group
IsGood place.GroupByValue r = IsRead language.Interpolated r.value
IsGood _ r = Unit {0}

abbrev pub IsGoodThere : Place → Option Reading → Type 0
IsGoodThere there (Some r) = IsGood there r
IsGoodThere there None = Unit {0}

-- ---- fields

pub optional_check : (o : Option Reading) → IsGoodThere place.OptionalCheck o → IsDone (optional_as language.Check (spec.text_of o))
optional_check None h = λ at. tt
optional_check (Some r) h = h

pub optional_mapping : (o : Option Reading) → IsGoodThere place.OptionalMapping o → IsDone (optional_as language.Mapping (spec.text_of o))
optional_mapping None h = λ at. tt
optional_mapping (Some r) h = h

pub singles : (o : Option Reading) → IsGoodThere place.Processors o → IsDone (spec.singles_of o)
singles None h = λ at. tt
singles (Some r) h = h.1

pub processors : (o : Option Reading) → IsGoodThere place.Processors o → IsDone (spec.processors_of o)
processors None h = λ at. tt
processors (Some r) h = h.0

pub check : (o : Option Reading) → is_some o ≡ true → IsGoodThere place.Check o → IsRead language.Check (spec.text_of o)
check None there h = absurd (cc)
check (Some r) there h = h

pub value : (o : Option Reading) → is_some o ≡ true → IsGoodThere place.Interpolated o → IsRead language.Interpolated (spec.text_of o)
value None there h = absurd (cc)
value (Some r) there h = h

-- ---- processors of a kind

single_as : (k : Kind) (r : Reading) → IsGood (place_of k) r → IsDone (spec.single_as k r)
single_as kind.Archive r h = λ at. tt
single_as kind.Branch r h = h
single_as kind.Catch r h = h.1
single_as kind.ForEach r h = h.1
single_as kind.GroupBy r h = λ at. tt
single_as kind.GroupByValue r h = λ at. tt
single_as kind.Mapping r h = λ at. (h, tt)
single_as kind.Split r h = λ at. tt
single_as kind.Switch r h = h
single_as kind.Try r h = h.1
single_as kind.Unarchive r h = λ at. tt

processor_as : (k : Kind) (r : Reading) → IsGood (place_of k) r → IsDone (spec.processor_as k r)
processor_as kind.Archive r h = λ at. tt
processor_as kind.Branch r h = h
processor_as kind.Catch r h = h.0
processor_as kind.ForEach r h = h.0
processor_as kind.GroupBy r h = h
processor_as kind.GroupByValue r h = λ at. (h, tt)
processor_as kind.Mapping r h = λ at. (h, tt)
processor_as kind.Split r h = λ at. tt
processor_as kind.Switch r h = h
processor_as kind.Try r h = h.0
processor_as kind.Unarchive r h = λ at. tt

abbrev pub IsGoodChoice : Option (Chosen Reading) → Type 0
IsGoodChoice (Some c) = IsGood (place_of c.kind) c.value
IsGoodChoice None = Unit {0}

pub processor_in : (o : Option (Chosen Reading)) → IsGoodChoice o → IsDone (spec.processor_in o) × IsDone (spec.single_in o)
processor_in (Some c) h = (λ at. processor_as c.kind c.value h (under at c.key), λ at. single_as c.kind c.value h (under at c.key))
processor_in None h = (λ at. tt, λ at. tt)
