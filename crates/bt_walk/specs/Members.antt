-- The members of an object, and where a walk goes on.
use Rattle.std.specs.Prelude.{ℕ, List, [], ◌∷◌, Bool, true, false, ◌==◌, ◌+◌, is_some, if◌then◌else◌}
use Rattle.bt_value.specs.Keys.{find}
use Rattle.bt_schema.specs.declared.forms.Form.{Form}
use Rattle.bt_schema.specs.declared.forms.Form.TheVariants as form
use Rattle.bt_schema.specs.declared.places.Place.{Place}
use Rattle.bt_schema.specs.Policies.{Members}
use Rattle.bt_schema.specs.Table.{names_kind}

-- a member of this name is there
abbrev pub has : {V : Type 0} → Members V → List ℕ → Bool
has ms name = is_some (find name ms)

-- how many members name a kind, known or not
abbrev pub kinds : {V : Type 0} → Place → Members V → ℕ
kinds place [] = 0
kinds place (m ∷ ms) = (if names_kind place m.0 then 1 else 0) + kinds place ms

-- What stands in an object is walked where fields are known there; in a component, or where one of some fields has to stand, only
-- where exactly one does.
abbrev pub is_walked : {V : Type 0} → Form → Place → Members V → Bool
is_walked form.Object place ms = true
is_walked form.Component place ms = kinds place ms == 1
is_walked form.Choice place ms = kinds place ms == 1
is_walked _ place ms = false

-- a list belongs there
abbrev pub is_list : Form → Bool
is_list (form.List least most) = true
is_list _ = false
