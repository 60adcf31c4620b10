-- The message that an item of the input begins as.
use Rattle.std.specs.Prelude.{ℕ, List, [], ◌∷◌, codes, Option, Some, None}
use Rattle.bt_ports.specs.declared.parts.Item.{Item}
use Rattle.bt_value.specs.declared.val.Val.{Val}
use Rattle.bt_value.specs.declared.val.Val.TheVariants as v
use Rattle.bt_value.specs.declared.message.Msg.{Msg}

-- its metadata: its path, where it has one
abbrev pub metadata : Option (List ℕ) → List (List ℕ × Val)
metadata None = []
metadata (Some path) = (codes "path", v.Str path) ∷ []

-- its bytes as content, its path as metadata, and no flag
abbrev pub message : Item → Msg
message i = record { content = i.bytes; meta = metadata i.path; flag = None }
