-- The batch that a test puts in.
use Rattle.std.specs.Prelude.{ℕ, ◌+◌, List, [], ◌∷◌, codes, Option, Some, None, if◌then◌else◌}
use Rattle.bt_value.specs.Plain.{has_bytes}
use Rattle.bt_value.specs.Reading.{text}
use Rattle.bt_value.specs.declared.message.Msg.{Msg}
use Rattle.bt_value.specs.declared.val.Val.{Val}
use Rattle.bt_batches.specs.declared.piece.Piece.{Piece}
use Rattle.bt_units.specs.Fields.{field, input_batch, members_of, string}

-- the compact JSON text of a value; a configuration that is JSON text has no bytes in it
abbrev pub json_text : Val → List ℕ
json_text v = if has_bytes v then [] else text v

abbrev pub json_of : Option Val → List ℕ
json_of (Some v) = json_text v
json_of None = []

-- `content` as it is, or else `json_content` as compact JSON
abbrev pub content_or : Option Val → Option Val → List ℕ
content_or (Some v) json = string v
content_or None json = json_of json

abbrev pub content_of : Val → List ℕ
content_of v = content_or (field (codes "content") v) (field (codes "json_content") v)

-- a message with its content and `metadata` [`{}`], which isn't flagged
abbrev pub message : Val → Msg
message v = record { content = content_of v; meta = members_of (field (codes "metadata") v); flag = None }

-- the messages of a list, each with the number of its place as its origin
abbrev pub pieces_from : ℕ → List Val → List Piece
pieces_from i [] = []
pieces_from i (v ∷ vs) = record { msg = message v; from = i ∷ [] } ∷ pieces_from (i + 1) vs

abbrev pub input_of : Val → List Piece
input_of test = pieces_from 0 (input_batch test)
