-- Contents as documents, and documents as contents.
use Rattle.std.specs.Prelude.{ℕ, List, codes, Option, Some, None, Result, Ok, Err, if◌then◌else◌}
use Rattle.std.specs.Str.{is_utf8}
use Rattle.serde_json.specs.Data.{Data}
use Rattle.serde_json.specs.Read.{read}
use Rattle.bt_value.specs.Plain.{has_bytes}
use Rattle.bt_value.specs.Reading.{of_data, text}
use Rattle.bt_value.specs.declared.val.Val.{Val, out-Val}
use Rattle.bt_value.specs.declared.val.Val.TheOpen.{Val-F}
use Rattle.bt_value.specs.declared.message.Out.{Out}
use Rattle.bt_value.specs.declared.message.Out.TheVariants.{Value, Failed}
use Rattle.bt_texts.specs.Conversions.{written}
use Rattle.bt_meaning.specs.declared.content.ContentFault.{ContentFault}
use Rattle.bt_meaning.specs.declared.content.ContentFault.TheVariants.{NotJson, OutOfProfile}
use Rattle.bt_meaning.specs.declared.state.Root.{Root}
use Rattle.bt_meaning.specs.declared.state.Root.TheVariants as r

-- the value of JSON data, where each number in it is a whole number of 64 bits
abbrev pub in_profile : Option Val → Result Val ContentFault
in_profile (Some x) = Ok x
in_profile None = Err OutOfProfile

-- the value of data that JSON reads, where there is such data
abbrev pub read_as : Option Data → Result Val ContentFault
read_as (Some d) = in_profile (of_data d)
read_as None = Err NotJson

-- the value that a content is as JSON; bytes that are no UTF-8 are no JSON
unfoldable pub document : List ℕ → Result Val ContentFault
document content = if is_utf8 content then read_as (read content) else Err NotJson

-- what `this` gives at the top of a mapping, of a content so read
abbrev pub this_given : Result Val ContentFault → Out
this_given (Ok x) = Value x
this_given (Err NotJson) = Failed (codes "this: not JSON")
this_given (Err OutOfProfile) = Failed (codes "this: number out of profile")

-- what `this` gives at the top of a mapping: the message's content as JSON
abbrev pub this_of : List ℕ → Out
this_of content = this_given (document content)

-- the text of a failure
abbrev pub failure_in : Out → Option (List ℕ)
failure_in (Failed t) = Some t
failure_in _ = None

-- the text with which `this` fails there, where the content is no document
abbrev pub this_fault : List ℕ → Option (List ℕ)
this_fault content = failure_in (this_of content)

-- the root with which a mapping begins to which a message is handed in, by that message's content
abbrev pub root_given : Result Val ContentFault → Root
root_given (Ok x) = r.Set x
root_given (Err NotJson) = r.Unread (codes "root: not JSON")
root_given (Err OutOfProfile) = r.Unread (codes "root: number out of profile")

-- the compact JSON text of a value; bytes in it stand as text, where they are text
abbrev pub json_of : Val → Option (List ℕ)
json_of x = if has_bytes x then written x else Some (text x)

-- by the kind of the value
abbrev content_at : Option (List ℕ) → Val-F Val → Option (List ℕ)
content_at json (Val-F.Str s) = Some s
content_at json (Val-F.Bytes b) = Some b
content_at json _ = json

-- A document as content: a string and bytes as they are, and every other value as its compact JSON, where there is one.
unfoldable pub content_of : Val → Option (List ℕ)
content_of x = content_at (json_of x) (out-Val x)
