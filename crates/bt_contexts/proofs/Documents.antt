-- What a content is as a document, by what reading it answers.
use Rattle.std.proofs.Common.{◌≡◌, ℕ, List, Bool, true, false, Option, Some, None, Result, Ok, Err, refl, ap, if◌then◌else◌, option_and_then, is_some, IsSome, ◌∙◌}
use Rattle.std.specs.Prelude.{IsUtf8}
use Rattle.std.specs.Str.{is_utf8}
use Rattle.std.proofs.lemmas.Str.{is_utf8-from_IsUtf8, IsUtf8-from_is_utf8}
use Rattle.serde_json.specs.Data.{Data}
use Rattle.serde_json.specs.Read.{read}
use Rattle.bt_value.specs.Reading.{reading, of_data}
use Rattle.bt_value.specs.declared.val.Val.{Val}
use Rattle.bt_meaning.specs.Contents.{document, read_as, in_profile}
use Rattle.bt_meaning.specs.declared.content.ContentFault.TheVariants.{NotJson, OutOfProfile}

read_as-value : (o : Option Data) (x : Val) → option_and_then of_data o ≡ Some x → read_as o ≡ Ok x
read_as-value None x e = cc
read_as-value (Some d) x e = ap in_profile e

-- a text without a value that has a reading
read_as-past : (o : Option Data) → is_some o ≡ true → option_and_then of_data o ≡ None → read_as o ≡ Err OutOfProfile
read_as-past None some e = cc
read_as-past (Some d) some e = ap in_profile e

by_utf8 : (u : Bool) (o : Option Data) → (u ≡ true → o ≡ None) → (if u then read_as o else Err NotJson) ≡ Err NotJson
by_utf8 true o f = ap read_as (f refl)
by_utf8 false o f = refl

is_text : (b : List ℕ) → IsUtf8 b → document b ≡ read_as (read b)
unfolding document
is_text b u = rw (is_utf8-from_IsUtf8 b u) refl

pub document_value : (b : List ℕ) (x : Val) → IsUtf8 b → reading b ≡ Some x → document b ≡ Ok x
document_value b x u e = is_text b u ∙ read_as-value (read b) x e

pub document_none : (b : List ℕ) → (IsUtf8 b → read b ≡ None) → document b ≡ Err NotJson
unfolding document
document_none b f = by_utf8 (is_utf8 b) (read b) (λ e. f (IsUtf8-from_is_utf8 b e))

pub document_past : (b : List ℕ) → IsUtf8 b → IsSome (read b) → reading b ≡ None → document b ≡ Err OutOfProfile
document_past b u some e = is_text b u ∙ read_as-past (read b) some e
