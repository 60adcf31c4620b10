-- Whether bytes are text, and the values of JSON texts.
use Rattle.std.proofs.Common.{◌≡◌, ℕ, List, Bool, true, false, Some, None, refl}
use Rattle.std.specs.Prelude.{IsUtf8, string_bytes}
use Rattle.std.proofs.Common.{String, Global}
use Rattle.std.specs.Str.{is_utf8}
use Rattle.std.proofs.lemmas.Str.{is_utf8-from_IsUtf8, IsUtf8-from_is_utf8, IsUtf8-string_bytes}
use Rattle.serde_json.specs.Read.{read}
use Rattle.bt_value.specs.Reading.{reading}
use Rattle.bt_value.specs.declared.val.Val.{Val}
use Rattle.bt_texts.specs.Conversions.{json_value}

pub is_text : (b : List ℕ) → IsUtf8 b → is_utf8 b ≡ true
is_text b u = is_utf8-from_IsUtf8 b u

pub text_is : (t : String Global) → is_utf8 (string_bytes t) ≡ true
text_is t = is_utf8-from_IsUtf8 (string_bytes t) (IsUtf8-string_bytes t)

none_is : (b : List ℕ) (a : Bool) → is_utf8 b ≡ a → ¬ (IsUtf8 b) → is_utf8 b ≡ false
none_is b true e h = absurd (h (IsUtf8-from_is_utf8 b e))
none_is b false e h = e

pub no_text : (b : List ℕ) → ¬ (IsUtf8 b) → is_utf8 b ≡ false
no_text b h = none_is b (is_utf8 b) refl h

pub json_is : (b : List ℕ) (x : Val) → IsUtf8 b → reading b ≡ Some x → json_value b ≡ Some x
unfolding json_value
json_is b x u e = rw (is_text b u) e

without : (b : List ℕ) (a : Bool) → is_utf8 b ≡ a → (IsUtf8 b → reading b ≡ None) → json_value b ≡ None
unfolding json_value
without b true e f = rw e (f (IsUtf8-from_is_utf8 b e))
without b false e f = rw e refl

pub json_none : (b : List ℕ) → (IsUtf8 b → reading b ≡ None) → json_value b ≡ None
json_none b f = without b (is_utf8 b) refl f

pub json_unread : (b : List ℕ) → (IsUtf8 b → read b ≡ None) → json_value b ≡ None
json_unread b f = json_none b (λ u. rw (f u) refl)
