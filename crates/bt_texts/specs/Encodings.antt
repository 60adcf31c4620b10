-- Bytes as text by a scheme, and back.
use Rattle.std.specs.Prelude.{ℕ, List, codes, Option, if◌then◌else◌}
use Rattle.std.specs.Result.{result_ok}
use Rattle.std.specs.Str.{bytes_eq}
use Rattle.base64.specs.GeneralPurpose.{encode_of, decode_of}
use Rattle.base64.specs.Engines.{standard, url_safe}
use Rattle.hex.specs.Hex.{encode_lower, decode_of as hex_of}
use Rattle.bt_value.specs.declared.val.Val.{Val}
use Rattle.bt_value.specs.declared.val.Val.TheVariants as v
use Rattle.bt_value.specs.declared.message.Out.{Out}
use Rattle.bt_value.specs.declared.message.Out.TheVariants.{Value}
use Rattle.bt_texts.specs.Conversions.{or_bad}
use Rattle.bt_kinds.specs.Kinds.{on}
use Rattle.bt_kinds.specs.Targets.{two, string, text, bytes_of}
use Rattle.bt_texts.specs.declared.encodings.Scheme.{Scheme}
use Rattle.bt_texts.specs.declared.encodings.Scheme.TheVariants.{Base64, UrlSafe, Hex}

-- the scheme of a name; any other name than those of the two base64 schemes is `hex`
abbrev pub scheme : List ℕ → Scheme
scheme s = if bytes_eq s (codes "base64") then Base64 else if bytes_eq s (codes "base64url") then UrlSafe else Hex

-- the text of bytes by a scheme: both alphabets of base64 with padding, and hex in lower case
unfoldable pub encoded : Scheme → List ℕ → List ℕ
encoded Base64 b = encode_of standard b
encoded UrlSafe b = encode_of url_safe b
encoded Hex b = encode_lower b

-- the bytes that a text stands for by a scheme, where the scheme reads it: base64 with padding and zeros behind the last bit, hex in both cases
unfoldable pub decoded : Scheme → List ℕ → Option (List ℕ)
decoded Base64 s = result_ok (decode_of standard s)
decoded UrlSafe s = result_ok (decode_of url_safe s)
decoded Hex s = result_ok (hex_of s)

-- `encode(scheme)`: of a text the string by the scheme
abbrev pub encode : Val → Val → Out
encode x a = on (codes "encode") (two (text x) (string a)) (λ p. Value (v.Str (encoded (scheme p.1) (bytes_of p.0))))

-- `decode(scheme)`: of a text the bytes by the scheme, or `bad text`
abbrev pub decode : Val → Val → Out
decode x a = on (codes "decode") (two (text x) (string a)) (λ p. or_bad (codes "decode") v.Bytes (decoded (scheme p.1) (bytes_of p.0)))
