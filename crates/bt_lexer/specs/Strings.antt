-- The two forms of a text in quotation marks, and the bytes that each stands for.
use Rattle.std.specs.Prelude.{ℕ, zero, suc, ◌+◌, ◌-◌, ◌*◌, Bool, true, false, ◌&&◌, ◌||◌, ◌==◌, not, nat_le, nat_lt, List, [], ◌∷◌, ◌++◌, length, take, drop, Option, Some, None, if◌then◌else◌, encode_utf8}
use Rattle.bt_lexer.specs.Bytes.{is_digit, is_between, quote, backslash, line_feed}

-- a hexadecimal digit, in either case of its letter
abbrev pub is_hex : ℕ → Bool
is_hex c = is_digit c || is_between 65 70 c || is_between 97 102 c

abbrev pub hex_value : ℕ → ℕ
hex_value c = if is_digit c then c - 48 else if nat_le 97 c then c - 87 else c - 55

-- the number that four hexadecimal digits at the front spell, or None where no four stand there
abbrev pub unit_at : List ℕ → Option ℕ
unit_at (a ∷ b ∷ c ∷ d ∷ v) = if is_hex a && is_hex b && is_hex c && is_hex d then Some (4096 * hex_value a + 256 * hex_value b + 16 * hex_value c + hex_value d) else None
unit_at _ = None

-- the first half of a pair of surrogates in UTF-16, D800 to DBFF
abbrev pub is_high : ℕ → Bool
is_high n = is_between 55296 56319 n

-- its second half, DC00 to DFFF
abbrev pub is_low : ℕ → Bool
is_low n = is_between 56320 57343 n

-- the unit that `\u` and four digits at the front spell
abbrev pub escaped_unit_at : List ℕ → Option ℕ
escaped_unit_at (b ∷ u ∷ v) = if b == backslash && u == 117 then unit_at v else None
escaped_unit_at _ = None

-- the character of a pair of surrogates
abbrev pub pair_value : ℕ → ℕ → ℕ
pair_value high low = 65536 + (high - 55296) * 1024 + (low - 56320)

-- the byte that a backslash and this letter stand for: one of `"` `\` `/` `b` `f` `n` `r` `t`
abbrev pub short_escape : ℕ → Option ℕ
short_escape e =
    if e == 34 then Some 34 else if e == 92 then Some 92 else if e == 47 then Some 47 else if e == 98 then Some 8
    else if e == 102 then Some 12 else if e == 110 then Some 10 else if e == 114 then Some 13 else if e == 116 then Some 9 else None

-- A part of a text, as JSON spells a string (RFC 8259, section 7): how many bytes spell it, and the bytes that it stands for.
pub record Part : Type 0 where
  pub len : ℕ
  pub value : List ℕ

-- the surrogates n and that which follows it at once: together they are one character, and a first half alone is none
abbrev pub pair_of : ℕ → Option ℕ → Option Part
pair_of n None = None
pair_of n (Some m) = if is_low m then Some (record { len = 12; value = encode_utf8 (pair_value n m) }) else None

-- the part that an escaped unit begins, with the escaped unit that follows it
abbrev pub unicode_of : Option ℕ → Option ℕ → Option Part
unicode_of None next = None
unicode_of (Some n) next = if is_high n then pair_of n next else if is_low n then None else Some (record { len = 6; value = encode_utf8 n })

abbrev pub short_of : Option ℕ → Option Part
short_of None = None
short_of (Some c) = Some (record { len = 2; value = c ∷ [] })

-- the part that a backslash begins, from the byte after it on
abbrev pub escape_at : List ℕ → Option Part
escape_at [] = None
escape_at (e ∷ v) = if e == 117 then unicode_of (unit_at v) (escaped_unit_at (drop 4 v)) else short_of (short_escape e)

-- a byte that stands for itself
abbrev pub is_plain : ℕ → Bool
is_plain c = not (c == backslash || c == quote || c == line_feed)

-- the part that begins here: an escape, or any byte but `"`, `\` and a line feed, as it stands
abbrev pub part_at : List ℕ → Option Part
part_at [] = None
part_at (c ∷ v) = if c == backslash then escape_at v else if is_plain c then Some (record { len = 1; value = c ∷ [] }) else None

-- how many bytes spell it, or 0 where none begins here
abbrev pub len_of : Option Part → ℕ
len_of None = 0
len_of (Some p) = p.len

abbrev pub value_of : Option Part → List ℕ
value_of None = []
value_of (Some p) = p.value

abbrev pub is_empty : List ℕ → Bool
is_empty [] = true
is_empty (c ∷ v) = false

-- whether these bytes are parts and then a quotation mark, which is the last of them; the first `skip` bytes belong to a part that began before
abbrev pub is_closed : List ℕ → ℕ → Bool
is_closed [] skip = false
is_closed (c ∷ v) (suc skip) = is_closed v skip
is_closed (c ∷ v) zero = if c == quote then is_empty v else nat_lt 0 (len_of (part_at (c ∷ v))) && is_closed v (len_of (part_at (c ∷ v)) - 1)

-- what these bytes stand for, part by part, up to the quotation mark
abbrev pub parts_value : List ℕ → ℕ → List ℕ
parts_value [] skip = []
parts_value (c ∷ v) (suc skip) = parts_value v skip
parts_value (c ∷ v) zero = value_of (part_at (c ∷ v)) ++ parts_value v (len_of (part_at (c ∷ v)) - 1)

-- the first form: `"`, parts, `"`
abbrev pub is_quoted : List ℕ → Bool
is_quoted [] = false
is_quoted (c ∷ v) = c == quote && is_closed v 0

-- three quotation marks begin the text
abbrev pub begins_tripled : List ℕ → Bool
begins_tripled (a ∷ b ∷ c ∷ v) = a == quote && b == quote && c == quote
begins_tripled _ = false

-- whether the first three quotation marks in a row are the last three bytes
abbrev pub ends_tripled : List ℕ → Bool
ends_tripled [] = false
ends_tripled (c ∷ v) = if begins_tripled (c ∷ v) then length v == 2 else ends_tripled v

-- the second form: `"""` to the next `"""`
abbrev pub is_tripled : List ℕ → Bool
is_tripled u = begins_tripled u && ends_tripled (drop 3 u)

-- The value of a text: what stands between three marks as it is, or what the parts between two marks stand for.
abbrev pub text_value : List ℕ → List ℕ
text_value u = if begins_tripled u then take (length u - 6) (drop 3 u) else parts_value (drop 1 u) 0
