-- Classes of the bytes of a mapping.
use Rattle.std.specs.Prelude.{ℕ, Bool, false, ◌&&◌, ◌||◌, ◌==◌, not, nat_le, List, [], ◌∷◌}

-- `"`
abbrev pub quote : ℕ
quote = 34

abbrev pub is_quote : ℕ → Bool
is_quote c = c == quote

-- `\`
abbrev pub backslash : ℕ
backslash = 92

abbrev pub is_backslash : ℕ → Bool
is_backslash c = c == backslash

abbrev pub line_feed : ℕ
line_feed = 10

abbrev pub is_between : ℕ → ℕ → ℕ → Bool
is_between low high c = nat_le low c && nat_le c high

-- `0` to `9`
abbrev pub is_digit : ℕ → Bool
is_digit c = is_between 48 57 c

-- `A` to `Z`, `a` to `z` or `_`
abbrev pub is_letter : ℕ → Bool
is_letter c = is_between 65 90 c || is_between 97 122 c || c == 95

abbrev pub is_name_byte : ℕ → Bool
is_name_byte c = is_letter c || is_digit c

-- a space, a tab or a carriage return
abbrev pub is_blank : ℕ → Bool
is_blank c = c == 32 || c == 9 || c == 13

-- anything but a line feed
abbrev pub is_in_line : ℕ → Bool
is_in_line c = not (c == line_feed)

-- whether the text begins with a byte that passes
abbrev pub begins : (ℕ → Bool) → List ℕ → Bool
begins p [] = false
begins p (c ∷ v) = p c
