-- Pointers of RFC 6901.
use Rattle.std.specs.Prelude.{ℕ, List, ◌∷◌, ◌++◌, codes, ◌==◌, if◌then◌else◌, decimal}
use Rattle.std.specs.Char.{encode_utf8}
use Rattle.std.specs.List.{flat_map}
use Rattle.std.specs.Str.{chars}

-- `~0` for `~`, `~1` for `/`, and any other character as it is
abbrev pub escaped_char : ℕ → List ℕ
escaped_char c = if c == 126 then codes "~0" else if c == 47 then codes "~1" else encode_utf8 c

-- a key, character by character
abbrev pub escaped : List ℕ → List ℕ
escaped key = flat_map escaped_char (chars key)

-- the pointer of the member `key` of what stands at a pointer
unfoldable pub under : List ℕ → List ℕ → List ℕ
under at key = at ++ 47 ∷ escaped key

-- the pointer of the element `i` of what stands at a pointer
unfoldable pub nth : List ℕ → ℕ → List ℕ
nth at i = at ++ 47 ∷ decimal i
