-- How the items of an input are parted.
use Rattle.std.specs.Prelude.{ℕ, List, [], ◌∷◌, Bool, true, Option, Some, None, if◌then◌else◌}
use Rattle.bt_schema.specs.Texts.{closing_bytes, fits, fits_csv}

-- lines that end with a delimiter, or records whose fields a byte parts, with a header or without
pub data Scanner : Type 0 where
  lines : List ℕ → Scanner
  records : ℕ → Bool → Scanner

-- the delimiter of lines that a text is, or a line feed
abbrev pub delimiter_of : List ℕ → List ℕ
delimiter_of x = if fits x then x else 10 ∷ []

abbrev pub or_line_feed : Option (List ℕ) → List ℕ
or_line_feed (Some x) = x
or_line_feed None = 10 ∷ []

-- the delimiter that a codec says: of `lines` a line feed, and of `delim:X` X. One that has a lint says a line feed
abbrev pub codec_of : List ℕ → List ℕ
codec_of t = or_line_feed (closing_bytes true t)

-- the byte between the fields of records, or a comma
abbrev pub comma_of : List ℕ → ℕ
comma_of (c ∷ []) = if fits_csv (c ∷ []) then c else 44
comma_of _ = 44
