-- Texts that have a form of their own.
use Rattle.std.specs.Prelude.{ℕ, List, [], ◌∷◌, ◌==◌, ◌*◌, ◌&&◌, ◌||◌, Bool, false, not, Option, Some, None, option_map, codes, drop, take, length, nat_le, if◌then◌else◌}
use Rattle.std.specs.Char.{is_ascii_digit}
use Rattle.std.specs.List.{list_any}
use Rattle.std.specs.Str.{bytes_eq}
use Rattle.std.specs.Str.Parse.{digits_value}

-- the digits that a text begins with
abbrev pub digits : List ℕ → List ℕ
digits [] = []
digits (c ∷ cs) = if is_ascii_digit c then c ∷ digits cs else []

-- what follows them
abbrev pub unit : List ℕ → List ℕ
unit [] = []
unit (c ∷ cs) = if is_ascii_digit c then unit cs else c ∷ cs

-- the milliseconds in a unit of time: milliseconds, seconds, minutes or hours
abbrev pub milliseconds_in : List ℕ → Option ℕ
milliseconds_in u =
    if bytes_eq u (codes "ms") then Some 1
    else if bytes_eq u (codes "s") then Some 1000
    else if bytes_eq u (codes "m") then Some 60000
    else if bytes_eq u (codes "h") then Some 3600000
    else None

-- The milliseconds of a period, which is digits and a unit. The empty text is the period 0, and any other text is none.
unfoldable pub period : List ℕ → Option ℕ
period [] = Some 0
period (c ∷ cs) =
    if is_ascii_digit c then option_map (λ scale. digits_value 10 (digits (c ∷ cs)) * scale) (milliseconds_in (unit (c ∷ cs)))
    else None

-- X where the text is `delim:X`
abbrev pub delimiter : List ℕ → Option (List ℕ)
delimiter t = if bytes_eq (take 6 t) (codes "delim:") then Some (drop 6 t) else None

-- a delimiter of lines has 1 to 16 bytes
abbrev pub fits : List ℕ → Bool
fits x = nat_le 1 (length x) && nat_le (length x) 16

-- a delimiter of records is one ASCII byte that is no quotation mark, carriage return or line feed
abbrev pub fits_csv : List ℕ → Bool
fits_csv (c ∷ []) = not (c == 34) && not (c == 13) && not (c == 10)
fits_csv _ = false

-- the codec by lines
abbrev pub is_lines : List ℕ → Bool
is_lines t = bytes_eq t (codes "lines")

-- `*`, `?` or `[` stands in it
abbrev pub is_glob : List ℕ → Bool
is_glob t = list_any (λ c. c == 42 || c == 63 || c == 91) t

-- X where it is as long as a delimiter may be, and the configuration is of version 2
abbrev pub closing_delimiter : Bool → Option (List ℕ) → Option (List ℕ)
closing_delimiter newer (Some x) = if newer && fits x then Some x else None
closing_delimiter newer None = None

-- The bytes that an output with this codec writes after each message: a line feed for `lines`, X for `delim:X`. A codec that has
-- a lint has none.
abbrev pub closing_bytes : Bool → List ℕ → Option (List ℕ)
closing_bytes newer t = if is_lines t then Some (10 ∷ []) else closing_delimiter newer (delimiter t)
