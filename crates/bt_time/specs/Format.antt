-- Formats, as `%d/%m/%Y`: what a date and time is shown as by one, and which one a text shows.
use Rattle.std.specs.Prelude.{ℕ, ◌+◌, ◌*◌, ◌-◌, ◌/◌, ◌%◌, ℤ, Bool, true, false, ◌&&◌, ◌||◌, ◌==◌, nat_eq, count_by, if◌then◌else◌, List, [], ◌∷◌, ◌++◌, take, drop, fold, Option, Some, None, is_some, option_and_then}
use Rattle.std.specs.Cmp.Lexicographic.{pointwise}
use Rattle.bt_time.specs.declared.civil.Civil.{Civil}
use Rattle.bt_time.specs.declared.format.Directive.{Directive}
use Rattle.bt_time.specs.declared.format.Directive.TheVariants.{Year, Month, Day, Hour, Minute, Second}
use Rattle.bt_time.specs.declared.format.Piece.{Piece}
use Rattle.bt_time.specs.declared.format.Piece.TheVariants.{Part, Byte}
use Rattle.bt_time.specs.Civil.{is_civil, seconds_of, civil_of, is_in_range}

-- the directive of a letter: `%Y`, `%m`, `%d`, `%H`, `%M` and `%S`
abbrev pub directive_of : ℕ → Option Directive
directive_of b =
    if b == 89 then Some Year else (if b == 109 then Some Month else (if b == 100 then Some Day
    else (if b == 72 then Some Hour else (if b == 77 then Some Minute
    else (if b == 83 then Some Second else None)))))

-- what a percent sign and the byte behind it are: a directive, the sign itself, or, where the two name nothing, two bytes
abbrev pub escaped : Option Directive → ℕ → List Piece
escaped (Some d) b = Part d ∷ []
escaped None b = if b == 37 then Byte 37 ∷ [] else Byte 37 ∷ Byte b ∷ []

-- The pieces of a format: its directives, and its other bytes, each for itself. The flag says that a percent sign stands just before.
abbrev pub pieces_behind : Bool → List ℕ → List Piece
pieces_behind false [] = []
pieces_behind true [] = Byte 37 ∷ []
pieces_behind false (b ∷ bs) = if b == 37 then pieces_behind true bs else Byte b ∷ pieces_behind false bs
pieces_behind true (b ∷ bs) = escaped (directive_of b) b ++ pieces_behind false bs

abbrev pub pieces : List ℕ → List Piece
pieces f = pieces_behind false f

-- each percent sign stands before a directive's letter or a second sign
abbrev pub is_format_behind : Bool → List ℕ → Bool
is_format_behind false [] = true
is_format_behind true [] = false
is_format_behind false (b ∷ bs) = if b == 37 then is_format_behind true bs else is_format_behind false bs
is_format_behind true (b ∷ bs) = (is_some (directive_of b) || (b == 37)) && is_format_behind false bs

abbrev pub is_format : List ℕ → Bool
is_format f = is_format_behind false f

-- a year has four digits, all else two
abbrev pub width : Directive → ℕ
width Year = 4
width _ = 2

abbrev pub part : Civil → Directive → ℕ
part c Year = c.year
part c Month = c.month
part c Day = c.day
part c Hour = c.hour
part c Minute = c.minute
part c Second = c.second

-- the last digit of a number
abbrev pub digit : ℕ → ℕ
digit n = 48 + n % 10

-- the last two, and the last four
abbrev pub two_digits : ℕ → List ℕ
two_digits n = digit (n / 10) ∷ digit n ∷ []

abbrev pub four_digits : ℕ → List ℕ
four_digits n = digit (n / 1000) ∷ digit (n / 100) ∷ digit (n / 10) ∷ digit n ∷ []

abbrev pub digits : Directive → ℕ → List ℕ
digits Year n = four_digits n
digits _ n = two_digits n

-- what a piece shows of a date and time
abbrev pub shown_piece : Civil → Piece → List ℕ
shown_piece c (Part d) = digits d (part c d)
shown_piece c (Byte b) = b ∷ []

abbrev pub shown_by : Civil → List Piece → List ℕ
shown_by c [] = []
shown_by c (p ∷ ps) = shown_piece c p ++ shown_by c ps

-- the text of a second by a format
unfoldable pub shown : ℤ → List ℕ → List ℕ
shown s f = shown_by (civil_of s) (pieces f)

-- the number of decimal digits; bytes that are none are caught where the number is shown again
abbrev pub number : List ℕ → ℕ
number xs = fold (λ n b. 10 * n + (b - 48) % 10) 0 xs

abbrev pub is_directive : Directive → Directive → Bool
is_directive Year Year = true
is_directive Month Month = true
is_directive Day Day = true
is_directive Hour Hour = true
is_directive Minute Minute = true
is_directive Second Second = true
is_directive _ _ = false

abbrev pub is_part : Directive → Piece → Bool
is_part d (Part e) = is_directive d e
is_part d (Byte b) = false

abbrev pub piece_width : Piece → ℕ
piece_width (Part d) = width d
piece_width (Byte b) = 1

-- what stands in a text where a format has the directive first
abbrev pub place : Directive → List Piece → List ℕ → List ℕ
place d [] t = []
place d (p ∷ ps) t = if is_part d p then take (width d) t else place d ps (drop (piece_width p) t)

-- the numbers that stand at the directives
unfoldable pub written : List Piece → List ℕ → Civil
written ps t = record {
  year = number (place Year ps t);
  month = number (place Month ps t);
  day = number (place Day ps t);
  hour = number (place Hour ps t);
  minute = number (place Minute ps t);
  second = number (place Second ps t);
}

-- the date and time that a text shows by a format: the one that the calendar has and whose text it is
unfoldable pub civil_in : List Piece → List ℕ → Option Civil
civil_in ps t =
    let c = written ps t in
    if is_civil c && pointwise nat_eq (shown_by c ps) t then Some c else None

-- the second in the range whose text by the format it is
unfoldable pub seen : List ℕ → List ℕ → Option ℤ
seen t f =
    option_and_then (λ c. if is_in_range (seconds_of c) then Some (seconds_of c) else None)
    (civil_in (pieces f) t)

-- how often a format has a directive
abbrev pub count_of : Directive → List Piece → ℕ
count_of d ps = count_by (is_part d) ps

-- the format has each of the six directives exactly once
unfoldable pub is_whole : List ℕ → Bool
is_whole f =
    let ps = pieces f in
    is_format f && (count_of Year ps == 1) && (count_of Month ps == 1) && (count_of Day ps == 1)
    && (count_of Hour ps == 1) && (count_of Minute ps == 1) && (count_of Second ps == 1)
