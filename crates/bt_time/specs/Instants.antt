-- Instants as texts: `YYYY-MM-DDTHH:MM:SS`, then nothing or a point and one to nine digits, then `Z` or a sign and `HH:MM`.
use Rattle.std.specs.Prelude.{ℕ, ◌+◌, ◌*◌, ◌-◌, ◌^◌, ℤ, pos, neg_ℤ, ◌+ℤ◌, ◌-ℤ◌, ◌*ℤ◌, Bool, ◌&&◌, ◌==◌, nat_le, nat_lt, if◌then◌else◌, List, [], ◌∷◌, length, take, drop, Option, Some, None, option_and_then, option_map, slice_index, Result, Ok, Err, codes}
use Rattle.std.specs.Int.{int_div_euclid}
use Rattle.std.specs.List.{list_all}
use Rattle.std.specs.Char.{is_ascii_digit}
use Rattle.bt_time.specs.declared.fault.TimeFault.{TimeFault}
use Rattle.bt_time.specs.declared.fault.TimeFault.TheVariants.{BadText, OutOfRange}
use Rattle.bt_time.specs.declared.civil.Civil.{Civil}
use Rattle.bt_time.specs.Civil.{seconds_of, is_in_range}
use Rattle.bt_time.specs.Format.{pieces, civil_in, number, shown}

-- the nanoseconds of a second
abbrev pub nanos : ℤ → ℤ
nanos s = s *ℤ pos 1000000000

-- the fraction of a second in nanoseconds: nothing, or a point and one to nine digits
abbrev pub fraction : List ℕ → Option ℕ
fraction [] = Some 0
fraction (b ∷ ds) =
    if b == 46 && nat_le 1 (length ds) && nat_le (length ds) 9 && list_all is_ascii_digit ds
    then Some (number ds * 10 ^ (9 - length ds)) else None

-- `HH:MM` up to 23:59, in seconds
abbrev pub clock : List ℕ → Option ℕ
clock u =
    let hours = take 2 u in
    let minutes = drop 3 u in
    if (length u == 5) && (slice_index u 2 == 58) && list_all is_ascii_digit hours && list_all is_ascii_digit minutes
    && nat_lt (number hours) 24 && nat_lt (number minutes) 60
    then Some (number hours * 3600 + number minutes * 60) else None

-- `+` is east of UTC, and `-` west
abbrev pub signed : ℕ → ℕ → Option ℤ
signed sign n = if sign == 43 then Some (pos n) else (if sign == 45 then Some (neg_ℤ (pos n)) else None)

-- the offset from UTC in seconds: `Z`, or a sign and `HH:MM`
abbrev pub offset : List ℕ → Option ℤ
offset [] = None
offset (b ∷ []) = if b == 90 then Some (pos 0) else None
offset (b ∷ c ∷ cs) = option_and_then (signed b) (clock (c ∷ cs))

-- whether the text ends with `Z`
abbrev pub is_zulu : List ℕ → Bool
is_zulu u = nat_lt 0 (length u) && (slice_index u (length u - 1) == 90)

-- where the offset begins in what stands behind the seconds
abbrev pub offset_at : List ℕ → ℕ
offset_at u = if is_zulu u then length u - 1 else length u - 6

-- the nanoseconds of a date and time with its fraction and offset
unfoldable pub instant_of : Civil → ℕ → ℤ → ℤ
instant_of c f z = nanos (seconds_of c -ℤ z) +ℤ pos f

-- how a date and a time of day are written: `%Y-%m-%dT%H:%M:%S`
abbrev pub stamp : List ℕ
stamp = codes "%Y-%m-%dT%H:%M:%S"

-- the nanoseconds since 1970-01-01T00:00:00Z that the text names, where it has the form and the date and the time exist
unfoldable pub instant : List ℕ → Option ℤ
instant t =
    let behind = drop 19 t in
    option_and_then (λ c.
    option_and_then (λ f.
    option_map (λ z. instant_of c f z) (offset (drop (offset_at behind) behind)))
    (fraction (take (offset_at behind) behind)))
    (civil_in (pieces stamp) (take 19 t))

-- the second that an instant lies in: rounded down, also before 1970
abbrev pub second_of : ℤ → ℤ
second_of n = int_div_euclid n (pos 1000000000)

-- what reading an instant answers, where memory isn't wanting
abbrev pub answer : Option ℤ → Result ℤ TimeFault
answer None = Err BadText
answer (Some n) = if is_in_range (second_of n) then Ok n else Err OutOfRange

-- what showing a second answers, where memory isn't wanting
unfoldable pub format_of : ℤ → List ℕ → Result (List ℕ) TimeFault
format_of s f = if is_in_range s then Ok (shown s f) else Err OutOfRange
