-- A date with a time of day in UTC, and the second that it is. Which dates the calendar has, and how days are counted, is said
-- by crate jiff's words: the Gregorian calendar, also before it was introduced, with a year 0 before the year 1.
use Rattle.std.specs.Prelude.{ℕ, zero, suc, ◌+◌, ◌*◌, ◌/◌, ◌%◌, ℤ, pos, neg_ℤ, ◌+ℤ◌, ◌-ℤ◌, ◌*ℤ◌, Bool, ◌&&◌, nat_le, nat_lt, if◌then◌else◌, int_le, int_lt, unsigned_abs}
use Rattle.std.specs.Int.{int_div_euclid, int_rem_euclid}
use Rattle.jiff_core.specs.Calendar.{days_in_month, days_from_civil}
use Rattle.bt_time.specs.declared.civil.Civil.{Civil}

-- the calendar has this date in the years 0 to 9999, and a day this time; no minute has a second 60
abbrev pub is_civil : Civil → Bool
is_civil c =
    nat_le c.year 9999 && nat_le 1 c.month && nat_le c.month 12 && nat_le 1 c.day
    && nat_le c.day (days_in_month (pos c.year) c.month)
    && nat_lt c.hour 24 && nat_lt c.minute 60 && nat_lt c.second 60

-- the seconds since midnight
abbrev pub seconds_of_day : Civil → ℕ
seconds_of_day c = c.hour * 3600 + c.minute * 60 + c.second

-- the seconds since 1970-01-01T00:00:00, negative before it
unfoldable pub seconds_of : Civil → ℤ
seconds_of c = days_from_civil (pos c.year) c.month c.day *ℤ pos 86400 +ℤ pos (seconds_of_day c)

-- The range: the years 1 to 9998. Its first second is 0001-01-01T00:00:00, and the first one past it 9999-01-01T00:00:00.
abbrev pub first_second : ℤ
first_second = neg_ℤ (pos 62135596800)

abbrev pub end_second : ℤ
end_second = pos 253370764800

-- the second is in the range
abbrev pub is_in_range : ℤ → Bool
is_in_range s = int_le first_second s && int_lt s end_second

-- the greatest number up to n that passes the test, or 0
unfoldable pub greatest : (ℕ → Bool) → ℕ → ℕ
greatest test zero = 0
greatest test (suc n) = if test (suc n) then suc n else greatest test n

-- the last year that has begun on the day, which is a number of days since 1970
unfoldable pub year_on : ℤ → ℕ
year_on day = greatest (λ y. int_le (days_from_civil (pos y) 1 1) day) 9999

-- the last month of the year that has begun on the day
unfoldable pub month_on : ℕ → ℤ → ℕ
month_on year day = greatest (λ m. int_le (days_from_civil (pos year) m 1) day) 12

-- the date of a day and the time of a second of that day
unfoldable pub civil_on : ℤ → ℕ → Civil
civil_on day second =
    let year = year_on day in
    let month = month_on year day in
    record {
      year = year;
      month = month;
      day = unsigned_abs (day -ℤ days_from_civil (pos year) month 1) + 1;
      hour = second / 3600;
      minute = second / 60 % 60;
      second = second % 60;
    }

-- the date and the time of day of a second since 1970
unfoldable pub civil_of : ℤ → Civil
civil_of s = civil_on (int_div_euclid s (pos 86400)) (unsigned_abs (int_rem_euclid s (pos 86400)))
