-- The date and time of a second is the one whose second it is.
use Rattle.std.proofs.Common.{◌≡◌, ℕ, zero, suc, ◌+◌, ◌-◌, ◌/◌, ◌%◌, ◌<◌, ◌≤◌, ℤ, pos, neg_ℤ, ◌+ℤ◌, ◌-ℤ◌, ◌*ℤ◌, ◌≤ℤ◌, ◌<ℤ◌, int_le, Bool, true, false, IsTrue, refl, sym, ◌∙◌, ap, subst, arith, rules, unsigned_abs, ◌⊎◌, inl, inr}
use Rattle.std.proofs.lemmas.Int.{ints}
use Rattle.std.specs.Int.{int_div_euclid, int_rem_euclid}
use Rattle.std.proofs.lemmas.Bool.{cases_order}
use Rattle.jiff_core.specs.Calendar.{IsCivilDate, day_count, days_from_civil}
use Rattle.jiff_core.specs.declared.civil.date.Date.{Date}
use Rattle.jiff_core.specs.declared.civil.datetime.DateTime.{DateTime}
use Rattle.jiff_core.specs.DateTime.{civil_nanos}
use Rattle.jiff_core.proofs.DateLemmas.{civil}
use Rattle.jiff_core.proofs.DateTimeLemmas.{civil_nanos-parts, time_nanos_bound}
use Rattle.jiff_core.specs.Date.{epoch_day}
use Rattle.bt_time.specs.Instants.{nanos}
use Rattle.jiff_core.proofs.SignedLemmas.{signed_arith}
use Rattle.jiff_core.proofs.CalendarLemmas.{days_from_civil-day_count, day_count-lt_year, day_count-lt_month, day_count-day, day_count-day_of_year}
use Rattle.jiff_core.proofs.MarchLemmas.{day_count-early}
use Rattle.bt_time.specs.declared.civil.Civil.{Civil}
use Rattle.bt_time.proofs.CivilLemmas.{exists_civil}
use Rattle.bt_time.specs.Civil.{is_in_range, first_second, is_civil, seconds_of, seconds_of_day, civil_of, civil_on, year_on, month_on, greatest}

le_cases : (k n : ℕ) → k ≤ suc n → (k ≤ n) ⊎ (k ≡ suc n)
le_cases k n le = of_order (cases_order k (suc n))
  where
    of_order : (k ≡ suc n) ⊎ ((k < suc n) ⊎ (suc n < k)) → (k ≤ n) ⊎ (k ≡ suc n)
    of_order (inl same) = inr same
    of_order (inr (inl less)) = inl (omega arith)
    of_order (inr (inr more)) = absurd (omega arith)

-- the greatest number that passes
pub greatest_is : (test : ℕ → Bool) (n k : ℕ) → k ≤ n → test k ≡ true → ((j : ℕ) → k < j → j ≤ n → test j ≡ false)
    → greatest test n ≡ k
unfolding greatest
greatest_is test zero k le is none = omega arith
greatest_is test (suc n) k le is none =
    by_order (λ less. greatest_is test n k less is (λ j more few. none j more (omega arith))) (le_cases k n le)
  where
    by_order : (k ≤ n → greatest test n ≡ k) → (k ≤ n) ⊎ (k ≡ suc n) → greatest test (suc n) ≡ k
    by_order below (inl less) = let fails : test (suc n) ≡ false = none (suc n) (omega arith) (omega arith) in rw fails (below less)
    by_order below (inr same) = let passes : test (suc n) ≡ true = subst (λ i. test i ≡ true) same is in rw passes (sym same)

-- a day lies before another as the counts do
pub day_order : (y : ℤ) (m d : ℕ) (y₂ : ℤ) (m₂ d₂ : ℕ) → day_count y m d < day_count y₂ m₂ d₂
    → days_from_civil y m d <ℤ days_from_civil y₂ m₂ d₂
day_order y m d y₂ m₂ d₂ less =
    omega (arith, signed_arith, days_from_civil-day_count y m d, days_from_civil-day_count y₂ m₂ d₂)

pub day_order_le : (y : ℤ) (m d : ℕ) (y₂ : ℤ) (m₂ d₂ : ℕ) → day_count y m d ≤ day_count y₂ m₂ d₂
    → days_from_civil y m d ≤ℤ days_from_civil y₂ m₂ d₂
day_order_le y m d y₂ m₂ d₂ less =
    omega (arith, signed_arith, days_from_civil-day_count y m d, days_from_civil-day_count y₂ m₂ d₂)

pub year_is : (y m d : ℕ) → IsCivilDate (pos y) m d → y ≤ 9999 → year_on (days_from_civil (pos y) m d) ≡ y
unfolding year_on
year_is y m d date few =
    greatest_is (λ k. int_le (days_from_civil (pos k) 1 1) (days_from_civil (pos y) m d)) 9999 y few
    (let le : days_from_civil (pos y) 1 1 ≤ℤ days_from_civil (pos y) m d = day_order_le (pos y) 1 1 (pos y) m d (omega (arith, day_count-day_of_year (pos y) m d (omega (arith, date)))) in grind (arith, ints))
    (λ j more small. let lt = day_order (pos y) m d (pos j) 1 1 (day_count-lt_year (pos y) m d (pos j) 1 1 date (omega arith) (omega (arith, signed_arith))) in grind (arith, ints))

pub month_is : (y m d : ℕ) → IsCivilDate (pos y) m d → month_on y (days_from_civil (pos y) m d) ≡ m
unfolding month_on
month_is y m d date =
    greatest_is (λ k. int_le (days_from_civil (pos y) k 1) (days_from_civil (pos y) m d)) 12 m (omega (arith, date))
    (let le : days_from_civil (pos y) m 1 ≤ℤ days_from_civil (pos y) m d = day_order_le (pos y) m 1 (pos y) m d (omega (arith, date, day_count-day (pos y) m d 1 (omega (arith, date)) (omega arith))) in grind (arith, ints))
    (λ j more small. let lt = day_order (pos y) m d (pos y) j 1 (day_count-lt_month (pos y) m d j 1 date (omega arith) more) in grind (arith, ints))

pub day_is : (y m d : ℕ) → 1 ≤ d → unsigned_abs (days_from_civil (pos y) m d -ℤ days_from_civil (pos y) m 1) + 1 ≡ d
day_is y m d some =
    let gap : days_from_civil (pos y) m d -ℤ days_from_civil (pos y) m 1 ≡ pos (d - 1)
    = omega (arith, signed_arith, days_from_civil-day_count (pos y) m d, days_from_civil-day_count (pos y) m 1, day_count-day (pos y) m d 1 some (omega arith)) in
    rw gap (omega arith)

-- the tests say that the calendar has the date
pub civil_date : (c : Civil) → is_civil c ≡ true → IsCivilDate (pos c.year) c.month c.day
civil_date c is = grind (arith, signed_arith)

pub civil_year : (c : Civil) → is_civil c ≡ true → c.year ≤ 9999
civil_year c is = grind (arith, signed_arith)

pub civil_time : (c : Civil) → is_civil c ≡ true → (c.hour < 24) × (c.minute < 60) × (c.second < 60)
civil_time c is = grind (arith, signed_arith)

pub civil_on_is : (c : Civil) → is_civil c ≡ true → civil_on (days_from_civil (pos c.year) c.month c.day) (seconds_of_day c) ≡ c
unfolding civil_on
civil_on_is c is =
    let date = civil_date c is in
    let time = civil_time c is in
    let y = year_is c.year c.month c.day date (civil_year c is) in
    let m = month_is c.year c.month c.day date in
    let d = day_is c.year c.month c.day (omega (arith, date)) in
    let hour : seconds_of_day c / 3600 ≡ c.hour = omega (arith, time) in
    let minute : seconds_of_day c / 60 % 60 ≡ c.minute = omega (arith, time) in
    let second : seconds_of_day c % 60 ≡ c.second = omega (arith, time) in
    rw (y, m, d, hour, minute, second) refl

pub civil_of_is : (c : Civil) → is_civil c ≡ true → civil_of (seconds_of c) ≡ c
unfolding civil_of seconds_of
civil_of_is c is =
    let time = civil_time c is in
    let within : seconds_of_day c < 86400 = omega (arith, time) in
    let days : int_div_euclid (days_from_civil (pos c.year) c.month c.day *ℤ pos 86400 +ℤ pos (seconds_of_day c)) (pos 86400) ≡ days_from_civil (pos c.year) c.month c.day
    = omega (arith, signed_arith) in
    let rest : int_rem_euclid (days_from_civil (pos c.year) c.month c.day *ℤ pos 86400 +ℤ pos (seconds_of_day c)) (pos 86400) ≡ pos (seconds_of_day c)
    = omega (arith, signed_arith) in
    rw (days, rest) (civil_on_is c is)

pub true_of : {b : Bool} → IsTrue b → b ≡ true
true_of is = grind rules

-- the parts of a datetime are a date and time
pub parts_exist : (c : Civil) (dt : DateTime) → pos c.year ≡ dt.date.year → pos c.month ≡ pos dt.date.month → pos c.day ≡ pos dt.date.day
    → pos c.hour ≡ pos dt.time.hour → pos c.minute ≡ pos dt.time.minute → pos c.second ≡ pos dt.time.second → is_civil c ≡ true
parts_exist c dt e0 e1 e2 e3 e4 e5 =
    let m : c.month ≡ dt.date.month = omega (arith, signed_arith) in
    let d : c.day ≡ dt.date.day = omega (arith, signed_arith) in
    let P : ℤ → Type 0 = λ y. IsCivilDate y c.month c.day in
    let date : IsCivilDate (pos c.year) c.month c.day = subst P (sym e0) (rw (m, d) (civil dt.date)) in
    let hour : c.hour < 24 = omega (arith, signed_arith, dt.time.hour_in) in
    let minute : c.minute < 60 = omega (arith, signed_arith, dt.time.minute_in) in
    let second : c.second < 60 = omega (arith, signed_arith, dt.time.second_in) in
    true_of ((exists_civil c (pos c.year) (pos c.month) (pos c.day) (pos c.hour) (pos c.minute) (pos c.second) (pos 0) refl refl refl refl refl refl
    (omega (arith, signed_arith), omega (arith, signed_arith))).0 (
      (date.0, (omega (arith, signed_arith), omega (arith, signed_arith)), (omega (arith, signed_arith), omega (arith, signed_arith))),
      (
        (omega (arith, signed_arith), omega (arith, signed_arith)),
        (omega (arith, signed_arith), omega (arith, signed_arith)),
        (omega (arith, signed_arith), omega (arith, signed_arith)),
        (omega (arith, signed_arith), omega (arith, signed_arith)),
      ),
    ))

pub parts_second : (c : Civil) (dt : DateTime) → pos c.year ≡ dt.date.year → pos c.month ≡ pos dt.date.month → pos c.day ≡ pos dt.date.day
    → pos c.hour ≡ pos dt.time.hour → pos c.minute ≡ pos dt.time.minute → pos c.second ≡ pos dt.time.second
    → nanos (seconds_of c) +ℤ pos dt.time.subsec_nanosecond ≡ civil_nanos dt
unfolding seconds_of civil_nanos
parts_second c dt e0 e1 e2 e3 e4 e5 =
    let m : c.month ≡ dt.date.month = omega (arith, signed_arith) in
    let d : c.day ≡ dt.date.day = omega (arith, signed_arith) in
    rw (e0, m, d) (omega (arith, signed_arith))

-- a year of the range is not before the year 1
pub first_count : day_count (pos 1) 1 1 ≡ 3652791
first_count = day_count-early (pos 1) 10000 1 1 refl (omega arith) (omega arith) (omega arith)

pub year_begun : (d : Date) → neg_ℤ (pos 719162) ≤ℤ epoch_day d → pos 1 ≤ℤ d.year
year_begun d late =
    let early : d.year <ℤ pos 1 → day_count d.year d.month d.day < day_count (pos 1) 1 1
    = λ before. day_count-lt_year d.year d.month d.day (pos 1) 1 1 (civil d) (omega arith) before in
    let counted = days_from_civil-day_count d.year d.month d.day in
    grind (arith, signed_arith, first_count)

-- the date of a second in the range
pub in_range_year : (s : ℤ) (dt : DateTime) → is_in_range s ≡ true → civil_nanos dt ≡ nanos s → pos 1 ≤ℤ dt.date.year
in_range_year s dt within e =
    let low : first_second ≤ℤ s = grind (arith, ints) in
    year_begun dt.date (omega (arith, signed_arith, civil_nanos-parts dt, time_nanos_bound dt.time))

-- the date and time of a second is that of its datetime
pub civil_at : (s : ℤ) (c : Civil) (dt : DateTime) → is_civil c ≡ true → civil_nanos dt ≡ nanos s
    → nanos (seconds_of c) +ℤ pos dt.time.subsec_nanosecond ≡ civil_nanos dt → c ≡ civil_of s
civil_at s c dt is e second =
    let sub = dt.time.subsec_in in
    let same : seconds_of c ≡ s = omega (arith, signed_arith) in
    sym (ap civil_of (sym same) ∙ civil_of_is c is)
