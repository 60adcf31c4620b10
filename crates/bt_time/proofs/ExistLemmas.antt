-- Each second of the range has a date and a time of day.
use Rattle.std.proofs.Common.{◌≡◌, ◌≢◌, ℕ, zero, suc, ◌+◌, ◌/◌, ◌%◌, ◌<◌, ◌≤◌, ℤ, pos, neg_ℤ, ◌+ℤ◌, ◌-ℤ◌, ◌*ℤ◌, ◌≤ℤ◌, ◌<ℤ◌, int_le, Bool, true, false, refl, sym, ◌∙◌, ap, subst, arith, unsigned_abs, ◌⊎◌, inl, inr}
use Rattle.std.proofs.lemmas.Int.{ints}
use Rattle.std.proofs.lemmas.Bool.{cases_lt}
use Rattle.std.specs.Int.{int_div_euclid, int_rem_euclid}
use Rattle.jiff_core.specs.Calendar.{day_count, days_from_civil, days_in_month, days_in_year}
use Rattle.jiff_core.proofs.SignedLemmas.{signed_arith}
use Rattle.jiff_core.proofs.CalendarLemmas.{days_from_civil-day_count, day_count-day, day_count-next_year, day_count-next_month, day_count-last_of_year}
use Rattle.jiff_core.proofs.MarchLemmas.{day_count-early}
use Rattle.bt_time.specs.Civil.{is_civil, seconds_of, civil_of, civil_on, year_on, month_on, greatest, is_in_range, first_second, end_second}
use Rattle.bt_time.proofs.CivilLemmas.{exists_civil}
use Rattle.bt_time.proofs.DayLemmas.{first_count, true_of}

-- g is the greatest number up to n that passes, and is no less than k
pub record IsGreatest (test : ℕ → Bool) (n k g : ℕ) : Type 0 where
  pub passes : test g ≡ true
  pub least : k ≤ g
  pub most : g ≤ n
  pub above : (j : ℕ) → g < j → j ≤ n → test j ≡ false

false_true : false ≡ true → ⊥
false_true e = cc

fewer : (k n : ℕ) → k ≤ suc n → k ≢ suc n → k ≤ n
fewer k n le other = omega (arith, other)

pub greatest_passes : (test : ℕ → Bool) (n k : ℕ) → k ≤ n → test k ≡ true → IsGreatest test n k (greatest test n)
unfolding greatest
greatest_passes test zero k le is =
    let none : k ≡ 0 = omega arith in
    record { passes = subst (λ i. test i ≡ true) none is; least = le; most = omega arith; above = λ j more few. absurd (omega arith) }
greatest_passes test (suc n) k le is = by_test (λ less. greatest_passes test n k less is) (test (suc n)) refl
  where
    by_test : (k ≤ n → IsGreatest test n k (greatest test n)) → (b : Bool) → test (suc n) ≡ b → IsGreatest test (suc n) k (greatest test (suc n))
    by_test below true e =
        let here : greatest test (suc n) ≡ suc n = rw e refl in
        subst (IsGreatest test (suc n) k) (sym here) (record { passes = e; least = le; most = omega arith; above = λ j more few. absurd (omega arith) })
    by_test below false e =
        let here : greatest test (suc n) ≡ greatest test n = rw e refl in
        let other : k ≢ suc n = λ same. false_true (sym e ∙ ap test (sym same) ∙ is) in
        let rest = below (fewer k n le other) in
        subst (IsGreatest test (suc n) k) (sym here) (record {
          passes = rest.passes;
          least = rest.least;
          most = omega (arith, rest.most);
          above = λ j more few. last j more (rest.above j more) (cases_lt n j) few;
        })
      where
        last : (j : ℕ) → greatest test n < j → (j ≤ n → test j ≡ false) → (n < j) ⊎ (j ≤ n) → j ≤ suc n → test j ≡ false
        last j more below (inl late) few = let same : j ≡ suc n = omega arith in ap test same ∙ e
        last j more below (inr early) few = below early

-- the first day past the range
end_count : day_count (pos 9999) 1 1 ≡ 7304485
end_count = day_count-early (pos 9999) 19998 1 1 refl (omega arith) (omega arith) (omega arith)

-- a day of the range
pub record IsDayIn (day : ℤ) (y m d : ℕ) : Type 0 where
  pub year : (1 ≤ y) × (y ≤ 9998)
  pub month : (1 ≤ m) × (m ≤ 12)
  pub date : (1 ≤ d) × (d ≤ days_in_month (pos y) m)
  pub is : days_from_civil (pos y) m d ≡ day

pub year_found : (day : ℤ) → neg_ℤ (pos 719162) ≤ℤ day → IsGreatest (λ y. int_le (days_from_civil (pos y) 1 1) day) 9999 1 (year_on day)
unfolding year_on
year_found day late =
    let first : days_from_civil (pos 1) 1 1 ≤ℤ day = omega (arith, signed_arith, days_from_civil-day_count (pos 1) 1 1, first_count) in
    greatest_passes (λ y. int_le (days_from_civil (pos y) 1 1) day) 9999 1 (omega arith) (grind (arith, ints))

pub month_found : (y : ℕ) (day : ℤ) → days_from_civil (pos y) 1 1 ≤ℤ day → IsGreatest (λ m. int_le (days_from_civil (pos y) m 1) day) 12 1 (month_on y day)
unfolding month_on
month_found y day late = greatest_passes (λ m. int_le (days_from_civil (pos y) m 1) day) 12 1 (omega arith) (grind (arith, ints))

passed : (a b : ℤ) → int_le a b ≡ true → a ≤ℤ b
passed a b is = grind (arith, ints)

failed : (a b : ℤ) → int_le a b ≡ false → b <ℤ a
failed a b is = grind (arith, ints)

-- the year that has begun last hasn't ended
pub year_lasts : (day : ℤ) (y : ℕ) → IsGreatest (λ y. int_le (days_from_civil (pos y) 1 1) day) 9999 1 y → day <ℤ pos 2932532
    → (y ≤ 9998) × (day <ℤ days_from_civil (pos (y + 1)) 1 1)
year_lasts day y found early =
    let few : y ≤ 9998 = of_cases (cases_lt 9998 y) in
    (few, failed (days_from_civil (pos (y + 1)) 1 1) day (found.above (y + 1) (omega arith) (omega (arith, few))))
  where
    of_cases : (9998 < y) ⊎ (y ≤ 9998) → y ≤ 9998
    of_cases (inr few) = few
    of_cases (inl many) =
        let same : y ≡ 9999 = omega (arith, found.most) in
        let begun : days_from_civil (pos 9999) 1 1 ≤ℤ day = subst (λ i. days_from_civil (pos i) 1 1 ≤ℤ day) same (passed (days_from_civil (pos y) 1 1) day found.passes) in
        absurd (omega (arith, signed_arith, days_from_civil-day_count (pos 9999) 1 1, end_count))

-- and neither has the month
pub month_lasts : (day : ℤ) (y m : ℕ) → day <ℤ days_from_civil (pos (y + 1)) 1 1
    → IsGreatest (λ m. int_le (days_from_civil (pos y) m 1) day) 12 1 m
    → day <ℤ (days_from_civil (pos y) m 1 +ℤ pos (days_in_month (pos y) m))
month_lasts day y m early found = of_cases (cases_lt m 12)
  where
    of_cases : (m < 12) ⊎ (12 ≤ m) → day <ℤ (days_from_civil (pos y) m 1 +ℤ pos (days_in_month (pos y) m))
    of_cases (inl less) =
        let next = failed (days_from_civil (pos y) (m + 1) 1) day (found.above (m + 1) (omega arith) (omega arith)) in
        omega (arith, signed_arith, next, days_from_civil-day_count (pos y) (m + 1) 1, days_from_civil-day_count (pos y) m 1, day_count-next_month (pos y) m found.least)
    of_cases (inr last) =
        let same : m ≡ 12 = omega (arith, found.most) in
        let next : day_count (pos (y + 1)) 1 1 ≡ day_count (pos y) 1 1 + days_in_year (pos y)
        = day_count-next_year (pos y) (pos (y + 1)) (omega (arith, signed_arith)) (omega (arith, signed_arith)) in
        subst (λ i. day <ℤ (days_from_civil (pos y) i 1 +ℤ pos (days_in_month (pos y) i))) (sym same)
        (omega (
          arith,
          signed_arith,
          early,
          next,
          days_from_civil-day_count (pos (y + 1)) 1 1,
          days_from_civil-day_count (pos y) 12 1,
          day_count-last_of_year (pos y),
          day_count-day (pos y) 12 31 1 (omega arith) (omega arith),
        ))

pub day_found : (day : ℤ) → neg_ℤ (pos 719162) ≤ℤ day → day <ℤ pos 2932532
    → IsDayIn day (year_on day) (month_on (year_on day) day) (unsigned_abs (day -ℤ days_from_civil (pos (year_on day)) (month_on (year_on day) day) 1) + 1)
day_found day late early =
    let y = year_on day in
    let m = month_on y day in
    let of_year = year_found day late in
    let lasts = year_lasts day y of_year early in
    let of_month = month_found y day (passed (days_from_civil (pos y) 1 1) day of_year.passes) in
    let begun : days_from_civil (pos y) m 1 ≤ℤ day = passed (days_from_civil (pos y) m 1) day of_month.passes in
    let ends = month_lasts day y m lasts.1 of_month in
    let gap = unsigned_abs (day -ℤ days_from_civil (pos y) m 1) in
    let counted : pos gap ≡ day -ℤ days_from_civil (pos y) m 1 = abs_of (day -ℤ days_from_civil (pos y) m 1) (omega (arith, signed_arith, begun)) in
    record {
      year = (of_year.least, lasts.0);
      month = (of_month.least, of_month.most);
      date = (omega arith, omega (arith, signed_arith, counted, ends));
      is = omega (
        arith,
        signed_arith,
        counted,
        days_from_civil-day_count (pos y) m (gap + 1),
        days_from_civil-day_count (pos y) m 1,
        day_count-day (pos y) m (gap + 1) 1 (omega arith) (omega arith),
      );
    }
  where
    abs_of : (z : ℤ) → pos 0 ≤ℤ z → pos (unsigned_abs z) ≡ z
    abs_of z some = grind (arith, signed_arith, ints)

-- the date and time of a second of the range exists, and is that second's
pub civil_on_exists : (day : ℤ) (sec : ℕ) → neg_ℤ (pos 719162) ≤ℤ day → day <ℤ pos 2932532 → sec < 86400
    → (is_civil (civil_on day sec) ≡ true) × (seconds_of (civil_on day sec) ≡ day *ℤ pos 86400 +ℤ pos sec)
unfolding civil_on seconds_of
civil_on_exists day sec late early small =
    let found = day_found day late early in
    let y = year_on day in
    let m = month_on y day in
    let d = unsigned_abs (day -ℤ days_from_civil (pos y) m 1) + 1 in
    let hour : sec / 3600 < 24 = omega arith in
    let minute : sec / 60 % 60 < 60 = omega arith in
    let second : sec % 60 < 60 = omega arith in
    let exists = exists_civil (civil_on day sec) (pos y) (pos m) (pos d) (pos (sec / 3600)) (pos (sec / 60 % 60)) (pos (sec % 60)) (pos 0)
    refl refl refl refl refl refl (omega (arith, signed_arith), omega (arith, signed_arith)) in
    let year = found.year in
    let month = found.month in
    let date = found.date in (
      true_of (exists.0 (
        ((omega (arith, signed_arith, year), omega (arith, signed_arith, year)), (omega (arith, signed_arith, month), omega (arith, signed_arith, month)), (omega (arith, signed_arith, date), omega (arith, signed_arith, date))),
        (
          (omega (arith, signed_arith), omega (arith, signed_arith, hour)),
          (omega (arith, signed_arith), omega (arith, signed_arith, minute)),
          (omega (arith, signed_arith), omega (arith, signed_arith, second)),
          (omega (arith, signed_arith), omega (arith, signed_arith)),
        ),
      )),
      rw found.is (ap (λ k. day *ℤ pos 86400 +ℤ pos k) (omega arith)),
    )

pub civil_of_exists : (s : ℤ) → is_in_range s ≡ true → (is_civil (civil_of s) ≡ true) × (seconds_of (civil_of s) ≡ s)
unfolding civil_of
civil_of_exists s within =
    let low : first_second ≤ℤ s = grind (arith, ints) in
    let high : s <ℤ end_second = grind (arith, ints) in
    let sec = unsigned_abs (int_rem_euclid s (pos 86400)) in
    let small : sec < 86400 = omega (arith, signed_arith) in
    let both = civil_on_exists (int_div_euclid s (pos 86400)) sec (omega (arith, signed_arith)) (omega (arith, signed_arith)) small in
    (both.0, both.1 ∙ omega (arith, signed_arith))
