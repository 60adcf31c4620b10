-- The date and time of a second, and the second of a date and time.
use Rattle.std.proofs.Common.{◌≡◌, ◌↔◌, ℕ, ◌≤◌, ℤ, pos, ◌+ℤ◌, IsTrue, sym, ◌∙◌, subst, arith, Result, Option}
use Rattle.std.specs.Result.{result_ok}
use Rattle.std.proofs.Common.{Ok, Err, IfOk, IfSome, FitsSigned, to_z, of_z, w8, w16, w64}
use Rattle.std.specs.Int.{w128}
use Rattle.std.proofs.lemmas.Int.{to_z-of_z}
use Rattle.jiff_core.specs.Calendar.{IsBetween, IsDate, IsYear}
use Rattle.jiff_core.specs.Time.{IsTime}
use Rattle.jiff.proofs.SpanFacts.{signed_arith}
use Rattle.bt_time.specs.declared.civil.Civil.{Civil}
use Rattle.jiff_core.specs.declared.civil.datetime.DateTime.{DateTime}
use Rattle.jiff_core.specs.Date.{IsYmd}
use Rattle.jiff_core.specs.Time.{IsHms}
use Rattle.jiff_core.specs.DateTime.{civil_nanos, IsCivilNanos}
use Rattle.bt_time.specs.Instants.{nanos}
use Rattle.bt_time.specs.Civil.{is_civil, seconds_of}

-- a small number stays as it is where it is passed on
pub passed_i16 : (n : ℕ) (z : ℤ) → n ≤ 9999 → z ≡ pos n → to_z w16 (of_z w16 z) ≡ pos n
passed_i16 n z few e =
    let fits : FitsSigned w16 z = omega (arith, signed_arith) in
    to_z-of_z _ _ fits ∙ e

pub passed_year : (year z : ℤ) → IsYear year → z ≡ year → to_z w16 (of_z w16 z) ≡ year
passed_year year z within e =
    let fits : FitsSigned w16 z = omega (arith, signed_arith) in
    to_z-of_z _ _ fits ∙ e

pub passed_second : (z : ℤ) → FitsSigned w64 z → to_z w64 (of_z w64 z) ≡ z
passed_second z fits = to_z-of_z _ _ fits

pub passed_wide : (z : ℤ) → FitsSigned w64 z → to_z w128 (of_z w128 (to_z w64 (of_z w64 z))) ≡ z
passed_wide z fits =
    let wide : FitsSigned w128 z = omega (arith, signed_arith) in
    rw (to_z-of_z w64 z fits) (to_z-of_z w128 z wide)

pub passed_nanos : (n z : ℤ) → IsCivilNanos n → z ≡ n → to_z w128 (of_z w128 z) ≡ n
passed_nanos n z within e =
    let fits : FitsSigned w128 z = omega (arith, signed_arith) in
    to_z-of_z _ _ fits ∙ e

pub passed_i8 : (n : ℕ) (z : ℤ) → n ≤ 99 → z ≡ pos n → to_z w8 (of_z w8 z) ≡ pos n
passed_i8 n z few e =
    let fits : FitsSigned w8 z = omega (arith, signed_arith) in
    to_z-of_z _ _ fits ∙ e

-- the tests are jiff's conditions
pub exists_civil : (c : Civil) (year month day hour minute second fraction : ℤ)
    → year ≡ pos c.year → month ≡ pos c.month → day ≡ pos c.day
    → hour ≡ pos c.hour → minute ≡ pos c.minute → second ≡ pos c.second
    → IsBetween (pos 0) (pos 999999999) fraction
    → (IsDate year month day × IsTime hour minute second fraction) ↔ IsTrue (is_civil c)
exists_civil c year month day hour minute second fraction e0 e1 e2 e3 e4 e5 within =
    rw (e0, e1, e2, e3, e4, e5) (λ both. grind (arith, signed_arith), λ is. grind (arith, signed_arith))

-- a day and a time of day in nanoseconds
pub civil_nanos-parts_of : (c : Civil) (dt : DateTime) (year month day hour minute second fraction : ℤ)
    → year ≡ pos c.year → month ≡ pos c.month → day ≡ pos c.day
    → hour ≡ pos c.hour → minute ≡ pos c.minute → second ≡ pos c.second
    → IsYmd year month day dt.date → IsHms hour minute second fraction dt.time
    → civil_nanos dt ≡ nanos (seconds_of c) +ℤ fraction
unfolding seconds_of civil_nanos
civil_nanos-parts_of c dt year month day hour minute second fraction e0 e1 e2 e3 e4 e5 date time =
    let y : dt.date.year ≡ pos c.year = date.0 ∙ e0 in
    let m : dt.date.month ≡ c.month = omega (arith, signed_arith, e1, date.1) in
    let d : dt.date.day ≡ c.day = omega (arith, signed_arith, e2, date.2) in
    rw (y, m, d) (omega (arith, signed_arith, e3, e4, e5, time.0, time.1, time.2, time.3))

-- what holds of a value where there is one
pub IfSome-result_ok : {T E : Type 0} → (r : Result T E) (o : Option T) → o ≡ result_ok r → (P Q : T → Type 0)
    → ((x : T) → P x → Q x) → IfOk r P → IfSome o Q
IfSome-result_ok (Ok x) o e P Q more holds = subst (λ o. IfSome o Q) (sym e) (more x holds)
IfSome-result_ok (Err x) o e P Q more holds = subst (λ o. IfSome o Q) (sym e) tt
