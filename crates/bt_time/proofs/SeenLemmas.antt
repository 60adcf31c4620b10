-- What is shown of a second is seen as that second, and of no other.
use Rattle.std.proofs.Common.{◌≡◌, ◌≢◌, ℕ, ◌<◌, ◌==◌, ◌&&◌, ℤ, pos, Bool, true, false, if◌then◌else◌, List, [], ◌∷◌, ◌++◌, take, drop, Option, Some, None, refl, sym, ◌∙◌, ap, subst, arith, rules, unwrap_or}
use Rattle.std.specs.Prelude.{option_and_then, ok_or, Result, Ok, Err, IfOk}
use Rattle.std.specs.Result.{result_unwrap_or}
use Rattle.bt_time.specs.declared.fault.TimeFault.{TimeFault}
use Rattle.bt_time.specs.declared.fault.TimeFault.TheVariants.{BadText}
use Rattle.bt_time.proofs.ExistLemmas.{civil_of_exists}
use Rattle.jiff_core.proofs.CalendarLemmas.{days_in_month_bounds}
use Rattle.bt_time.specs.declared.civil.Civil.{Civil}
use Rattle.bt_time.specs.declared.format.Piece.{Piece}
use Rattle.bt_time.specs.declared.format.Piece.TheVariants.{Part, Byte}
use Rattle.bt_time.specs.declared.format.Directive.{Directive}
use Rattle.bt_time.specs.declared.format.Directive.TheVariants.{Year, Month, Day, Hour, Minute, Second}
use Rattle.bt_time.specs.Civil.{is_civil, seconds_of, civil_of, is_in_range}
use Rattle.bt_time.specs.Format.{pieces, part, width, digits, number, is_directive, piece_width, place, written, civil_in, seen, shown, shown_by, shown_piece, count_of, is_whole}
use Rattle.bt_time.proofs.DayLemmas.{civil_of_is, civil_date, civil_year, civil_time}
use Rattle.bt_time.proofs.FormatLemmas.{civil_in_exists, civil_found}

no_answer : {n : ℤ} → ◌≡◌ {A = Result ℤ TimeFault} (Err BadText) (Ok n) → ⊥
no_answer e = cc

no_second : {s : ℤ} → None ≡ Some s → ⊥
no_second e = cc

-- digits are the number's again
pub number-two : (n : ℕ) → n < 100 → number (digits Month n) ≡ n
number-two n small = omega arith

pub number-four : (n : ℕ) → n < 10000 → number (digits Year n) ≡ n
number-four n small = omega arith

-- and stand in front
pub take-digits : (d : Directive) (n : ℕ) (u : List ℕ) → take (width d) (digits d n ++ u) ≡ digits d n
take-digits Year n u = refl
take-digits Month n u = refl
take-digits Day n u = refl
take-digits Hour n u = refl
take-digits Minute n u = refl
take-digits Second n u = refl

pub drop-piece : (c : Civil) (p : Piece) (u : List ℕ) → drop (piece_width p) (shown_piece c p ++ u) ≡ u
drop-piece c (Part Year) u = refl
drop-piece c (Part Month) u = refl
drop-piece c (Part Day) u = refl
drop-piece c (Part Hour) u = refl
drop-piece c (Part Minute) u = refl
drop-piece c (Part Second) u = refl
drop-piece c (Byte b) u = refl

pub same_directive : (d e : Directive) → is_directive d e ≡ true → d ≡ e
same_directive Year Year is = refl
same_directive Month Month is = refl
same_directive Day Day is = refl
same_directive Hour Hour is = refl
same_directive Minute Minute is = refl
same_directive Second Second is = refl
same_directive d e is = cc

-- where a format has a directive, its digits stand
pub place-shown : (d : Directive) (c : Civil) (ps : List Piece) → 0 < count_of d ps
    → place d ps (shown_by c ps) ≡ digits d (part c d)
place-shown d c [] some = absurd (omega arith)
place-shown d c (Byte b ∷ ps) some = place-shown d c ps some
place-shown d c (Part e ∷ ps) some = by_test (λ more. place-shown d c ps more) (is_directive d e) refl
  where
    by_test : (0 < count_of d ps → place d ps (shown_by c ps) ≡ digits d (part c d)) → (t : Bool) → is_directive d e ≡ t
        → place d (Part e ∷ ps) (shown_by c (Part e ∷ ps)) ≡ digits d (part c d)
    by_test more true is =
        let same : d ≡ e = same_directive d e is in
        rw is (subst (λ x. take (width d) (digits x (part c x) ++ shown_by c ps) ≡ digits d (part c d)) same (take-digits d (part c d) (shown_by c ps)))
    by_test more false is =
        let fewer : count_of d (Part e ∷ ps) ≡ count_of d ps = rw is refl in
        rw (is, drop-piece c (Part e) (shown_by c ps)) (more (omega (arith, fewer, some)))

-- the parts of a date and time that exists have as many digits as are shown
pub written-shown : (c : Civil) (ps : List Piece) → is_civil c ≡ true
    → 0 < count_of Year ps → 0 < count_of Month ps → 0 < count_of Day ps
    → 0 < count_of Hour ps → 0 < count_of Minute ps → 0 < count_of Second ps
    → written ps (shown_by c ps) ≡ c
unfolding written
written-shown c ps is y m d h i s =
    let date = civil_date c is in
    let time = civil_time c is in
    let most = days_in_month_bounds (pos c.year) c.month in
    rw (
      place-shown Year c ps y,
      place-shown Month c ps m,
      place-shown Day c ps d,
      place-shown Hour c ps h,
      place-shown Minute c ps i,
      place-shown Second c ps s,
      number-four c.year (omega (arith, civil_year c is)),
      number-two c.month (omega (arith, date)),
      number-two c.day (omega (arith, date, most)),
      number-two c.hour (omega (arith, time)),
      number-two c.minute (omega (arith, time)),
      number-two c.second (omega (arith, time)),
    )
    refl

pub civil-shown : (c : Civil) (ps : List Piece) → is_civil c ≡ true
    → 0 < count_of Year ps → 0 < count_of Month ps → 0 < count_of Day ps
    → 0 < count_of Hour ps → 0 < count_of Minute ps → 0 < count_of Second ps
    → civil_in ps (shown_by c ps) ≡ Some c
civil-shown c ps is y m d h i s =
    let back = written-shown c ps is y m d h i s in
    civil_found ps (shown_by c ps) (subst (λ x. is_civil x ≡ true) (sym back) is) (ap (λ x. shown_by x ps) back) ∙ ap Some back

-- what is seen is shown again
pub seen_shows : (t f : List ℕ) (s : ℤ) → seen t f ≡ Some s → (is_in_range s ≡ true) × (shown s f ≡ t)
unfolding seen shown
seen_shows t f s e = of_civil (civil_in (pieces f) t) refl e
  where
    of_range : (c : Civil) → civil_in (pieces f) t ≡ Some c → (b : Bool) → is_in_range (seconds_of c) ≡ b
        → (if b then Some (seconds_of c) else None) ≡ Some s → (is_in_range s ≡ true) × (shown_by (civil_of s) (pieces f) ≡ t)
    of_range c is true within e =
        let both = civil_in_exists (pieces f) t c is in
        let same : seconds_of c ≡ s = ap (λ o. unwrap_or o s) e in (
          subst (λ x. is_in_range x ≡ true) same within,
          ap (λ x. shown_by (civil_of x) (pieces f)) (sym same) ∙ ap (λ x. shown_by x (pieces f)) (civil_of_is c both.0) ∙ both.1,
        )
    of_range c is false within e = absurd (no_second e)

    of_civil : (o : Option Civil) → civil_in (pieces f) t ≡ o
        → option_and_then (λ c. if is_in_range (seconds_of c) then Some (seconds_of c) else None) o ≡ Some s
        → (is_in_range s ≡ true) × (shown_by (civil_of s) (pieces f) ≡ t)
    of_civil (Some c) is e = of_range c is (is_in_range (seconds_of c)) refl e
    of_civil None is e = absurd (no_second e)

and_both : {a b : Bool} → (a && b) ≡ true → (a ≡ true) × (b ≡ true)
and_both is = (grind rules, grind rules)

once : {n : ℕ} → (n == 1) ≡ true → 0 < n
once is = grind arith

-- a format that has each directive once
pub whole_counts : (f : List ℕ) → is_whole f ≡ true
    → (0 < count_of Year (pieces f)) × (0 < count_of Month (pieces f)) × (0 < count_of Day (pieces f))
    × (0 < count_of Hour (pieces f)) × (0 < count_of Minute (pieces f)) × (0 < count_of Second (pieces f))
unfolding is_whole
whole_counts f is =
    let s = and_both is in
    let i = and_both s.0 in
    let h = and_both i.0 in
    let d = and_both h.0 in
    let m = and_both d.0 in
    let y = and_both m.0 in
    (once y.1, once m.1, once d.1, once h.1, once i.1, once s.1)

-- what is shown of a second is seen as it
pub shown_seen : (s : ℤ) (f : List ℕ) → is_whole f ≡ true → is_in_range s ≡ true → seen (shown s f) f ≡ Some s
unfolding seen shown
shown_seen s f whole within =
    let exists = civil_of_exists s within in
    let counts = whole_counts f whole in
    let back = civil-shown (civil_of s) (pieces f) exists.0 counts.0 counts.1 counts.2 counts.3 counts.4 counts.5 in
    rw (back, exists.1, within) refl

pub shown_back : (s : ℤ) (f t : List ℕ) → is_in_range s ≡ true → t ≡ shown_by (civil_of s) (pieces f) → is_whole f ≡ true → seen t f ≡ Some s
unfolding shown
shown_back s f t within is whole = ap (λ u. seen u f) is ∙ shown_seen s f whole within

-- so a text that no second is seen in is shown of none
pub unseen_shown : (t f : List ℕ) → seen t f ≡ None → is_whole f ≡ true → (s : ℤ) → is_in_range s ≡ true → shown s f ≢ t
unseen_shown t f unseen whole s within same =
    no_second (sym unseen ∙ ap (λ u. seen u f) (sym same) ∙ shown_seen s f whole within)

-- the answers of `parse_at`
pub parsed : (t f : List ℕ) (s : ℤ) → Ok s ≡ ok_or (seen t f) BadText → (is_in_range s ≡ true) × (shown s f ≡ t)
parsed t f s e = of_option (seen t f) refl e
  where
    of_option : (o : Option ℤ) → seen t f ≡ o → Ok s ≡ ok_or o BadText → (is_in_range s ≡ true) × (shown s f ≡ t)
    of_option (Some n) is e = seen_shows t f s (is ∙ ap Some (sym (ap (λ r. result_unwrap_or r n) e)))
    of_option None is e = cc

pub all_parsed : (t f : List ℕ) (r : Result ℤ TimeFault) → r ≡ ok_or (seen t f) BadText → IfOk r (λ s. (is_in_range s ≡ true) × (shown s f ≡ t))
all_parsed t f (Ok s) e = parsed t f s e
all_parsed t f (Err fault) e = tt

pub unparsed : (t f : List ℕ) → Err BadText ≡ ok_or (seen t f) BadText → is_whole f ≡ true → (s : ℤ) → is_in_range s ≡ true → shown s f ≢ t
unparsed t f e = of_option (seen t f) refl e
  where
    of_option : (o : Option ℤ) → seen t f ≡ o → Err BadText ≡ ok_or o BadText → is_whole f ≡ true → (s : ℤ) → is_in_range s ≡ true → shown s f ≢ t
    of_option (Some n) is e = absurd (no_answer e)
    of_option None is e = unseen_shown t f is
