use Rattle.std.proofs.Common.{◌+ℤ◌, IsTrue, FitsSigned, w32, pos, sym, subst, arith, ◌∙◌, ap}
use Rattle.std.proofs.lemmas.Int.{to_z-of_z}
use Rattle.bt_time.specs.Instants.{nanos}
use Rattle.bt_time.specs.Civil.{seconds_of}
use Rattle.jiff_core.specs.Calendar.{IsBetween}
use Rattle.bt_time.proofs.CivilLemmas.{passed_i16, passed_i8, exists_civil, civil_nanos-parts_of, IfSome-result_ok}
use Rattle.bt_time.proofs.civil.Civil.to_datetime.Goals as goal

pub returns-clause-found : goal.returns-clause-found
returns-clause-found c =
    let fits : FitsSigned w32 c.args.nanosecond = c.ranges.nanosecond in
    let e = exists_civil c.args.self _ _ _ _ _ _ _
    (passed_i16 c.args.self.year _ c.if-year-gt9999.false c.year_number.ensures)
    (passed_i8 c.args.self.month _ (omega arith) c.small_number.ensures)
    (passed_i8 c.args.self.day _ (omega arith) c.small_number-2.ensures)
    (passed_i8 c.args.self.hour _ (omega arith) c.small_number-3.ensures)
    (passed_i8 c.args.self.minute _ (omega arith) c.small_number-4.ensures)
    (passed_i8 c.args.self.second _ (omega arith) c.small_number-5.ensures)
    (subst (IsBetween (pos 0) (pos 999999999)) (sym (to_z-of_z w32 c.args.nanosecond fits)) c.requires) in
    let s = c.new.ensures.succeeds in
    (λ some. e.0 (s.0 (subst IsTrue c.ok.ensures.variant some)), λ is. subst IsTrue (sym c.ok.ensures.variant) (s.1 (e.1 is)))

pub returns-clause-value : goal.returns-clause-value
returns-clause-value c =
    let fits : FitsSigned w32 c.args.nanosecond = c.ranges.nanosecond in
    IfSome-result_ok c.new.result c.ok.result c.ok.ensures.value _ _ (λ dt parts.
    civil_nanos-parts_of c.args.self dt _ _ _ _ _ _ _
    (passed_i16 c.args.self.year _ c.if-year-gt9999.false c.year_number.ensures)
    (passed_i8 c.args.self.month _ (omega arith) c.small_number.ensures)
    (passed_i8 c.args.self.day _ (omega arith) c.small_number-2.ensures)
    (passed_i8 c.args.self.hour _ (omega arith) c.small_number-3.ensures)
    (passed_i8 c.args.self.minute _ (omega arith) c.small_number-4.ensures)
    (passed_i8 c.args.self.second _ (omega arith) c.small_number-5.ensures)
    parts.0 parts.1
    ∙ ap (λ f. nanos (seconds_of c.args.self) +ℤ f) (to_z-of_z w32 c.args.nanosecond fits))
    c.new.ensures.value
