use Rattle.std.proofs.Common.{◌≡◌, ◌∙◌, sym, ap, FitsSigned, w64, true}
use Rattle.bt_time.specs.Format.{shown_by, pieces}
use Rattle.bt_time.specs.Civil.{civil_of, is_in_range}
use Rattle.bt_time.proofs.CivilLemmas.{passed_second, passed_wide}
use Rattle.bt_time.proofs.SeenLemmas.{shown_back}
use Rattle.bt_time.proofs.format.format_at.Goals as goal

pub returns-in-Ok-clause-back : goal.returns-in-Ok-clause-back
returns-in-Ok-clause-back c =
    let fits : FitsSigned w64 c.args.seconds = c.ranges.seconds in
    let within : is_in_range c.args.seconds ≡ true
    = ap is_in_range (sym (passed_wide c.args.seconds fits)) ∙ sym c.is_in_range.ensures ∙ c.if-not-is_in_range.false in
    let civil = c.of_second-civil.ensures ∙ ap civil_of (passed_second c.args.seconds fits) in
    shown_back c.args.seconds c.args.format.now c.from_string.result within
    (c.from_string.ensures ∙ c.in-Ok.ensures ∙ ap (λ x. shown_by x (pieces c.args.format.now)) civil)
