use Rattle.std.proofs.Common.{◌∙◌, ap, arith, FitsSigned, w64, ◌≤ℤ◌, ◌<ℤ◌}
use Rattle.std.proofs.lemmas.Int.{ints, to_z-of_z}
use Rattle.std.proofs.lemmas.Result.{IfOk-at_ok}
use Rattle.jiff_core.proofs.SignedLemmas.{signed_arith}
use Rattle.bt_time.specs.Instants.{nanos}
use Rattle.bt_time.specs.Civil.{first_second, end_second}
use Rattle.bt_time.proofs.civil.timestamp.Goals as goal

pub unwrap-requires : goal.unwrap-requires
unwrap-requires c =
    let fits : FitsSigned w64 c.args.second = c.ranges.second in
    let low : first_second ≤ℤ c.args.second = grind (arith, ints) in
    let high : c.args.second <ℤ end_second = grind (arith, ints) in
    c.from_second.ensures.succeeds.1 (rw (to_z-of_z w64 c.args.second fits) (omega (arith, signed_arith), omega (arith, signed_arith)))

pub returns : goal.returns
returns c =
    let fits : FitsSigned w64 c.args.second = c.ranges.second in
    IfOk-at_ok _ c.unwrap.ensures c.from_second.ensures.value ∙ ap nanos (to_z-of_z w64 c.args.second fits)
