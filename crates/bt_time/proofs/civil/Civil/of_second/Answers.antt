use Rattle.std.proofs.Common.{◌≡◌, arith, FitsSigned, w64, ap}
use Rattle.jiff_core.proofs.SignedLemmas.{signed_arith}
use Rattle.jiff_core.specs.DateTime.{civil_nanos}
use Rattle.bt_time.specs.Instants.{nanos}
use Rattle.bt_time.proofs.CivilLemmas.{passed_second}
use Rattle.bt_time.proofs.DayLemmas.{in_range_year, civil_at}
use Rattle.bt_time.proofs.civil.Civil.of_second.Goals as goal

pub of_datetime-requires : goal.of_datetime-requires
of_datetime-requires c =
    let fits : FitsSigned w64 c.args.second = c.ranges.second in
    let kept = ap nanos (passed_second c.args.second fits) in
    let same : civil_nanos c.to_datetime.result ≡ nanos c.args.second = omega (arith, signed_arith, c.to_datetime.ensures, c.timestamp.ensures, kept) in
    let late = in_range_year c.args.second c.to_datetime.result c.requires same in omega (arith, signed_arith)

pub returns : goal.returns
returns c =
    let fits : FitsSigned w64 c.args.second = c.ranges.second in
    let kept = ap nanos (passed_second c.args.second fits) in
    let same : civil_nanos c.to_datetime.result ≡ nanos c.args.second = omega (arith, signed_arith, c.to_datetime.ensures, c.timestamp.ensures, kept) in
    civil_at c.args.second c.of_datetime.result c.to_datetime.result c.of_datetime.ensures.exists same c.of_datetime.ensures.second
