use Rattle.std.proofs.Common.{◌≡◌, sym, subst, arith}
use Rattle.jiff_core.specs.DateTime.{IsCivilNanos, civil_nanos}
use Rattle.jiff_core.proofs.DateTimeLemmas.{civil_nanos_range}
use Rattle.jiff_core.proofs.SignedLemmas.{signed_arith}
use Rattle.bt_time.proofs.CivilLemmas.{passed_nanos}
use Rattle.bt_time.proofs.civil.nanoseconds.Goals as goal

pub returns-clause-bound : goal.returns-clause-bound
returns-clause-bound c =
    let within = civil_nanos_range c.args.datetime in
    let same : c.as_nanos.result ≡ civil_nanos c.args.datetime
    = omega (arith, signed_arith, c.as_nanos.ensures.value, c.duration_since.ensures, c.epoch.ensures) in
    subst IsCivilNanos (sym (passed_nanos (civil_nanos c.args.datetime) _ within same)) within
