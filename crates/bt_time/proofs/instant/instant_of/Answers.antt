use Rattle.std.proofs.Common.{ap, Some}
use Rattle.bt_time.proofs.InstantLemmas.{subtracted, kept_fraction, kept_offset}
use Rattle.bt_time.proofs.instant.instant_of.Goals as goal

pub returns : goal.returns
returns c =
    ap Some (subtracted c.args.civil c.in_ok-nanoseconds.nanoseconds c.args.offset _ _ c.args.fraction
    c.in_ok-nanoseconds.ensures.bound c.requires.offset
    (kept_fraction c.args.fraction _ c.requires.fraction c.signed.ensures)
    c.in_ok-nanoseconds.ensures.value
    (kept_offset c.args.offset c.requires.offset))
