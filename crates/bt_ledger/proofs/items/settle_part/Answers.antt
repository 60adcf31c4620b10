use Rattle.std.proofs.Common.{◌≡◌, arith, length, ap}
use Rattle.bt_ledger.specs.Counted.{lefts}
use Rattle.bt_ledger.proofs.Counts.{ready_below, lowered-length}
use Rattle.bt_ledger.proofs.CountSeen.{lefts_length}
use Rattle.bt_ledger.proofs.items.settle_part.Goals as goal

pub note_loss-requires : goal.note_loss-requires
note_loss-requires c =
    let a = lefts_length c.count_down.new.counts.items in
    let b = ap length c.count_down.ensures.lefts in
    let d = lowered-length c.as_slice.result.now (lefts c.args.counts.now.items) in
    let e : length c.count_down.new.counts.items ≡ length (lefts c.args.counts.now.items) = omega arith in
    rw (e, c.as_slice-then-is_lost.ensures.numbers) (ready_below _ (lefts c.args.counts.now.items) c.requires.ready)
