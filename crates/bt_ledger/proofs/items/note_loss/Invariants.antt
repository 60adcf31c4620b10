use Rattle.std.proofs.Common.{◌≡◌, drop, length}
use Rattle.bt_ledger.specs.Counted.{lefts, nexts, losses, noted}
use Rattle.bt_ledger.specs.Due.{Below}
use Rattle.bt_ledger.proofs.items.note_loss.Given as goal

abbrev pub invariant-loop-item : goal.invariant-loop-item
invariant-loop-item l = record {
  left_now : lefts l.counts.items ≡ lefts l.initial.counts.items;
  next_now : nexts l.counts.items ≡ nexts l.initial.counts.items;
  lost_now : noted l.part (drop l.item-index l.from) (losses l.counts.items) ≡ noted l.part l.from (losses l.initial.counts.items);
  below : Below (length l.counts.items) (drop l.item-index l.from);
}
