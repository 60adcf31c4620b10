use Rattle.std.proofs.Common.{◌≡◌, drop}
use Rattle.bt_ledger.specs.Counted.{lefts, nexts, losses, lowered, Ready, Waits, Lined}
use Rattle.bt_ledger.proofs.items.count_down.Given as goal

abbrev pub invariant-loop-item : goal.invariant-loop-item
invariant-loop-item l = record {
  ready : Ready (drop l.item-index l.from) (lefts l.counts.items);
  left_now : lowered (drop l.item-index l.from) (lefts l.counts.items) ≡ lowered l.from (lefts l.initial.counts.items);
  lost_now : losses l.counts.items ≡ losses l.initial.counts.items;
  line : Lined (Waits (lefts l.counts.items)) (nexts l.counts.items) l.line.first l.line.last;
}
