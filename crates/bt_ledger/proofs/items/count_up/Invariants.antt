use Rattle.std.proofs.Common.{◌≡◌, ℕ, ◌+◌, ◌<◌, ◌^◌, drop, length, get_or}
use Rattle.bt_ledger.specs.Counted.{lefts, losses, raised}
use Rattle.bt_ledger.specs.Due.{Below, times}
use Rattle.bt_ledger.proofs.items.count_up.Given as goal

abbrev pub invariant-loop-item : goal.invariant-loop-item
invariant-loop-item l = record {
  left_now : raised (drop l.item-index l.from) (lefts l.counts.items) ≡ raised l.from (lefts l.initial.counts.items);
  lost_now : losses l.counts.items ≡ losses l.initial.counts.items;
  below : Below (length l.counts.items) (drop l.item-index l.from);
  room : (i : ℕ) → get_or (lefts l.counts.items) i 0 + times i (drop l.item-index l.from) < 2 ^ 64;
}
