use Rattle.std.proofs.Common.{◌≡◌, ◌≤◌, length}
use Rattle.bt_ledger.specs.Counted.{lefts, nexts, losses, Lined, WaitsFrom}
use Rattle.bt_ledger.proofs.items.line_up.Given as goal

abbrev pub invariant-loop-item : goal.invariant-loop-item
invariant-loop-item l = record {
  left_now : lefts l.counts.items ≡ lefts l.initial.counts.items;
  lost_now : losses l.counts.items ≡ losses l.initial.counts.items;
  within : l.item ≤ length l.counts.items;
  line : Lined (WaitsFrom l.item (lefts l.counts.items)) (nexts l.counts.items) l.line.first l.line.last;
}

abbrev pub decreases-loop-item : goal.decreases-loop-item
decreases-loop-item l = l.item
