use Rattle.std.proofs.Common.{◌<◌, ◌-◌}
use Rattle.bt_ledger.specs.Counted.{lefts, Waits}
use Rattle.bt_ledger.proofs.items.before.Given as goal

abbrev pub invariant-loop-at : goal.invariant-loop-at
invariant-loop-at l = record {
  waits : Waits (lefts l.counts.items) l.at;
  below : l.at < l.item;
}

abbrev pub decreases-loop-at : goal.decreases-loop-at
decreases-loop-at l = l.item - l.at
