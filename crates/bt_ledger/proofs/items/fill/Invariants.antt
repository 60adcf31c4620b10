use Rattle.std.proofs.Common.{◌≡◌, replicate}
use Rattle.std.specs.Vec.{vec_capacity}
use Rattle.bt_ledger.specs.Counted.{fresh_count}
use Rattle.bt_ledger.proofs.items.fill.Given as goal

abbrev pub invariant-loop-i : goal.invariant-loop-i
invariant-loop-i l = record {
  counts : l.counts.items ≡ replicate l.i fresh_count;
  capacity : vec_capacity l.counts ≡ vec_capacity l.initial.counts;
}
