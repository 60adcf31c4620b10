use Rattle.std.proofs.Common.{◌≡◌, ◌*◌, ◌^◌, take}
use Rattle.std.specs.Prelude.{◌≤ℤ◌, pos, neg_ℤ}
use Rattle.bt_lists.specs.Numbers as spec
use Rattle.bt_lists.proofs.numbers.total.Given as goal

abbrev pub invariant-loop-n : goal.invariant-loop-n
invariant-loop-n l = record {
  so_far : l.total ≡ spec.total (take l.n-index l.ns);
  above : neg_ℤ (pos (l.n-index * 2 ^ 63)) ≤ℤ l.total;
  below : l.total ≤ℤ pos (l.n-index * 2 ^ 63);
}
