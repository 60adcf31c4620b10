use Rattle.std.proofs.Common.{◌≡◌, ◌++◌, ◌-◌, ◌+◌, ◌≤◌, length, drop}
use Rattle.std.specs.Prelude.{true}
use Rattle.std.specs.Ordering.{nat_cmp}
use Rattle.std.specs.Set.{sorted_merge}
use Rattle.bt_ports.proofs.origins.merge.Given as goal

abbrev pub invariant-pairs : goal.invariant-pairs
invariant-pairs l = record {
  left : l.i ≤ length l.a;
  right : l.j ≤ length l.b;
  merged : l.merged.items ++ sorted_merge nat_cmp true (drop l.i l.a) (drop l.j l.b) ≡ sorted_merge nat_cmp true l.a l.b;
}

abbrev pub decreases-pairs : goal.decreases-pairs
decreases-pairs l = (length l.a - l.i) + (length l.b - l.j)
