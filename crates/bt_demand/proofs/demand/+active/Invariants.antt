use Rattle.std.proofs.Common.{◌≡◌, ◌+◌, ◌≤◌, drop}
use Rattle.std.specs.Prelude.{min}
use Rattle.bt_demand.specs.View.{trees}
use Rattle.bt_demand.specs.Holding.{count_holds_in, is_active}
use Rattle.bt_demand.proofs.demand.+active.Given as goal

abbrev pub invariant-Demands::active_in-loop-d : goal.invariant-Demands::active_in-loop-d
invariant-Demands::active_in-loop-d l = record {
  count :
      min (l.sum + count_holds_in (λ _ g. is_active g) (trees (drop l.d-index l.self.list.items))) 4294967295 ≡ min (count_holds_in (λ _ g. is_active g) (trees l.self.list.items)) 4294967295;
  fits : l.sum ≤ 4294967295;
}
