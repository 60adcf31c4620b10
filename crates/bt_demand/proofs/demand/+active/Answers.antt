use Rattle.std.proofs.Common.{rules, arith, ◌≡◌, ◌≤◌, drop, length, ap}
use Rattle.std.proofs.lemmas.List.{at_drop_all}
use Rattle.bt_demand.specs.Holding.{count_holds_in, is_active}
use Rattle.bt_demand.specs.View.{trees}
use Rattle.bt_demand.proofs.Rows.{tree-All, tree-First}
use Rattle.bt_demand.proofs.demand.+active.Goals as goal

pub Demand::active-returns-in-All : goal.Demand::active-returns-in-All
Demand::active-returns-in-All t c = search (rules, tree-All)

pub Demand::active-returns-in-First : goal.Demand::active-returns-in-First
Demand::active-returns-in-First t c = search (rules, tree-First)

pub Demands::active_in-returns : goal.Demands::active_in-returns
Demands::active_in-returns t c =
    let end : length c.args.self.now.list.items ≤ c.loop-d.d-index = omega (arith, c.loop-d-test.false, ap length c.deref-d-items.ensures.value) in
    let none_left : count_holds_in (λ _ g. is_active g) (trees (drop c.loop-d.d-index c.args.self.now.list.items)) ≡ 0 =
    at_drop_all (λ ds. count_holds_in (λ _ g. is_active g) (trees ds)) c.args.self.now.list.items c.loop-d.d-index end
    in
    omega (arith, c.loop-d.invariant.count, c.loop-d.invariant.fits, none_left)
