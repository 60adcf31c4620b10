use Rattle.std.proofs.Common.{rules, arith, ◌≡◌, ◌≤◌, drop, length, ap}
use Rattle.std.proofs.lemmas.List.{at_drop_all}
use Rattle.bt_demand.specs.Holds.{holds_in}
use Rattle.bt_demand.specs.View.{trees}
use Rattle.bt_demand.proofs.Rows.{tree-All, tree-First}
use Rattle.bt_demand.proofs.demand.+holds.Goals as goal

pub Demand::holds-returns-in-All : goal.Demand::holds-returns-in-All
Demand::holds-returns-in-All t c = search (rules, tree-All)

pub Demand::holds-returns-in-First : goal.Demand::holds-returns-in-First
Demand::holds-returns-in-First t c = search (rules, tree-First)

pub Demands::holds_in-returns : goal.Demands::holds_in-returns
Demands::holds_in-returns t c =
    let end : length c.args.self.now.list.items ≤ c.loop-d.d-index = omega (arith, c.loop-d-test.false, ap length c.deref-d-items.ensures.value) in
    let none_left : holds_in (trees (drop c.loop-d.d-index c.args.self.now.list.items)) ≡ 0 =
    at_drop_all (λ ds. holds_in (trees ds)) c.args.self.now.list.items c.loop-d.d-index end
    in
    omega (arith, c.loop-d.invariant.count, c.loop-d.invariant.fits, none_left)
