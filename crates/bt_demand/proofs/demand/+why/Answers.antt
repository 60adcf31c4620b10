use Rattle.std.proofs.Common.{rules, ◌≡◌, ◌-◌, length, Some}
use Rattle.std.specs.Prelude.{slice_get}
use Rattle.bt_demand.proofs.Reasons.{why-last}
use Rattle.bt_demand.proofs.Rows.{tree-All, tree-First}
use Rattle.bt_demand.proofs.demand.+why.Goals as goal

pub Demand::why-returns-in-All : goal.Demand::why-returns-in-All
Demand::why-returns-in-All t c = search (rules, tree-All)

pub Demand::why-returns-in-First : goal.Demand::why-returns-in-First
Demand::why-returns-in-First t c = search (rules, tree-First)

pub Demands::why_of_last-returns-in-Some : goal.Demands::why_of_last-returns-in-Some
Demands::why_of_last-returns-in-Some t c =
    let e : slice_get c.args.self.now.list.items (length c.args.self.now.list.items - 1) ≡ Some c.in-Some.d.now = search rules in
    let h = why-last c.args.self.now.list.items c.in-Some.d.now e in
    cc
