use Rattle.std.proofs.Common.{rules, arith}
use Rattle.bt_demand.proofs.Rows.{tree-All, tree-First, release_each-pointwise}
use Rattle.bt_demand.proofs.demand.+release.Goals as goal

pub Demand::release_hold-returns-in-All : goal.Demand::release_hold-returns-in-All
Demand::release_hold-returns-in-All t c = search (rules, tree-All)

pub Demand::release_hold-returns-in-First : goal.Demand::release_hold-returns-in-First
Demand::release_hold-returns-in-First t c = search (rules, tree-First)

pub Demands::release_each-returns : goal.Demands::release_each-returns
Demands::release_each-returns t c = release_each-pointwise _ _ _ c.loop-i.invariant.unvisited.0 (λ k d w. c.loop-i.invariant.done k d (omega arith))
