use Rattle.std.proofs.Common.{rules, arith}
use Rattle.bt_demand.proofs.Rows.{tree-All, tree-First, wait_each-pointwise}
use Rattle.bt_demand.proofs.demand.+wait.Goals as goal

pub Demand::wait_in-returns-in-All : goal.Demand::wait_in-returns-in-All
Demand::wait_in-returns-in-All t c = search (rules, tree-All)

pub Demand::wait_in-returns-in-First : goal.Demand::wait_in-returns-in-First
Demand::wait_in-returns-in-First t c = search (rules, tree-First)

pub Demands::wait_each-returns : goal.Demands::wait_each-returns
Demands::wait_each-returns t c = wait_each-pointwise _ _ _ c.loop-i.invariant.unvisited.0 (λ k d w. c.loop-i.invariant.done k d (omega arith))
