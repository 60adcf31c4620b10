use Rattle.std.proofs.Common.{rules, arith}
use Rattle.bt_demand.proofs.Rows.{tree-All, tree-First, settle_each-pointwise}
use Rattle.bt_demand.proofs.demand.+settle.Goals as goal

pub Demand::settle_leaf-returns-in-All : goal.Demand::settle_leaf-returns-in-All
Demand::settle_leaf-returns-in-All t c = search (rules, tree-All)

pub Demand::settle_leaf-returns-in-First : goal.Demand::settle_leaf-returns-in-First
Demand::settle_leaf-returns-in-First t c = search (rules, tree-First)

pub Demands::settle_each-returns : goal.Demands::settle_each-returns
Demands::settle_each-returns t c = settle_each-pointwise _ _ _ _ c.loop-i.invariant.unvisited.0 (λ k d w. c.loop-i.invariant.done k d (omega arith))
