use Rattle.std.proofs.Common.{◌<◌, length, rules, arith, ◌∙◌}
use Rattle.bt_demand.specs.View.{trees}
use Rattle.bt_demand.proofs.Rows.{tree-All, tree-First}
use Rattle.bt_routing.proofs.Fillings.{on_all, on_first, served_more, served_whole, unvisited_more}
use Rattle.bt_routing.proofs.filling.+fill.Goals as goal

pub fill-returns-in-All : goal.fill-returns-in-All
fill-returns-in-All t c =
    let whole = on_all c.fill_each.result c.args.supply.now c.fill_each.new.supply (trees c.in-All.children.list.items) (trees c.fill_each.new.ds.list.items) (rw c.in-All.children-is at c.fill_each.ensures) in
    search (rules, tree-All, whole)

pub fill-returns-in-First : goal.fill-returns-in-First
fill-returns-in-First t c =
    let whole = on_first c.fill_each-in-First.result c.args.supply.now c.fill_each-in-First.new.supply (trees c.in-First.children.list.items) (trees c.fill_each-in-First.new.ds.list.items)
    (rw c.in-First.children-is at c.fill_each-in-First.ensures) in
    search (rules, tree-First, whole)

pub fill_each-loop-i-preserved : goal.fill_each-loop-i-preserved
fill_each-loop-i-preserved t c =
    let kept = c.loop-i.invariant.unvisited in
    let here : c.loop-i.i < length c.args.ds.now.list.items = omega arith in
    let there : c.loop-i.i < length c.loop-i.ds.list.items = omega arith in
    record {
      unvisited = unvisited_more c.loop-i.ds.list.items c.args.ds.now.list.items c.loop-i.i c.fill.new.d kept;
      served = λ enough. served_more c.args.supply.now c.loop-i.supply c.fill.new.supply c.args.ds.now.list.items c.loop-i.ds.list.items c.loop-i.i c.index_mut-d.result.now c.fill.new.d
          here there (c.index_mut-d.ensures.value ∙ kept.1 c.loop-i.i c.index_mut-d.result.now (omega arith)) enough (c.loop-i.invariant.served enough) c.in_ok-fill.ensures;
    }

pub fill_each-returns : goal.fill_each-returns
fill_each-returns t c = λ enough. served_whole c.args.supply.now c.loop-i.supply c.args.ds.now.list.items c.loop-i.ds.list.items c.loop-i.i c.loop-i.invariant.unvisited.0 (omega arith) (c.loop-i.invariant.served enough)
