use Rattle.std.proofs.Common.{arith, length, ap}
use Rattle.bt_demand.specs.declared.routes.Routed.{Routed}
use Rattle.bt_ledger.proofs.Raising.{counted_first, counted_more, part_below, part_rises, rises_once}
use Rattle.bt_ledger.proofs.items.count_parts.Goals as goal

pub loop-i-init : goal.loop-i-init
loop-i-init c = counted_first c.args.parts.now.items c.args.counts.now.items c.requires.small c.requires.none

pub count_part-requires-clause-below : goal.count_part-requires-clause-below
count_part-requires-clause-below c = rw (c.loop-i.invariant.len, ap (λ (x : Routed). x.from) c.index.ensures) (part_below (length c.args.counts.now.items) c.args.parts.now.items c.loop-i.i c.index.result.now (omega arith) c.requires.below)

pub count_part-requires-clause-room : goal.count_part-requires-clause-room
count_part-requires-clause-room c = λ i.
    let a = rises_once i c.index.result.now.from (rw (ap (λ (x : Routed). x.from) c.index.ensures) (part_rises c.args.parts.now.items c.loop-i.i c.index.result.now (omega arith) c.requires.rising)) in
    let b = c.loop-i.invariant.small i in
    let s = c.args.parts.now.small in
    omega arith

pub loop-i-preserved : goal.loop-i-preserved
loop-i-preserved c = counted_more c.args.parts.now.items c.args.counts.now.items c.loop-i.counts.items c.count_part.new.counts.items c.loop-i.i c.index.result.now c.loop-i.invariant (omega arith) c.index.ensures c.requires.below c.requires.rising c.count_part.ensures.lefts c.count_part.ensures.losses
