use Rattle.std.proofs.Common.{arith, add-one, ap, ◌∙◌, drop, suc}
use Rattle.std.proofs.lemmas.List.{length-map}
use Rattle.bt_demand.specs.declared.routes.Count.{Count}
use Rattle.bt_ledger.specs.Counted.{lefts, lowered}
use Rattle.bt_ledger.proofs.Counts.{ready_at, lowered_at}
use Rattle.bt_ledger.proofs.items.count_down.Goals as goal

pub lower-requires-clause-within : goal.lower-requires-clause-within
lower-requires-clause-within c =
    let r = ready_at c.args.from.now (lefts c.loop-item.counts.items) c.loop-item.item-index (omega arith) c.loop-item.invariant.ready in
    let len = length-map c.loop-item.counts.items (λ (y : Count). y.left) in
    let a = r.0 in omega arith

pub lower-requires-clause-ready : goal.lower-requires-clause-ready
lower-requires-clause-ready c = (ready_at c.args.from.now (lefts c.loop-item.counts.items) c.loop-item.item-index (omega arith) c.loop-item.invariant.ready).1

pub loop-item-preserved : goal.loop-item-preserved
loop-item-preserved c =
    let r = ready_at c.args.from.now (lefts c.loop-item.counts.items) c.loop-item.item-index (omega arith) c.loop-item.invariant.ready in
    rw add-one (record {
      ready = rw c.lower.ensures.lefts r.2;
      left_now = ap (lowered (drop (suc c.loop-item.item-index) c.args.from.now)) c.lower.ensures.lefts ∙ lowered_at c.args.from.now (lefts c.loop-item.counts.items) c.loop-item.item-index (omega arith) ∙ c.loop-item.invariant.left_now;
      lost_now = c.lower.ensures.losses ∙ c.loop-item.invariant.lost_now;
      line = c.lower.ensures.line;
    })
