use Rattle.std.proofs.Common.{arith, refl, length}
use Rattle.std.proofs.lemmas.Option.{slice_get_read}
use Rattle.bt_desk.specs.Settles.{one_item}
use Rattle.bt_desk.proofs.Settling.{settled_more}
use Rattle.bt_desk.proofs.settle.settle_items.Goals as goal

pub loop-item-preserved : goal.loop-item-preserved
loop-item-preserved g c = record {
  part = omega arith;
  acked = omega (arith, c.loop-item.invariant.acked, c.count_item.ensures.acked);
  refused = omega (arith, c.loop-item.invariant.refused, c.count_item.ensures.refused);
  answer_faults = omega (arith, c.loop-item.invariant.answer_faults, c.count_item.ensures.answer_faults);
  settled =
      settled_more g.K.Sink g.A.Answerer _ _ _ _ _ _ _ _ _ c.args.number c.loop-item.item-index c.args.items.now c.item-item.result _ _
      (slice_get_read c.args.items.now (length c.args.items.now) c.loop-item.item-index c.item-item.result refl c.loop-item-test.true c.item-item.is)
      c.loop-item.invariant.settled
      (let e = c.loop-item.invariant.part in rw e at c.settle_item-outcome.ensures.puts)
      (let e = c.loop-item.invariant.part in rw e at c.settle_item-outcome.ensures.answers)
      (c.count_item.ensures.counted (one_item c.args.number c.loop-item.item-index c.item-item.result c.settle_item-outcome.result.accepted c.settle_item-outcome.result.answer_failed) refl refl);
}
