use Rattle.std.specs.Vec.Iter.{into_iter_items}
use Rattle.bt_routing.proofs.Routings.{part_more}
use Rattle.bt_routing.proofs.parts.push_batch.Goals as goal

pub loop-piece-preserved : goal.loop-piece-preserved
loop-piece-preserved c =
    part_more c.args.output.now c.args.moment c.in_ok-size.size c.loop-piece.index c.in_ok-place.field-0 c.loop-piece.parts.list c.push.new.self.list c.in_ok-routed.routed c.in-Some.piece (into_iter_items c.next.new.self) (into_iter_items c.loop-piece.piece-iterator) _
    c.in_ok-push.ensures.ok c.in_ok-routed.ensures.from c.in_ok-routed.ensures.demand c.in_ok-place.ensures c.in-Some.ensures.steps.0 c.loop-piece.invariant
