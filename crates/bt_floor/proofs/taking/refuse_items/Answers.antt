use Rattle.std.proofs.Common.{[], ◌∷◌, ◌++◌}
use Rattle.bt_sound.proofs.Refusing.{refused_none, refused_more}
use Rattle.bt_floor.proofs.taking.refuse_items.Goals as goal

pub loop-item-init : goal.loop-item-init
loop-item-init g c = ([], refused_none g.A.Answerer c.args.answerer.now c.args.counts.now c.args.number)

pub loop-item-preserved : goal.loop-item-preserved
loop-item-preserved g c = (
  c.loop-item.invariant.0 ++ c.refuse_item.ensures.0 ∷ [],
  refused_more g.A.Answerer c.args.answerer.now c.loop-item.answerer c.refuse_item.new.answerer c.args.counts.now c.loop-item.counts c.refuse_item.new.counts c.args.number c.loop-item.item c.loop-item.invariant.0 c.refuse_item.ensures.0 c.loop-item.invariant.1 c.refuse_item.ensures.1,
)
