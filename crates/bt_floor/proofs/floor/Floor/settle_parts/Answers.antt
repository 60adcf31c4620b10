use Rattle.std.proofs.Common.{◌<◌, arith, refl, ◌∙◌, length}
use Rattle.bt_ledger.specs.Ledger.{slot_at, parts_in}
use Rattle.bt_moves.proofs.Keeping.{part_stays, stays_joins, stays_same}
use Rattle.bt_moves.proofs.Closing.{fewer_parts}
use Rattle.bt_moves.proofs.Outs.{outs_same, outs_joins}
use Rattle.bt_sound.proofs.Turns.{turned_none, turned_more}
use Rattle.bt_floor.proofs.floor.Floor.settle_parts.Goals as goal

pub loop-part-init : goal.loop-part-init
loop-part-init g c = record {
  delivering = c.requires.delivering;
  slots = refl;
  stays = stays_same c.args.self.now.ledger c.args.slot;
  outs = outs_same c.args.self.now.ledger;
  outside = refl;
  turn = λ q. turned_none g.K.Sink g.A.Answerer c.args.slot 0 0 c.args.self.now;
}

pub begin_if_given-requires-clause-part : goal.begin_if_given-requires-clause-part
begin_if_given-requires-clause-part g c =
    let w : c.loop-part.part < length (parts_in (slot_at c.args.self.now.ledger c.args.slot)) = omega arith in
    λ κs within e. part_stays c.args.self.now.ledger c.loop-part.self.ledger c.args.slot c.loop-part.part (c.requires.given.0, w) c.loop-part.invariant.slots c.loop-part.invariant.stays e

pub loop-part-preserved : goal.loop-part-preserved
loop-part-preserved g c = record {
  delivering = c.begin_if_given.ensures.delivering;
  slots = c.begin_if_given.ensures.slots ∙ c.loop-part.invariant.slots;
  stays = stays_joins c.args.self.now.ledger c.loop-part.self.ledger c.begin_if_given.new.self.ledger c.args.slot c.loop-part.invariant.stays c.begin_if_given.ensures.stays;
  outs = outs_joins c.args.self.now.ledger c.loop-part.self.ledger c.begin_if_given.new.self.ledger c.loop-part.invariant.outs c.begin_if_given.ensures.outs;
  outside = c.begin_if_given.ensures.outside ∙ c.loop-part.invariant.outside;
  turn = λ q. (let i = c.loop-part.invariant.turn q in turned_more g.K.Sink g.A.Answerer c.args.slot c.loop-part.part c.args.self.now c.loop-part.self c.begin_if_given.new.self i (c.begin_if_given.ensures.turn (i.policies ∙ q)) c.begin_if_given.ensures.closed);
}

pub returns-clause-ends : goal.returns-clause-ends
returns-clause-ends g c = fewer_parts c.args.self.now.ledger c.loop-part.self.ledger c.args.slot c.loop-part.invariant.stays
