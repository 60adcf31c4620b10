use Rattle.std.proofs.Common.{sym, ◌∙◌, subst, ap, ◌+◌}
use Rattle.bt_moves.proofs.Keeping.{part_stays, stays_joins}
use Rattle.bt_moves.proofs.Delivering.{delivering_settled, delivering_closed}
use Rattle.bt_moves.proofs.Outs.{outs_joins}
use Rattle.bt_sound.specs.View.{FloorView}
use Rattle.bt_sound.specs.Turns.{Turned}
use Rattle.bt_sound.proofs.Turns.{turned_none}
use Rattle.bt_floor.proofs.floor.Floor.begin.Goals as goal

pub settle_part-requires-clause-part : goal.settle_part-requires-clause-part
settle_part-requires-clause-part g c = λ κs within. part_stays c.args.self.now.ledger c.make_room.new.self.ledger c.args.slot c.args.part c.requires.part c.make_room.ensures.slots c.make_room.ensures.stays (sym c.is_given.ensures ∙ c.if-is_given.true)

pub returns-then-is_given-clause-delivering : goal.returns-then-is_given-clause-delivering
returns-then-is_given-clause-delivering g c = delivering_settled c.args.slot c.args.part c.make_room.new.self.ledger c.settle_part.new.self.ledger c.make_room.ensures.delivering c.settle_part.ensures.here c.settle_part.ensures.others c.settle_part.ensures.fresh c.settle_part.ensures.calm c.settle_part.ensures.settled

pub returns-then-is_given-clause-stays : goal.returns-then-is_given-clause-stays
returns-then-is_given-clause-stays g c = stays_joins c.args.self.now.ledger c.make_room.new.self.ledger c.settle_part.new.self.ledger c.args.slot c.make_room.ensures.stays (c.settle_part.ensures.others.stays c.args.slot)

pub returns-else-is_given-clause-delivering : goal.returns-else-is_given-clause-delivering
returns-else-is_given-clause-delivering g c = delivering_closed c.args.slot c.args.part c.make_room.new.self.ledger c.make_room.ensures.delivering (sym c.is_given.ensures ∙ c.if-is_given.false)

pub returns-then-is_given-clause-outs : goal.returns-then-is_given-clause-outs
returns-then-is_given-clause-outs g c = outs_joins c.args.self.now.ledger c.make_room.new.self.ledger c.settle_part.new.self.ledger c.make_room.ensures.outs c.settle_part.ensures.outs

pub settle_part-requires-clause-settled : goal.settle_part-requires-clause-settled
settle_part-requires-clause-settled g c = λ κs within. c.make_room.ensures.delivering.settled

pub returns-then-is_given-clause-turn : goal.returns-then-is_given-clause-turn
returns-then-is_given-clause-turn g c = λ q.
    let z = c.make_room.ensures.unheld q in
    subst (λ f. Turned g.K.Sink g.A.Answerer c.args.slot c.args.part (c.args.part + 1) f c.settle_part.new.self) z (c.settle_part.ensures.turn (ap (λ (v : FloorView _ _ _ _ _). v.ledger.policies) z ∙ q) (c.make_room.ensures.delivering.rest c.args.slot))

pub returns-else-is_given-clause-turn : goal.returns-else-is_given-clause-turn
returns-else-is_given-clause-turn g c = λ q. subst (λ f. Turned g.K.Sink g.A.Answerer c.args.slot c.args.part (c.args.part + 1) c.args.self.now f) (sym (c.make_room.ensures.unheld q)) (turned_none g.K.Sink g.A.Answerer c.args.slot c.args.part (c.args.part + 1) c.args.self.now)
