use Rattle.bt_moves.specs.Resting.{BegunStill}
use Rattle.bt_moves.proofs.Ordering.{still_after}
use Rattle.bt_moves.proofs.Delivering.{delivering_still, delivering_flushed, flushed_room}
use Rattle.bt_floor.proofs.floor.Floor.make_room.Goals as goal

pub flush-requires-clause-still : goal.flush-requires-clause-still
flush-requires-clause-still g c = λ κs within. delivering_still c.args.slot c.args.part c.args.self.now.ledger c.requires.delivering

pub returns-clause-delivering : goal.returns-clause-delivering
returns-clause-delivering g c = delivering_flushed c.args.slot c.args.part c.args.self.now.ledger c.flush.new.self.ledger c.requires.delivering c.flush.ensures.others c.flush.ensures.fresh c.flush.ensures.calm c.flush.ensures.settled

pub returns-clause-room : goal.returns-clause-room
returns-clause-room g c =
    let still : BegunStill c.flush.new.self.ledger = still_after c.args.self.now.ledger c.flush.new.self.ledger (delivering_still c.args.slot c.args.part c.args.self.now.ledger c.requires.delivering) c.flush.ensures.others c.flush.ensures.fresh in
    flushed_room c.args.slot c.args.part c.flush.new.self.ledger c.in_order.ensures.book still c.flush.ensures.empty c.in_order.ensures.wide

pub flush-requires-clause-settled : goal.flush-requires-clause-settled
flush-requires-clause-settled g c = λ κs within. c.requires.delivering.settled
