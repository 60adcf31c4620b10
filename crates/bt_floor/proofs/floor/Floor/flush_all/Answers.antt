use Rattle.bt_moves.proofs.Closing.{resting_still, resting_flushed, none_given}
use Rattle.bt_floor.proofs.floor.Floor.flush_all.Goals as goal

pub flush-requires-clause-still : goal.flush-requires-clause-still
flush-requires-clause-still g c = λ κs within. resting_still c.args.self.now.ledger c.requires

pub returns-clause-resting : goal.returns-clause-resting
returns-clause-resting g c = resting_flushed c.args.self.now.ledger c.flush.new.self.ledger c.requires c.flush.ensures.others c.flush.ensures.calm c.flush.ensures.settled

pub returns-clause-closed : goal.returns-clause-closed
returns-clause-closed g c = none_given c.flush.new.self.ledger (resting_flushed c.args.self.now.ledger c.flush.new.self.ledger c.requires c.flush.ensures.others c.flush.ensures.calm c.flush.ensures.settled) c.in_order.ensures.book c.flush.ensures.empty

pub flush-requires-clause-settled : goal.flush-requires-clause-settled
flush-requires-clause-settled g c = λ κs within. c.requires.settled
