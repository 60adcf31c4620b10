use Rattle.bt_moves.proofs.Closing.{delivering_begins, delivering_ends}
use Rattle.bt_floor.proofs.floor.Floor.deliver.Goals as goal

pub settle_parts-requires-clause-delivering : goal.settle_parts-requires-clause-delivering
settle_parts-requires-clause-delivering g c = λ κs within. delivering_begins c.args.slot c.args.self.now.ledger c.requires.quiet c.requires.fresh c.requires.rest c.requires.calm c.requires.settled

pub returns-clause-resting : goal.returns-clause-resting
returns-clause-resting g c = delivering_ends c.args.slot _ c.settle_parts.new.self.ledger c.settle_parts.ensures.delivering c.settle_parts.ensures.ends
