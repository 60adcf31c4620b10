use Rattle.bt_ledger.proofs.Fronts.{front_below}
use Rattle.bt_ledger_cases.proofs.both.release.Goals as goal

pub todo_below-below-requires-clause-hold : goal.todo_below-below-requires-clause-hold
todo_below-below-requires-clause-hold c = front_below c.args.ledger.now c.release.new.self c.args.node c.in-Some.entry c.in-Some.ensures.front c.in-Some.ensures.released
