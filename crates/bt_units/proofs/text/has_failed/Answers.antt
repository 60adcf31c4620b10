use Rattle.bt_units.proofs.Ended.{some_failure}
use Rattle.bt_units.proofs.text.has_failed.Goals as goal

pub returns : goal.returns
returns c = some_failure c.is_empty.result c.args.end.now.failures c.is_empty.ensures
