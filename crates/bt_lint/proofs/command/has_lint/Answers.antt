use Rattle.bt_lint.proofs.Whole.{some-lint}
use Rattle.bt_lint.proofs.command.has_lint.Goals as goal

pub returns : goal.returns
returns c = some-lint c.is_empty.result c.args.linted.now.lints c.is_empty.ensures
