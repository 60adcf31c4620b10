use Rattle.bt_methods.proofs.Refusals.{refused}
use Rattle.bt_methods.proofs.outcomes.takes.Goals as goal

pub returns-clause-refused : goal.returns-clause-refused
returns-clause-refused c = λ x args e. refused c.args.id x args e
