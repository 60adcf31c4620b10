use Rattle.bt_blobl.proofs.Tales.{opens-none}
use Rattle.bt_blobl.proofs.command.open_stdin.Goals as goal

pub returns-in-NoMemory-clause-none : goal.returns-in-NoMemory-clause-none
returns-in-NoMemory-clause-none g c = λ t. opens-none _ _ _ (c.in-NoMemory.ensures.asks t)
