use Rattle.bt_ledger.specs.Ledger.{part_tree}
use Rattle.bt_steps.proofs.Below.{next_bytes}
use Rattle.bt_ledger_cases.proofs.both.put.Goals as goal

pub leaf_bytes-bytes-requires-clause-leaf : goal.leaf_bytes-bytes-requires-clause-leaf
leaf_bytes-bytes-requires-clause-leaf c = next_bytes c.args.leaf c.args.sink (part_tree c.args.ledger.now c.args.slot c.args.part) c.requires.next
