use Rattle.std.proofs.Common.{sym, ◌∙◌}
use Rattle.bt_demand.specs.Find.{below}
use Rattle.bt_ledger.specs.Ledger.{part_tree}
use Rattle.bt_ledger.proofs.Shown.{there}
use Rattle.bt_ledger.proofs.ledger.Ledger.todo_below.Goals as goal

pub unreachable-requires : goal.unreachable-requires
unreachable-requires c = there (below c.args.node (part_tree c.args.self.now c.args.slot c.args.part)) c.requires.hold (sym c.next_below.ensures ∙ c.in-None.is)
