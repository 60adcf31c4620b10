use Rattle.std.proofs.Common.{sym, ◌∙◌}
use Rattle.bt_ledger.specs.Ledger.{part_tree}
use Rattle.bt_steps.proofs.Steps.{next_held}
use Rattle.bt_ledger.proofs.ledger.Ledger.held.Goals as goal

pub unreachable-requires : goal.unreachable-requires
unreachable-requires c = next_held c.args.node (part_tree c.args.self.now c.args.slot c.args.part) c.requires.next (sym c.held_in.ensures ∙ c.in-None.is)
