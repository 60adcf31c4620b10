use Rattle.std.proofs.Common.{◌∙◌, append_assoc}
use Rattle.bt_meaning.specs.Mapped.{failed_assignment}
use Rattle.bt_mappings.proofs.statements.failed_assignment.Goals as goal

pub returns-in-Ok : goal.returns-in-Ok
unfolding failed_assignment
returns-in-Ok c = simp append_assoc (c.from_string.ensures ∙ c.in-Ok.ensures.ok)
