-- What is dropped has no text.
use Rattle.std.proofs.Common.{◌≡◌, ◌∙◌, List, [], ap, sym}
use Rattle.bt_outputs.specs.declared.output.Output.{Output, fold-roll-Output}
use Rattle.bt_outputs.specs.declared.output.Output.TheOpen.{Output-F}
use Rattle.bt_outputs.specs.declared.output.Output.TheVariants as output
use Rattle.bt_making.specs.Sources.{Part}
use Rattle.bt_output_plan.specs.Made.{blanked, blank_step, parts, parts_step}

pub drop_blank : blanked output.Drop ≡ output.Drop
drop_blank = ap blanked (sym output.rolls-Drop) ∙ fold-roll-Output Output blank_step Output-F.Drop

pub drop_parts : parts output.Drop ≡ []
drop_parts = ap parts (sym output.rolls-Drop) ∙ fold-roll-Output (List Part) parts_step Output-F.Drop
