-- Processors that leave all messages as they are have no text.
use Rattle.std.proofs.Common.{◌≡◌, ◌∙◌, List, [], ap, sym}
use Rattle.bt_messages.specs.declared.tree.MessageProcessor.{MessageProcessor, fold-roll-MessageProcessor}
use Rattle.bt_messages.specs.declared.tree.MessageProcessor.TheOpen.{MessageProcessor-F}
use Rattle.bt_messages.specs.declared.tree.MessageProcessor.TheVariants as single
use Rattle.bt_proc.specs.declared.tree.Processor.{Processor, fold-roll-Processor}
use Rattle.bt_proc.specs.declared.tree.Processor.TheOpen.{Processor-F}
use Rattle.bt_proc.specs.declared.tree.Processor.TheVariants as processor
use Rattle.bt_making.specs.Sources.{Part}
use Rattle.bt_compile.specs.Made.{blank_single, blank_single_step, blanked, blank_step, parts, parts_step, single_parts, single_parts_step}
use Rattle.bt_compile.specs.Reading.{idle, idle_single}

pub idle_single_blank : blank_single idle_single ≡ idle_single
idle_single_blank = ap blank_single (sym (single.rolls-Try [])) ∙ fold-roll-MessageProcessor MessageProcessor blank_single_step (MessageProcessor-F.Try [])

pub idle_single_parts : single_parts idle_single ≡ []
idle_single_parts = ap single_parts (sym (single.rolls-Try [])) ∙ fold-roll-MessageProcessor (List Part) single_parts_step (MessageProcessor-F.Try [])

pub idle_blank : blanked idle ≡ idle
idle_blank = ap blanked (sym (processor.rolls-Try [])) ∙ fold-roll-Processor Processor blank_step (Processor-F.Try [])

pub idle_parts : parts idle ≡ []
idle_parts = ap parts (sym (processor.rolls-Try [])) ∙ fold-roll-Processor (List Part) parts_step (Processor-F.Try [])
