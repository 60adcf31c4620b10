use Rattle.std.proofs.Common.{take}
use Rattle.bt_commands.specs.Outside.{SaysOnly}
use Rattle.bt_config_file.proofs.said.say_lines.Given as goal

abbrev pub invariant-loop-line : goal.invariant-loop-line
invariant-loop-line g l = SaysOnly g.W.World (take l.line-index l.lines) l.initial.world l.world
