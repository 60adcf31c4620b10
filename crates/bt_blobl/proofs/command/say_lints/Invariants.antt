use Rattle.std.proofs.Common.{◌-◌, length, map, take}
use Rattle.bt_commands.specs.Outside.{SaysOnly}
use Rattle.bt_blobl.specs.Text.{lint_line}
use Rattle.bt_blobl.proofs.command.say_lints.Given as goal

abbrev pub invariant-loop-lint : goal.invariant-loop-lint
invariant-loop-lint g l = SaysOnly g.W.World (map (lint_line l.text) (take l.lint-index l.lints)) l.initial.world l.world
