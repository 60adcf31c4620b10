use Rattle.std.proofs.Common.{◌∷◌, [], ◌++◌, map, take, sym, ap, subst, arith}
use Rattle.std.proofs.lemmas.List.{map_more, take_all}
use Rattle.bt_commands.specs.Outside.{SaysOnly}
use Rattle.bt_blobl.specs.Text.{lint_line}
use Rattle.bt_blobl.proofs.Tales.{says-none, says-then}
use Rattle.bt_blobl.proofs.command.say_lints.Goals as goal

pub loop-lint-init : goal.loop-lint-init
loop-lint-init g c = says-none g.W.World c.args.world.now

pub loop-lint-preserved : goal.loop-lint-preserved
loop-lint-preserved g c =
    subst (λ ls. SaysOnly g.W.World ls c.args.world.now c.say_lint.new.world)
    (sym (map_more (lint_line c.args.text.now) c.args.lints.now c.loop-lint.lint-index _ c.loop-lint-test.true))
    (says-then g.W.World _ _ _ _ _ c.loop-lint.invariant c.say_lint.ensures)

pub returns : goal.returns
returns g c =
    subst (λ ls. SaysOnly g.W.World ls c.args.world.now c.loop-lint.world)
    (ap (map (lint_line c.args.text.now)) (take_all c.loop-lint.lint-index c.args.lints.now (omega (arith, c.loop-lint-test.false)))) c.loop-lint.invariant
