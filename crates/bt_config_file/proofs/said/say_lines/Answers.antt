use Rattle.std.proofs.Common.{List, ℕ, ◌∷◌, [], take, sym, subst, arith}
use Rattle.std.proofs.lemmas.List.{take_more, take_all}
use Rattle.bt_commands.specs.Outside.{SaysOnly}
use Rattle.bt_config_file.proofs.Tales.{says-none, says-then}
use Rattle.bt_config_file.proofs.said.say_lines.Goals as goal

pub loop-line-init : goal.loop-line-init
loop-line-init g c = says-none g.W.World c.args.world.now

pub loop-line-preserved : goal.loop-line-preserved
loop-line-preserved g c =
    let one = subst (λ (x : List ℕ). SaysOnly g.W.World (x ∷ []) c.loop-line.world c.say.new.world) c.line-item.is c.say.ensures in
    subst (λ (ls : List (List ℕ)). SaysOnly g.W.World ls c.args.world.now c.say.new.world)
    (sym (take_more c.args.lines.now c.loop-line.line-index c.line-item.result c.loop-line-test.true))
    (says-then g.W.World _ _ _ _ _ c.loop-line.invariant one)

pub returns : goal.returns
returns g c =
    subst (λ (ls : List (List ℕ)). SaysOnly g.W.World ls c.args.world.now c.loop-line.world)
    (take_all c.loop-line.line-index c.args.lines.now (omega (arith, c.loop-line-test.false))) c.loop-line.invariant
