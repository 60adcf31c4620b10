use Rattle.std.proofs.Common.{Bor, List, ℕ, option_map, sym}
use Rattle.bt_commands.specs.Outside.{over}
use Rattle.bt_configured.proofs.Fits.{delimiter_fits, ends_fit, window_fits}
use Rattle.bt_configured.proofs.Whole.{configured, configured_not}
use Rattle.bt_configured.proofs.configured.run_plan.Goals as goal

pub run_lines-requires-clause-window : goal.run_lines-requires-clause-window
run_lines-requires-clause-window g c κs within = window_fits c.args.config.now.doc c.args.plan c.requires.plan

pub returns-in-Some : goal.returns-in-Some
returns-in-Some g c =
    configured (over g.W.World g.W.S.Source g.W.K.Sink g.W.A.Answerer g.W.C.Clock) c.args.config.now.doc c.args.plan c.args.input c.in-Some.lines (option_map {T = Bor (List ℕ)} {U = List ℕ} (λ p. p.now) c.args.answers)
    c.run_lines.result c.args.world.now c.run_lines.new.world c.requires.plan c.requires.input (sym c.in-Some.ensures) c.run_lines.ensures
