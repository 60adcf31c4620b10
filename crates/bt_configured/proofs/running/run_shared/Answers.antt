use denote.Param.Send.{sendable}
use Rattle.std.proofs.Common.{◌≡◌, List, ℕ, Option, Bor, option_map, ap, subst, sym, ◌∙◌}
use Rattle.bt_commands.specs.Outside.{over}
use Rattle.bt_configured.proofs.Fits.{reads_items}
use Rattle.bt_configured.proofs.Whole.{run_launched, run_stopped}
use Rattle.bt_plan_crossing.proofs.Plan.{Plan-send, Plan-sync}
use Rattle.bt_configured.proofs.running.run_shared.Goals as goal

pub launch-requires-send-D : goal.launch-requires-send-D
launch-requires-send-D g c κs _ = search (sendable, Plan-send) depth 20 fits 10000

pub launch-requires-sync-D : goal.launch-requires-sync-D
launch-requires-sync-D g c κs _ = search (sendable, Plan-sync) depth 20 fits 10000

pub returns-in-Ok : goal.returns-in-Ok
returns-in-Ok g c =
    run_launched (over g.W.World g.W.S.Source g.W.K.Sink g.W.A.Answerer g.W.C.Clock) c.args.plan.now.value c.args.lines (option_map {T = Bor (List ℕ)} {U = List ℕ} (λ p. p.now) c.args.answers)
    c.as_slice.result.now c.as_slice-2.result.now (option_map (λ f. f.now) c.paths.result) c.in-Ok.report c.args.world.now c.launch.new.world
    (cc (c.as_slice.ensures, c.sinks.ensures, c.deref.ensures)) (cc (c.as_slice-2.ensures, c.ends.ensures, c.deref-2.ensures)) c.paths.ensures c.in-Ok.ensures
