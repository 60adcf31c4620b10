use Rattle.std.proofs.Common.{◌∙◌, ap}
use Rattle.std.proofs.lemmas.Result.{err_from_is_err_and}
use Rattle.bt_commands.specs.Outside.{over}
use Rattle.bt_run.proofs.Tales.{lines-then}
use Rattle.bt_run.proofs.Whole.{tells-ran, tells-halted}
use Rattle.bt_run.proofs.command.run.Goals as goal

pub returns-in_err-desk-clause-ends : goal.returns-in_err-desk-clause-ends
returns-in_err-desk-clause-ends g c =
    let p = err_from_is_err_and c.from_residual.result c.from_residual.ensures.1 in
    let start = c.in_err-desk.ensures.starts in
    rw (p.1, p.2) (record {
      told = start.told;
      counts = start.counts;
      prints = start.prints;
      tells = λ t. tells-halted (over g.W.World g.W.S.Source g.W.K.Sink g.W.A.Answerer g.W.C.Clock) c.args.config.now _ _ _ _ (start.tells t);
      lines = start.lines;
    })

pub returns-clause-ends : goal.returns-clause-ends
returns-clause-ends g c =
    let start = c.in_ok-desk.ensures.starts in
    let complete = c.complete-report.ensures in
    let say = c.say_report.ensures in
    record {
      told = (
        λ t. start.told.0 (complete.told.0 (say.told.0 t)),
        λ t. start.told.1 (complete.told.1 (say.told.1 t)),
        λ t. start.told.2 (complete.told.2 (say.told.2 t)),
      );
      counts = tt;
      prints = say.counts.2 ∙ complete.counts.2 ∙ start.prints;
      tells = λ t.
          let t2 = say.told.0 t in
          tells-ran (over g.W.World g.W.S.Source g.W.K.Sink g.W.A.Answerer g.W.C.Clock) c.args.config.now _ _ _ (g.W.World.tale c.args.world.now) (g.W.World.tale c.start.new.world) (g.W.World.tale c.complete-report.new.world) (g.W.World.tale c.say_report.new.world) _ (c.in_ok-desk.ensures.started (complete.told.0 t2)) (complete.keeps t2) (say.only t);
      lines = λ t s.
          let t2 = say.told.0 t in
          let t1 = complete.told.0 t2 in
          lines-then (g.W.World.tale c.args.world.now).lines (g.W.World.tale c.complete-report.new.world).lines (g.W.World.tale c.say_report.new.world).lines _
          (ap (λ u. u.lines) (complete.keeps t2).keeps ∙ start.lines t1 (complete.told.2 (say.told.2 s))) (say.said s);
    }
