use Rattle.std.proofs.Common.{◌≡◌, ℕ, List, Bor, option_map, Some, IsSome, ◌++◌, ◌∙◌, ap, refl, subst, arith}
use Rattle.bt_commands.specs.declared.limits.TheConstants.{INPUT_BOUND}
use Rattle.bt_openings.specs.Plan.{openings}
use Rattle.bt_pipelines.specs.Finished.{ends_of}
use Rattle.bt_pipelines.proofs.Intakes.{run_over, untaken}
use Rattle.bt_pipelines.proofs.Tales.{launched, same_clock, same_lines}
use Rattle.bt_reports.specs.Report.{report_lines}
use Rattle.bt_pipelines.proofs.launch.launch.Goals as goal

pub make-requires-clause-untaken : goal.make-requires-clause-untaken
make-requires-clause-untaken g c = λ κs within. untaken g.W.S.Source c.in-Ok.opening.sources.list c.in-Ok.ensures.fresh.sources

pub returns-in-Ok-finish : goal.returns-in-Ok-finish
returns-in-Ok-finish g c =
    let opens = c.in-Ok.ensures.opens in
    let clock = c.take_clock-clock.ensures in
    let fin = c.in-Ok-finish.ensures.ok in
    let calls = openings c.args.names.now c.args.ends.now (option_map {T = Bor (List ℕ)} (λ p. p.now) c.args.answers) (option_map {T = Bor (List (List ℕ))} (λ f. f.now) c.args.files) in
    let a = g.W.World.tale c.args.world.now in
    let b = g.W.World.tale c.open_run.new.world in
    let e = g.W.World.tale c.take_clock-clock.new.self in
    let d = g.W.World.tale c.finish.new.world in
    record {
      told = (
        λ t. opens.told.0 (clock.told.0 (fin.told.0 t)),
        λ t. opens.told.1 (clock.told.1 (fin.told.1 t)),
        λ t. opens.told.2 (clock.told.2 (fin.told.2 t)),
      );
      read = fin.counts.0 ∙ clock.steady.0 ∙ opens.files;
      prints = fin.counts.2 ∙ clock.steady.2 ∙ opens.prints;
      counted = let p = fin.counts.1 in let q = clock.steady.1 in let r = opens.counted in omega arith;
      rose = tt;
      tells = λ t.
          let t1 = fin.told.0 t in
          let t2 = clock.told.0 t1 in
          let made = opens.tells t2 in
          let takes = clock.takes t1 in
          record {
            opening = c.in-Ok.opening;
            opened = c.in-Ok.ensures.are t2;
            fresh = c.in-Ok.ensures.fresh;
            clock = c.take_clock-clock.result;
            readings = λ s. clock.gives t1 s ∙ same_clock a b calls made;
            ran = fin.ran;
            is = run_over _ _ _ _ _ _ _ _ _ _ _ _ c.in-Ok-make.ensures.ok fin.is;
            standing = fin.standing;
            reported = fin.reported;
            only = launched a b e d calls (Some (ends_of fin.ran)) made takes (fin.keeps t);
            said = λ l. fin.said t l ∙ ap (λ ls. ls ++ report_lines INPUT_BOUND c.in-Ok-finish.report) (same_lines a b e calls made takes);
          };
      ended = subst (λ r. IsSome r.ending) fin.reported fin.is.ended;
    }
