use Rattle.std.proofs.Common.{◌∙◌, refl, arith, subst}
use Rattle.bt_intake.specs.Sources.{fault_count}
use Rattle.bt_blobl.specs.Inside.{PassFaults}
use Rattle.bt_intake.proofs.SourceLists.{sources_kept-same, sources_kept-then}
use Rattle.bt_blobl.proofs.Loop.{going-begins, going-turned, passed-halted}
use Rattle.bt_blobl.proofs.Tales.{prints_only-then}
use Rattle.bt_blobl.proofs.lines.map_lines.Goals as goal

pub lines-init : goal.lines-init
lines-init g c = record {
  goes = c.requires.fresh.0;
  told = (λ t. t, λ t. t, λ t. t);
  steady = (refl, refl);
  prints = refl;
  only = λ t. refl;
  faults = refl;
  kept = sources_kept-same g.W.S.Source _;
  bound = refl;
  room = omega arith;
  going = going-begins g.W.S.Source _ _ _ _ _ _ c.requires.fresh.1;
}

pub returns-in-Err-clause-kept : goal.returns-in-Err-clause-kept
returns-in-Err-clause-kept g c = sources_kept-then g.W.S.Source _ _ _ c.lines.invariant.kept c.in-Err.ensures.kept

pub returns-in-Err-clause-passed : goal.returns-in-Err-clause-passed
returns-in-Err-clause-passed g c =
    passed-halted g.W.S.Source _ _ _ _ _ _ _ _ _ _ _ _ _ _ c.in-Err.ensures.told c.lines.invariant.going _ c.in-Err.ensures.turns.0 c.in-Err.ensures.turns.1

pub returns-in-Err-clause-faults : goal.returns-in-Err-clause-faults
returns-in-Err-clause-faults g c =
    subst (λ n. PassFaults c.in-Err.stop n (fault_count g.W.S.Source c.map_next.new.intake.sources.list)) c.lines.invariant.faults c.in-Err.ensures.faults

pub lines-preserved : goal.lines-preserved
lines-preserved g c =
    let was = c.lines.invariant in
    let told = c.in-Ok.ensures.told in
    record {
      goes = c.in-Ok.ensures.goes;
      told = (λ t. was.told.0 (told.0 t), λ t. was.told.1 (told.1 t), λ t. was.told.2 (told.2 t));
      steady = (c.in-Ok.ensures.steady.0 ∙ was.steady.0, c.in-Ok.ensures.steady.1 ∙ was.steady.1);
      prints = c.in-Ok.ensures.counted ∙ was.prints;
      only = λ t. prints_only-then (g.W.World.tale c.args.world.now) (g.W.World.tale c.lines.world) (g.W.World.tale c.map_next.new.world) (was.only (told.0 t)) (c.in-Ok.ensures.only t);
      faults = c.in-Ok.ensures.faults ∙ was.faults;
      kept = sources_kept-then g.W.S.Source _ _ _ was.kept c.in-Ok.ensures.kept;
      bound = c.in-Ok.ensures.bound ∙ was.bound;
      room = omega (arith, was.room, c.in-Ok.ensures.lowers);
      going = going-turned g.W.S.Source _ _ _ _ _ _ _ _ _ _ _ _ _ _ told was.going _ c.in-Ok.ensures.turns.0 c.in-Ok.ensures.turns.1;
    }
