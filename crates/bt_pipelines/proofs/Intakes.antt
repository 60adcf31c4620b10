-- The intake that a run begins with.
use Rattle.std.proofs.Common.{◌≡◌, ℕ, ◌<◌, List, length, get_or, Bool, true, false, true≢false, IsTrue, refl, sym, subst, ◌∙◌}
use Rattle.std.proofs.lemmas.List.Folds.{list_all_at}
use Rattle.std.specs.List.{All, list_all}
use Rattle.bt_demand.specs.declared.derive.Derive as Derive
use Rattle.bt_floor.specs.declared.making.Parts.{Parts}
use Rattle.bt_intake.specs.Sources.{all_tell}
use Rattle.bt_intake.specs.View.{LineView}
use Rattle.bt_openings.specs.Objects.{FreshSources}
use Rattle.bt_ports.specs.declared.outside.Answerer as Answerer
use Rattle.bt_ports.specs.declared.outside.Clock as Clock
use Rattle.bt_ports.specs.declared.outside.Intake as Intake
use Rattle.bt_ports.specs.declared.outside.Sink as Sink
use Rattle.bt_ports.specs.declared.outside.Source as Source
use Rattle.bt_ports.specs.declared.parts.Named.{Named}
use Rattle.bt_ports.specs.Contents.{Contents}
use Rattle.bt_runner.specs.Ran.{HasRun}
use Rattle.bt_runner.specs.declared.run.Ran.{Ran}

each_tells : {T : Type 0} (p : T → Bool) (xs : List T) (i : ℕ) (d : T) → i < length xs → IsTrue (list_all p xs) → IsTrue (p (get_or xs i d))
each_tells p xs i d w t = go (p (get_or xs i d)) refl
  where
    go : (b : Bool) → p (get_or xs i d) ≡ b → IsTrue (p (get_or xs i d))
    go true h = h
    go false h = absurd (true≢false (sym t ∙ list_all_at p xs i d w h))

-- no byte of fresh sources was taken, where all of them tell
pub untaken : {S : Type 0} (g : Source.Ghosts S) (ns : List (Named S)) → FreshSources g ns → IsTrue (all_tell g ns) → All (λ n. g.taken n.source ≡ 0) ns
untaken g ns fresh t = λ k d w. (fresh k d w).untaken (each_tells (λ n. g.tells n.source) ns k d w t)

module _ {S K A C D : Type 0} (gi : Intake.Ghosts (LineView S)) (gk : Sink.Ghosts K) (ga : Answerer.Ghosts A) (gc : Clock.Ghosts C) (gd : Derive.Ghosts D) (plan : D) where
  -- a run over an intake is a run over what that intake is
  pub run_over : (i j : LineView S) (sinks : Contents K) (answerer : A) (clock : C) (r : Ran (LineView S) K A C) → i ≡ j
      → HasRun gi gk ga gc gd plan (record { intake = i; sinks = sinks; answerer = answerer; clock = clock }) r → HasRun gi gk ga gc gd plan (record { intake = j; sinks = sinks; answerer = answerer; clock = clock }) r
  run_over i j sinks answerer clock r e h = subst (λ x. HasRun gi gk ga gc gd plan (record { intake = x; sinks = sinks; answerer = answerer; clock = clock }) r) e h
