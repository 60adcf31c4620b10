-- Steps of a run.
use Rattle.std.proofs.Common.{◌≡◌, ℕ, List, Option, slice_get, refl, ap, ◌∙◌, sym, subst, inl, inr}
use Rattle.bt_ports.specs.declared.outside.Intake as Intake
use Rattle.bt_ports.specs.declared.outside.Sink as Sink
use Rattle.bt_ports.specs.declared.outside.Answerer as Answerer
use Rattle.bt_ports.specs.declared.outside.Clock as Clock
use Rattle.bt_ports.specs.declared.parts.Txn.{Txn}
use Rattle.bt_desk.specs.DeskView.{DeskView}
use Rattle.bt_desk.specs.Calls.{SameRun, OnlyAdmits, Delivers}
use Rattle.bt_desk.specs.History.{Settled}
use Rattle.bt_desk.specs.Calls.{Admits, AdmitFaults}
use Rattle.bt_desk.specs.declared.parts.Admit.{Admit}
use Rattle.bt_desk.specs.declared.parts.Admit.TheVariants as admit
use Rattle.bt_desk.specs.declared.report.Report.{Report}
use Rattle.bt_desk.specs.declared.report.Ending.{Ending}
use Rattle.bt_run.specs.Inside.{SamePlaces, CarryFaults}

module _ {I K A C : Type 0} where
  pub same_run-then : (g : Intake.Ghosts I) (gc : Clock.Ghosts C) (d e f : DeskView I K A C) → SameRun g gc d e → SameRun g gc e f → SameRun g gc d f
  same_run-then g gc d e f p q = record {
    told = λ t. p.told (q.told t);
    openings = q.openings ∙ p.openings;
    bounds = q.bounds ∙ p.bounds;
    inputs = λ t. q.inputs t ∙ p.inputs (q.told t);
    batches = λ t. q.batches t ∙ p.batches (q.told t);
    stop = λ t. q.stop t ∙ p.stop (q.told t);
    before = λ t. q.before t ∙ p.before (q.told t);
    clock_told = λ t. p.clock_told (q.clock_told t);
    readings = λ t. q.readings t ∙ p.readings (q.clock_told t);
  }

  -- an admission and a delivery leave the places
  pub same_places-then : (gi : Intake.Ghosts I) (gk : Sink.Ghosts K) (ga : Answerer.Ghosts A) (t : Txn) (d e f h : DeskView I K A C) (txn : List Settled)
      → SamePlaces gk ga d e → OnlyAdmits gi e f → Delivers gk ga t f h txn → SamePlaces gk ga d h
  same_places-then gi gk ga t d e f h txn p admits delivers = record {
    sink = λ k is.
        let put = delivers.settles.puts k is in
        let was = p.sink put.0 (sym (ap (λ ks. slice_get ks.list 0) admits.sinks) ∙ put.1) in
        (was.0, was.1, put.2.placed ∙ was.2);
    answerer = delivers.settles.answers.placed ∙ ap ga.place admits.answerer ∙ p.answerer;
  }

-- the count of faults of a run that an admission ended so
pub carry-faults : {I K A C : Type 0} (gi : Intake.Ghosts I) (gc : Clock.Ghosts C) (r : Admit) (d e : DeskView I K A C) (f f' : ℕ) → ((t : Txn) → r ≡ admit.Job t → ⊥) → Admits gi gc r d e → AdmitFaults r f f'
    → CarryFaults e.report.ending f f'
carry-faults gi gc (admit.Job t) d e f f' none p q = absurd (none t refl)
carry-faults gi gc admit.Ended d e f f' none p q = subst (λ (x : Option Ending). CarryFaults x f f') (sym (ap (λ (r : Report). r.ending) p.report)) q
carry-faults gi gc admit.ReadFault d e f f' none p q = subst (λ (x : Option Ending). CarryFaults x f f') (sym (ap (λ (r : Report). r.ending) p.report)) q
carry-faults gi gc admit.Bound d e f f' none (inl p) q = subst (λ (x : Option Ending). CarryFaults x f f') (sym (ap (λ (r : Report). r.ending) p.report)) q
carry-faults gi gc admit.Bound d e f f' none (inr p) q = subst (λ (x : Option Ending). CarryFaults x f f') (sym (ap (λ (r : Report). r.ending) p.1.report)) q
carry-faults gi gc admit.NoMemory d e f f' none p q = subst (λ (x : Option Ending). CarryFaults x f f') (sym (ap (λ (r : Report). r.ending) p.report)) q
