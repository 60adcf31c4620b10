-- What a run that stands says of its lists once nothing is out.
use Rattle.std.proofs.Common.{◌≡◌, ◌⊎◌, inl, inr, ℕ, List, [], ◌∷◌, length, take, refl, ap, ◌∙◌, sym, subst, arith, true}
use Rattle.bt_ports.specs.declared.outside.Sink as Sink
use Rattle.bt_ports.specs.declared.outside.Intake as Intake
use Rattle.bt_ports.specs.declared.outside.Answerer as Answerer
use Rattle.bt_ports.specs.declared.outside.Clock as Clock
use Rattle.std.specs.Prelude.{count_by}
use Rattle.bt_desk.specs.declared.report.Out.{Out}
use Rattle.bt_desk.specs.declared.report.Report.{Report}
use Rattle.bt_desk.specs.DeskView.{DeskView, run_of}
use Rattle.bt_desk.specs.History.{Settled, numbered, records_of, acks_of, was_accepted, was_refused, has_failed_answer}
use Rattle.bt_desk.specs.Stands.{StandsWith}
use Rattle.bt_desk.specs.Finished.{Rises, IsClean, Counts, acknowledges, refuses, has_failed, RecordsRise, CallsRise}
use Rattle.bt_desk.proofs.Clean.{accepted-clean, refused-clean, answered-clean}
use Rattle.bt_desk.proofs.Counting.{accepted-counted, refused-counted, acknowledged-counted, others-counted, failed-counted}
use Rattle.bt_desk.proofs.Rising.{accepted-rise, refused-rise, answers-rise}

module _ {I K A C : Type 0} (gi : Intake.Ghosts I) (gk : Sink.Ghosts K) (ga : Answerer.Ghosts A) (gc : Clock.Ghosts C) (d : DeskView I K A C) (h : List (List Settled)) (s : StandsWith gi gk ga gc d h) where
  pub stands-rises : Rises gk ga d
  stands-rises = record {
    accepted = λ k e t. subst RecordsRise (sym (s.accepted k e t)) (accepted-rise h);
    refused = λ k e t. subst RecordsRise (sym (s.refused k e t)) (refused-rise h);
    answered = λ t. subst CallsRise (sym (s.answered t)) (answers-rise h);
  }

  pub stands-counts : Counts gk ga d
  stands-counts =
      let acked : d.report.acked ≡ count_by was_accepted (numbered h) = ap (λ (r : Report). r.acked) s.report in
      let refused : d.report.refused ≡ count_by was_refused (numbered h) = ap (λ (r : Report). r.refused) s.report in
      let faults : d.report.answer_faults ≡ count_by has_failed_answer (numbered h) = ap (λ (r : Report). r.answer_faults) s.report in
      record {
        accepted = λ k e t. acked ∙ accepted-counted (numbered h) ∙ ap length (sym (s.accepted k e t));
        refused = λ k e t. refused ∙ refused-counted (numbered h) ∙ ap length (sym (s.refused k e t));
        acknowledged = λ t. acked ∙ acknowledged-counted (numbered h) ∙ ap (count_by acknowledges) (sym (s.answered t));
        others = λ t. refused ∙ others-counted (numbered h) ∙ ap (count_by refuses) (sym (s.answered t));
        failed = λ t. faults ∙ failed-counted (numbered h) ∙ ap (count_by has_failed) (sym (s.answered t));
      }

  -- nothing is out of a desk that was finished, or on which nothing was taken
  pub idle-done : (d.finished ≡ true) ⊎ (d.report.taken ≡ 0) → d.out ≡ []
  idle-done (inl f) = (s.finished f).0
  idle-done (inr z) = none_out d.out (omega (arith, s.taken))
    where
      none_out : (o : List Out) → length o ≡ 0 → o ≡ []
      none_out [] e = refl
      none_out (x ∷ o) e = absurd (omega arith)

  pub stands-clean : d.out ≡ [] → IsClean gi gk ga d
  stands-clean idle =
      let all : length h ≡ d.report.taken = omega (arith, s.taken, ap length idle) in
      record {
        written = λ k e z ti tk.
            let whole = s.items ti ∙ ap (λ (n : ℕ). take n (run_of gi d)) all in
            (s.accepted k e tk ∙ accepted-clean h (s.sink_fault k e z) ∙ ap records_of whole, s.refused k e tk ∙ refused-clean h (s.sink_fault k e z));
        answered = λ k e z y ti ta.
            let whole = s.items ti ∙ ap (λ (n : ℕ). take n (run_of gi d)) all in
            s.answered ta ∙ answered-clean h (s.sink_fault k e z) (s.answer_fault y) ∙ ap acks_of whole;
      }
