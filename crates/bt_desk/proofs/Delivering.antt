-- A desk stands after a delivery.
use Rattle.std.proofs.Common.{◌≡◌, inl, ℕ, zero, suc, ◌+◌, ◌-◌, ◌^◌, ◌<◌, ◌≤◌, List, [], ◌∷◌, ◌++◌, length, map, take, refl, ap, ◌∙◌, sym, subst, arith, Bool, IsTrue, Some, slice_get, length-append}
use Rattle.std.specs.Prelude.{count_by}
use Rattle.std.proofs.lemmas.List.{map-append, length-map}
use Rattle.bt_ports.specs.Faults.{Rose}
use Rattle.bt_ports.specs.Contents.{Contents}
use Rattle.bt_ports.specs.declared.parts.Item.{Item}
use Rattle.bt_ports.specs.declared.parts.Record.{Record}
use Rattle.bt_ports.specs.declared.parts.AnswerCall.{AnswerCall}
use Rattle.bt_ports.specs.declared.outside.Sink as Sink
use Rattle.bt_ports.specs.declared.outside.Intake as Intake
use Rattle.bt_ports.specs.declared.outside.Answerer as Answerer
use Rattle.bt_ports.specs.declared.outside.Clock as Clock
use Rattle.bt_desk.specs.declared.report.Report.{Report}
use Rattle.bt_desk.specs.declared.report.Out.{Out}
use Rattle.bt_desk.specs.History.{Settled, Numbered, numbered_items, numbered, items_of, was_accepted, was_refused, has_failed_answer, accepted_records, refused_records, answers}
use Rattle.bt_desk.specs.DeskView.{DeskView, run_of}
use Rattle.bt_desk.specs.Settles.{Answers, counted_with, PutsInFirst}
use Rattle.bt_desk.specs.Stands.{StandsWith, out_items}
use Rattle.bt_desk.proofs.Histories.{count_by-append, numbered_from-snoc, length-numbered_items, accepted_records-append, refused_records-append, answers-append, take-snoc}

-- a count that can only have risen by a failure, at an object whose count of faults is still 0
none_failed : (m n f f' : ℕ) → (f ≡ 0 → m ≡ 0) → (0 < n → Rose f f') → f ≤ f' → f' ≡ 0 → m + n ≡ 0
none_failed m zero f f' p q h z = let k : f ≡ 0 = omega arith in omega (arith, p k)
none_failed m (suc n) f f' p q h z = let k : 0 < suc n = omega arith in absurd (omega (arith, q k))

module _ {I K A C : Type 0} (gi : Intake.Ghosts I) (gk : Sink.Ghosts K) (ga : Answerer.Ghosts A) (gc : Clock.Ghosts C) (d : DeskView I K A C) (h : List (List Settled)) (s : StandsWith gi gk ga gc d h)
    (n : ℕ) (items : List Item) (out : d.out ≡ record { number = n; items = length items } ∷ []) (number : n ≡ d.report.taken)
    (batch : IsTrue (gi.tells d.intake) → slice_get (run_of gi d) (d.report.taken - 1) ≡ Some items)
    (sinks : Contents K) (b : A) (txn : List Settled) (one_sink : length sinks.list ≡ 1)
    (same : map (λ (x : Settled). x.item) txn ≡ items)
    (puts : PutsInFirst gk d.sinks.list sinks.list (numbered_items n 0 txn))
    (answered : Answers ga d.answerer b (numbered_items n 0 txn)) where
  -- the transaction follows the history
  delivered : length h + 1 ≡ d.report.taken
  delivered = omega (arith, s.taken, ap length out)

  last : List (Numbered Settled)
  last = numbered_items n 0 txn

  all : numbered (h ++ txn ∷ []) ≡ numbered h ++ numbered_items n 0 txn
  all = let k : 1 + length h ≡ n = omega (arith, delivered, number) in numbered_from-snoc 1 h txn ∙ ap (λ (m : ℕ). numbered h ++ numbered_items m 0 txn) k

  counted : (p : Numbered Settled → Bool) → count_by p (numbered (h ++ txn ∷ [])) ≡ count_by p (numbered h) + count_by p (numbered_items n 0 txn)
  counted p = ap (count_by p) all ∙ count_by-append p (numbered h) (numbered_items n 0 txn)

  -- as many items were settled as the transaction has
  count : length txn ≡ length items
  count = sym (length-map txn (λ (x : Settled). x.item)) ∙ ap length same

  items_more : IsTrue (gi.tells d.intake) → items_of (h ++ txn ∷ []) ≡ take (length (h ++ txn ∷ [])) (run_of gi d)
  items_more t =
      let long : length (h ++ txn ∷ []) ≡ length h + 1 = length-append h (txn ∷ []) in
      let at : d.report.taken - 1 ≡ length h = omega (arith, delivered) in
      map-append _ h (txn ∷ [])
      ∙ ap (λ (xs : List (List Item)). xs ++ map (λ (x : Settled). x.item) txn ∷ []) (s.items t)
      ∙ ap (λ (xs : List Item). take (length h) (run_of gi d) ++ xs ∷ []) same
      ∙ sym (take-snoc (run_of gi d) (length h) items (ap (slice_get (run_of gi d)) (sym at) ∙ batch t))
      ∙ ap (λ (m : ℕ). take m (run_of gi d)) (sym long)

  bounded_more : length (numbered (h ++ txn ∷ [])) + (0 + gi.left d.intake) < 2 ^ 56
  bounded_more =
      omega (arith, s.bounded, ap out_items out, count, ap length all ∙ length-append (numbered h) (numbered_items n 0 txn), length-numbered_items n 0 txn)

  pub stands-delivered : StandsWith gi gk ga gc (record d { sinks = sinks; answerer = b; out = []; report = counted_with d.report (numbered_items n 0 txn) }) (h ++ txn ∷ [])
  stands-delivered = record {
    taken = omega (arith, length-append h (txn ∷ []), delivered);
    out = inl refl;
    given = s.given;
    items = items_more;
    read = s.read;
    one_sink = one_sink;
    accepted = λ k e t.
        let p = puts k e in
        p.2.accepted t ∙ ap (λ (rs : List Record). rs ++ accepted_records (numbered_items n 0 txn)) (s.accepted p.0 p.1 (p.2.told t))
        ∙ sym (accepted_records-append (numbered h) (numbered_items n 0 txn)) ∙ ap accepted_records (sym all);
    refused = λ k e t.
        let p = puts k e in
        p.2.refused t ∙ ap (λ (rs : List Record). rs ++ refused_records (numbered_items n 0 txn)) (s.refused p.0 p.1 (p.2.told t))
        ∙ sym (refused_records-append (numbered h) (numbered_items n 0 txn)) ∙ ap refused_records (sym all);
    answered = λ t.
        answered.calls t ∙ ap (λ (cs : List AnswerCall). cs ++ answers (numbered_items n 0 txn)) (s.answered (answered.told t))
        ∙ sym (answers-append (numbered h) (numbered_items n 0 txn)) ∙ ap answers (sym all);
    sink_fault = λ k e z.
        let p = puts k e in
        counted was_refused ∙ none_failed _ _ (gk.faults p.0) (gk.faults k) (s.sink_fault p.0 p.1) p.2.failed p.2.counted z;
    answer_fault = λ z. counted has_failed_answer ∙ none_failed _ _ (ga.faults d.answerer) (ga.faults b) s.answer_fault answered.failed answered.counted z;
    report =
        ap (λ (r : Report). counted_with r (numbered_items n 0 txn)) s.report
        ∙ (rw (counted was_accepted, counted was_refused, counted has_failed_answer) refl);
    ending = s.ending;
    goes = s.goes;
    whole = s.whole;
    stop = s.stop;
    read_fault = s.read_fault;
    finished = λ f. (refl, (s.finished f).1);
    few = s.few;
    bounded = bounded_more;
  }

  -- the same with the list and the report that the code has
  pub stands-after : (o : List Out) (r : Report) → o ≡ [] → r ≡ counted_with d.report (numbered_items n 0 txn)
      → StandsWith gi gk ga gc (record d { sinks = sinks; answerer = b; out = o; report = r }) (h ++ txn ∷ [])
  stands-after o r idle counts =
      subst (λ (x : List Out). StandsWith gi gk ga gc (record d { sinks = sinks; answerer = b; out = x; report = r }) (h ++ txn ∷ [])) (sym idle)
      (subst (λ (x : Report). StandsWith gi gk ga gc (record d { sinks = sinks; answerer = b; out = []; report = x }) (h ++ txn ∷ [])) (sym counts) stands-delivered)
