-- A desk stands after an admission.
use Rattle.std.proofs.Common.{◌≡◌, ℕ, zero, suc, ◌+◌, ◌-◌, ◌^◌, ◌<◌, ◌≤◌, List, [], ◌∷◌, length, take, drop, refl, ap, ◌∙◌, sym, subst, arith, IsTrue, Some, None, IsSome, slice_get, length-drop, zero-add}
use Rattle.bt_ports.specs.Intake.{InputStop, stop_of, NextFaults, NextLowers, NextGives, NextStops}
use Rattle.bt_ports.specs.Contents.{Contents}
use Rattle.bt_ports.specs.declared.parts.Item.{Item}
use Rattle.bt_ports.specs.declared.parts.Next.{Next}
use Rattle.bt_ports.specs.declared.parts.Next.TheVariants as next
use Rattle.bt_ports.specs.declared.outside.Sink as Sink
use Rattle.bt_ports.specs.declared.outside.Intake as Intake
use Rattle.bt_ports.specs.declared.outside.Answerer as Answerer
use Rattle.bt_ports.specs.declared.outside.Clock as Clock
use Rattle.bt_desk.specs.declared.report.Ending.{Ending}
use Rattle.bt_desk.specs.declared.report.Ending.TheVariants as ending
use Rattle.bt_desk.specs.declared.report.Report.{Report}
use Rattle.bt_desk.specs.History.{Settled}
use Rattle.bt_desk.specs.DeskView.{DeskView}
use Rattle.bt_desk.specs.Stands.{StandsWith, ending_of, TakesWhole, IsStop, FaultCounted}

slice_get-drop : {X : Type 0} (m : ℕ) (xs : List X) (i : ℕ) → slice_get (drop m xs) i ≡ slice_get xs (m + i)
slice_get-drop zero [] i = refl
slice_get-drop (suc m) [] i = refl
slice_get-drop {X} zero (x ∷ xs) i = ap (slice_get (x ∷ xs)) (sym (zero-add i))
slice_get-drop {X} (suc m) (x ∷ xs) i = let e : suc m + i ≡ suc (m + i) = omega arith in slice_get-drop m xs i ∙ ap (slice_get (x ∷ xs)) (sym e)

none_is_some : (X : Type 0) → IsSome {T = X} None → ⊥
none_is_some X e = cc

some_is_none : {X : Type 0} {x : X} → Some x ≡ None → ⊥
some_is_none e = cc

-- an answer other than a batch leaves as much as there was, gives no batch, and has its cause
module _ (n : Ending) where
  pub left-ended : (a : Next) (l m : ℕ) → ending_of (stop_of a) ≡ Some n → NextLowers a l m → m ≤ l
  left-ended (next.Batch items) l m e h = absurd (some_is_none (sym e))
  left-ended next.End l m e h = h
  left-ended next.Failed l m e h = h
  left-ended (next.LongLine k) l m e h = h
  left-ended next.Bound l m e h = h
  left-ended next.NoMemory l m e h = h

  pub given-ended : (a : Next) (bs : List (List Item)) (g h : ℕ) → ending_of (stop_of a) ≡ Some n → NextGives a bs g h → h ≡ g
  given-ended (next.Batch items) bs g h e p = cc
  given-ended next.End bs g h e p = p.0
  given-ended next.Failed bs g h e p = p
  given-ended (next.LongLine k) bs g h e p = p.0
  given-ended next.Bound bs g h e p = p.0
  given-ended next.NoMemory bs g h e p = p

  pub whole-ended : (a : Next) (bs : List (List Item)) (g h t : ℕ) → ending_of (stop_of a) ≡ Some n → NextGives a bs g h → t ≤ g → TakesWhole (Some n) t (length (drop (g - t) bs))
  whole-ended (next.Batch items) bs g h t e p k = absurd (some_is_none (sym e))
  whole-ended next.End bs g h t e p k = let same : ending.Ended ≡ n = cc in subst (λ (m : Ending). TakesWhole (Some m) t (length (drop (g - t) bs))) same (omega (arith, length-drop (g - t) bs, p.1))
  whole-ended next.Failed bs g h t e p k = let same : ending.ReadFault ≡ n = cc in subst (λ (m : Ending). TakesWhole (Some m) t (length (drop (g - t) bs))) same tt
  whole-ended (next.LongLine j) bs g h t e p k = let same : ending.LongLine j ≡ n = cc in subst (λ (m : Ending). TakesWhole (Some m) t (length (drop (g - t) bs))) same (omega (arith, length-drop (g - t) bs, p.1))
  whole-ended next.Bound bs g h t e p k = let same : ending.Bound ≡ n = cc in subst (λ (m : Ending). TakesWhole (Some m) t (length (drop (g - t) bs))) same (omega (arith, length-drop (g - t) bs, p.1))
  whole-ended next.NoMemory bs g h t e p k = let same : ending.NoMemory ≡ n = cc in subst (λ (m : Ending). TakesWhole (Some m) t (length (drop (g - t) bs))) same tt

  pub fault-ended : (a : Next) (f f' : ℕ) → ending_of (stop_of a) ≡ Some n → NextFaults a f f' → FaultCounted (Some n) f'
  fault-ended (next.Batch items) f f' e p = absurd (some_is_none (sym e))
  fault-ended next.End f f' e p = let same : ending.Ended ≡ n = cc in subst (λ (m : Ending). FaultCounted (Some m) f') same tt
  fault-ended next.Failed f f' e p = let same : ending.ReadFault ≡ n = cc in subst (λ (m : Ending). FaultCounted (Some m) f') same (omega (arith, p))
  fault-ended (next.LongLine j) f f' e p = let same : ending.LongLine j ≡ n = cc in subst (λ (m : Ending). FaultCounted (Some m) f') same tt
  fault-ended next.Bound f f' e p = let same : ending.Bound ≡ n = cc in subst (λ (m : Ending). FaultCounted (Some m) f') same tt
  fault-ended next.NoMemory f f' e p = let same : ending.NoMemory ≡ n = cc in subst (λ (m : Ending). FaultCounted (Some m) f') same tt

  pub stop-ended : (a : Next) (stop : InputStop) (bound : ℕ) → ending_of (stop_of a) ≡ Some n → NextStops a stop bound → IsStop (Some n) stop bound
  stop-ended (next.Batch items) stop bound e p = absurd (some_is_none (sym e))
  stop-ended next.End stop bound e p = let same : ending.Ended ≡ n = cc in subst (λ (m : Ending). IsStop (Some m) stop bound) same p
  stop-ended next.Failed stop bound e p = let same : ending.ReadFault ≡ n = cc in subst (λ (m : Ending). IsStop (Some m) stop bound) same tt
  stop-ended (next.LongLine j) stop bound e p = let same : ending.LongLine j ≡ n = cc in subst (λ (m : Ending). IsStop (Some m) stop bound) same p
  stop-ended next.Bound stop bound e p = let same : ending.Bound ≡ n = cc in subst (λ (m : Ending). IsStop (Some m) stop bound) same p
  stop-ended next.NoMemory stop bound e p = let same : ending.NoMemory ≡ n = cc in subst (λ (m : Ending). IsStop (Some m) stop bound) same tt

-- a batch lowers what is left by its length, which is bounded
pub batch-lowers : (a : Next) (items : Contents Item) (l m : ℕ) → a ≡ next.Batch items → NextLowers a l m → (1 ≤ length items.list) × (length items.list < 2 ^ 32) × (m + length items.list ≤ l)
batch-lowers a items l m is h = subst (λ (x : Next). NextLowers x l m) is h

-- what an intake's next answer did
pub record Answered {I : Type 0} (g : Intake.Ghosts I) (a : Next) (i j : I) : Type 0 where
  pub counted : g.faults i ≤ g.faults j
  pub failed : NextFaults a (g.faults i) (g.faults j)
  pub lowers : NextLowers a (g.left i) (g.left j)
  pub stops : g.stopped j ≡ stop_of a
  pub told : IsTrue (g.tells j) → IsTrue (g.tells i)
  pub same : IsTrue (g.tells j) → g.batches j ≡ g.batches i
  pub stays : IsTrue (g.tells j) → g.stop j ≡ g.stop i
  pub gives : IsTrue (g.tells j) → NextGives a (g.batches i) (g.given i) (g.given j)
  pub ends : IsTrue (g.tells j) → NextStops a (g.stop i) (g.bound j)

module _ {I K A C : Type 0} (gi : Intake.Ghosts I) (gk : Sink.Ghosts K) (ga : Answerer.Ghosts A) (gc : Clock.Ghosts C) (d : DeskView I K A C) (j : I) (a : Next) (p : Answered gi a d.intake j) (h : List (List Settled)) (s : StandsWith gi gk ga gc d h) where
  pub stands-ended : (n : Ending) → ending_of (stop_of a) ≡ Some n → StandsWith gi gk ga gc (record d { intake = j; report = record d.report { ending = Some n } }) h
  stands-ended n e = record {
    taken = s.taken;
    out = s.out;
    given = λ t. let same : gi.given j ≡ gi.given d.intake = given-ended n a _ _ _ e (p.gives t) in omega (arith, s.given (p.told t));
    items = λ t.
        s.items (p.told t)
        ∙ ap (λ (bs : List (List Item)). take (length h) (drop (gi.given d.intake - d.report.taken) bs)) (sym (p.same t))
        ∙ ap (λ (g : ℕ). take (length h) (drop (g - d.report.taken) (gi.batches j))) (sym (given-ended n a _ _ _ e (p.gives t)));
    read = s.read;
    one_sink = s.one_sink;
    accepted = s.accepted;
    refused = s.refused;
    answered = s.answered;
    sink_fault = s.sink_fault;
    answer_fault = s.answer_fault;
    report = ap (λ (r : Report). record r { ending = Some n }) s.report;
    ending = sym (ap ending_of p.stops ∙ e);
    goes = λ z. absurd (some_is_none z);
    whole = λ t.
        subst (λ (bs : List (List Item)). TakesWhole (Some n) d.report.taken (length (drop (gi.given j - d.report.taken) bs))) (sym (p.same t))
        (subst (λ (g : ℕ). TakesWhole (Some n) d.report.taken (length (drop (g - d.report.taken) (gi.batches d.intake)))) (sym (given-ended n a _ _ _ e (p.gives t)))
        (whole-ended n a (gi.batches d.intake) (gi.given d.intake) (gi.given j) d.report.taken e (p.gives t) (s.given (p.told t))));
    stop = λ t. subst (λ (k : InputStop). IsStop (Some n) k (gi.bound j)) (sym (p.stays t)) (stop-ended n a (gi.stop d.intake) (gi.bound j) e (p.ends t));
    read_fault = fault-ended n a (gi.faults d.intake) (gi.faults j) e p.failed;
    finished = λ f. ((s.finished f).0, refl);
    few = omega (arith, s.few, left-ended n a _ _ e p.lowers);
    bounded = omega (arith, s.bounded, left-ended n a _ _ e p.lowers);
  }

  module _ (items : Contents Item) (is : a ≡ next.Batch items) where
    given_next : Answered gi (next.Batch items) d.intake j
    given_next = subst (λ (x : Next). Answered gi x d.intake j) is p

    -- the run is as it was, and the batch that was given is its next one
    pub same_before : IsTrue (gi.tells j) → gi.given j - (d.report.taken + 1) ≡ gi.given d.intake - d.report.taken
    same_before t = omega (arith, (given_next.gives t).0)

    pub next_of_run : IsTrue (gi.tells j) → slice_get (drop (gi.given j - (d.report.taken + 1)) (gi.batches j)) d.report.taken ≡ Some items.list
    next_of_run t =
        let at : (gi.given d.intake - d.report.taken) + d.report.taken ≡ gi.given d.intake = omega (arith, s.given (p.told t)) in
        ap (λ (g : ℕ). slice_get (drop g (gi.batches j)) d.report.taken) (same_before t)
        ∙ ap (λ (bs : List (List Item)). slice_get (drop (gi.given d.intake - d.report.taken) bs) d.report.taken) (p.same t)
        ∙ slice_get-drop (gi.given d.intake - d.report.taken) (gi.batches d.intake) d.report.taken
        ∙ ap (slice_get (gi.batches d.intake)) at
        ∙ (given_next.gives t).1
