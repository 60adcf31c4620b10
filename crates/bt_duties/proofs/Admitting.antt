-- What an admission does, by what its moves do.
use Rattle.std.proofs.Common.{◌≡◌, ◌≢◌, ℕ, ◌+◌, ◌<◌, ◌≤◌, List, [], length, set, arith, refl, sym, ap, ◌∙◌, subst, IsTrue, Some, None, get_or-set_same, get_or-set_other}
use Rattle.bt_chains.specs.declared.Entry.{Entry}
use Rattle.bt_duties.specs.Calls.{NothingReleased, NothingSettled, Took, WasFull, Stopped, Admits}
use Rattle.bt_duties.specs.DeskView.{DeskView}
use Rattle.bt_duties.specs.Duties.{idle, duty_at}
use Rattle.bt_duties.specs.declared.admit.Admit.{Admit}
use Rattle.bt_duties.specs.declared.admit.Admit.TheVariants as admit
use Rattle.bt_duties.specs.declared.duty.Duty.{Duty}
use Rattle.bt_demand.specs.declared.routes.HoldPolicy.{HoldPolicy}
use Rattle.bt_floor.specs.Calls.{EndFaults, Ends, SameRun, Takes}
use Rattle.bt_ledger.specs.Ledger.{Ledger, chain_at, opened}
use Rattle.bt_moves.specs.Resting.{Emptied, NoneWaitedOut, StaysUnlessPast}
use Rattle.bt_moves.proofs.Periods.{empty_past, none_past}
use Rattle.bt_ports.specs.Faults.{last_count, one_more}
use Rattle.bt_ports.specs.declared.outside.Clock as Clock
use Rattle.bt_ports.specs.declared.outside.Intake as Intake
use Rattle.bt_ports.specs.declared.parts.Txn.{Txn}
use Rattle.bt_sound.specs.Transactions.{IsTransaction}
use Rattle.bt_sound.specs.View.{FloorView, Outside}
use Rattle.bt_sound.specs.declared.counts.Ending.{Ending}
use Rattle.bt_sound.specs.declared.counts.Ending.TheVariants as ending

-- a transaction was taken, and what waited for its period was released
pub took_taken : {I K A C D : Type 0} (gi : Intake.Ghosts I) (gc : Clock.Ghosts C) (d : DeskView I K A C D) (f g : FloorView I K A C D) (k s : ℕ) (t : Txn) → k < length d.duties → opened d.floor.ledger < d.window → Takes gi gc d.floor f s t
    → g.outside ≡ f.outside → NoneWaitedOut g.ledger t.moment → StaysUnlessPast t.moment f.ledger g.ledger → (NoneWaitedOut f.ledger t.moment → g ≡ f)
    → Took gi gc k d (record d { floor = g; duties = set d.duties k (record { number = t.number; items = length t.items.list; slot = s }) }) t
took_taken gi gc d f g k s t w v take e none stays unless =
    let same : duty_at (set d.duties k (record { number = t.number; items = length t.items.list; slot = s })) k ≡ record { number = t.number; items = length t.items.list; slot = s } = get_or-set_same d.duties k (record { number = t.number; items = length t.items.list; slot = s }) idle w in
    record {
      number = take.number;
      taken = ap (λ (o : Outside _ _ _). o.taken) e ∙ take.taken;
      is = subst (λ (o : Outside _ _ _). IsTrue (gi.tells o.intake) → IsTrue (gc.tells o.clock) → gc.made o.clock < last_count → IsTransaction gi gc o t) (sym e) take.is;
      some = take.some;
      few = take.few;
      out_number = ap (λ (x : Duty). x.number) same;
      out_items = ap (λ (x : Duty). x.items) same;
      others = λ j n. get_or-set_other d.duties k j (record { number = t.number; items = length t.items.list; slot = s }) idle n;
      goes = ap (λ (o : Outside _ _ _). o.ending) e ∙ take.goes;
      fault = ap (λ (o : Outside _ _ _). gi.faults o.intake) e ∙ take.fault;
      made = subst (λ (o : Outside _ _ _). IsTrue (gc.tells o.clock) → gc.made o.clock ≡ one_more (gc.made d.floor.outside.clock)) (sym e) take.made;
      run = subst (λ (o : Outside _ _ _). SameRun gi gc d.floor.outside o) (sym e) take.run;
      none = none;
      stays = λ _. subst (λ (q : Ledger). StaysUnlessPast t.moment q g.ledger) take.ledger stays;
      unless = λ _ h.
          (let z = unless (subst (λ (q : Ledger). NoneWaitedOut q t.moment) (sym take.ledger) h) in
          record {
            chains = ap (λ (x : FloorView _ _ _ _ _). x.ledger.chains) z ∙ ap (λ (q : Ledger). q.chains) take.ledger;
            sinks = ap (λ (x : FloorView _ _ _ _ _). x.sinks) z ∙ take.sinks;
            answerer = ap (λ (x : FloorView _ _ _ _ _). x.answerer) z ∙ take.answerer;
            releases = ap (λ (x : FloorView _ _ _ _ _). x.releases) z ∙ take.releases;
            counts = ap (λ (x : FloorView _ _ _ _ _). x.counts) z ∙ take.counts;
          });
      flushed = λ x. absurd (omega arith);
    }

-- what became of a desk as a place was made: nothing where a slot was free, and else all chains were emptied
pub record MadePlace {I K A C D : Type 0} (d m : DeskView I K A C D) : Type 0 where
  pub place : opened m.floor.ledger < m.window
  pub same : opened d.floor.ledger < d.window → m ≡ d
  pub flushed : d.window ≤ opened d.floor.ledger → Emptied m.floor.ledger
  pub outside : m.floor.outside ≡ d.floor.outside
  pub duties : m.duties ≡ d.duties

took_from : {I K A C D : Type 0} (gi : Intake.Ghosts I) (gc : Clock.Ghosts C) (k : ℕ) (d m e : DeskView I K A C D) (t : Txn) → MadePlace d m → Took gi gc k m e t → Took gi gc k d e t
took_from gi gc k d m e t p h = record {
  number = h.number ∙ ap (λ (o : Outside _ _ _). o.taken + 1) p.outside;
  taken = h.taken ∙ ap (λ (o : Outside _ _ _). o.taken + 1) p.outside;
  is = h.is;
  some = h.some;
  few = h.few;
  out_number = h.out_number;
  out_items = h.out_items;
  others = λ j n. h.others j n ∙ ap (λ (ds : List Duty). duty_at ds j) p.duties;
  goes = h.goes;
  fault = h.fault ∙ ap (λ (o : Outside _ _ _). gi.faults o.intake) p.outside;
  made = λ x. h.made x ∙ ap (λ (o : Outside _ _ _). one_more (gc.made o.clock)) p.outside;
  run = subst (λ (o : Outside _ _ _). SameRun gi gc o e.floor.outside) p.outside h.run;
  none = h.none;
  stays = λ w. subst (λ (x : DeskView _ _ _ _ _). StaysUnlessPast t.moment x.floor.ledger e.floor.ledger) (p.same w) (h.stays p.place);
  unless = λ w. subst (λ (x : DeskView _ _ _ _ _). NoneWaitedOut x.floor.ledger t.moment → NothingReleased x.floor e.floor) (p.same w) (h.unless p.place);
  flushed = λ w n. (let z = p.flushed w in h.stays p.place n (λ j _. empty_past m.floor.ledger j t.moment (z j)) ∙ z n);
}

stopped_from : {I K A C D : Type 0} (gi : Intake.Ghosts I) (gc : Clock.Ghosts C) (d m e : DeskView I K A C D) (x : Ending) → MadePlace d m → Stopped gi gc m e x → Stopped gi gc d e x
stopped_from gi gc d m e x p h = record {
  ending = h.ending;
  fault = subst (λ (o : Outside _ _ _). EndFaults x (gi.faults o.intake) (gi.faults e.floor.outside.intake)) p.outside h.fault;
  taken = h.taken ∙ ap (λ (o : Outside _ _ _). o.taken) p.outside;
  clock = h.clock ∙ ap (λ (o : Outside _ _ _). o.clock) p.outside;
  duties = h.duties ∙ p.duties;
  run = subst (λ (o : Outside _ _ _). SameRun gi gc o e.floor.outside) p.outside h.run;
  only = λ w. subst (λ (y : DeskView _ _ _ _ _). e.floor ≡ record y.floor { outside = e.floor.outside }) (p.same w) (h.only p.place);
  flushed = λ w n. ap (λ (y : FloorView _ _ _ _ _). chain_at y.ledger n) (h.only p.place) ∙ p.flushed w n;
}

-- an admission after a place was made
pub admits_from : {I K A C D : Type 0} (gi : Intake.Ghosts I) (gc : Clock.Ghosts C) (k : ℕ) (r : Admit) (d m e : DeskView I K A C D) → MadePlace d m → Admits gi gc k r m e → Admits gi gc k r d e
admits_from gi gc k (admit.Job t) d m e p h = took_from gi gc k d m e t p h
admits_from gi gc k admit.Full d m e p h = let a = h.full in let b = p.place in absurd (omega arith)
admits_from gi gc k admit.Ended d m e p h = stopped_from gi gc d m e ending.Ended p h
admits_from gi gc k admit.ReadFault d m e p h = stopped_from gi gc d m e ending.ReadFault p h
admits_from gi gc k (admit.LongLine n) d m e p h = stopped_from gi gc d m e (ending.LongLine n) p h
admits_from gi gc k admit.Bound d m e p h = stopped_from gi gc d m e ending.Bound p h
admits_from gi gc k admit.NoMemory d m e p h = stopped_from gi gc d m e ending.NoMemory p h

-- where there are no holds, nothing is settled at an admission
pub taken_unheld : {I K A C D : Type 0} (gi : Intake.Ghosts I) (gc : Clock.Ghosts C) (f m g : FloorView I K A C D) (s : ℕ) (t : Txn) → Takes gi gc f m s t → (NoneWaitedOut m.ledger t.moment → g ≡ m) → f.ledger.policies ≡ [] → NothingSettled f g
taken_unheld gi gc f m g s t take unless e =
    let z : length m.ledger.policies ≡ 0 = ap (λ (l : Ledger). length l.policies) take.ledger ∙ ap (λ (x : List HoldPolicy). length x) e in
    let q = unless (none_past m.ledger 0 t.moment (omega arith) (λ n w. absurd (omega arith))) in
    record { sinks = ap (λ (x : FloorView _ _ _ _ _). x.sinks) q ∙ take.sinks; answerer = ap (λ (x : FloorView _ _ _ _ _). x.answerer) q ∙ take.answerer }

pub ended_unheld : {I K A C D : Type 0} (gi : Intake.Ghosts I) (gc : Clock.Ghosts C) (f g : FloorView I K A C D) (e : Ending) → Ends gi gc f g e → NothingSettled f g
ended_unheld gi gc f g e h = record { sinks = ap (λ (x : FloorView _ _ _ _ _). x.sinks) h.only; answerer = ap (λ (x : FloorView _ _ _ _ _). x.answerer) h.only }

pub same_unheld : {I K A C D : Type 0} (f g : FloorView I K A C D) → g ≡ f → NothingSettled f g
same_unheld f g e = record { sinks = ap (λ (x : FloorView _ _ _ _ _). x.sinks) e; answerer = ap (λ (x : FloorView _ _ _ _ _). x.answerer) e }

pub place_unheld : {I K A C D : Type 0} (f m g : FloorView I K A C D) → (f.ledger.policies ≡ [] → m ≡ f) → (m.ledger.policies ≡ [] → NothingSettled m g) → f.ledger.policies ≡ [] → NothingSettled f g
place_unheld f m g same h e = let z = same e in subst (λ x. NothingSettled x g) z (h (ap (λ (x : FloorView _ _ _ _ _). x.ledger.policies) z ∙ e))
