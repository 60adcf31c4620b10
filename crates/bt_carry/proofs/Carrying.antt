-- Steps of a run of one duty.
use Rattle.std.proofs.Common.{◌≡◌, ℕ, zero, suc, ◌+◌, ◌-◌, ◌<◌, ◌^◌, List, [], ◌∷◌, length, slice_get, arith, refl, sym, ap, ◌∙◌, subst, Option, Some, Result, Ok, Err, IfOk, IsTrue}
use Rattle.bt_carry.specs.Calls.{EndedWith, GoesOn, ReadsItems}
use Rattle.bt_demand.specs.Parts.{Part}
use Rattle.bt_demand.specs.declared.derive.Derive as Derive
use Rattle.bt_duties.specs.Calls.{Admits, Stopped, Took}
use Rattle.bt_duties.specs.DeskView.{DeskView}
use Rattle.bt_duties.specs.Duties.{duty_at, AllIdle}
use Rattle.bt_duties.specs.declared.admit.Admit.{Admit}
use Rattle.bt_duties.specs.declared.admit.Admit.TheVariants as admit
use Rattle.bt_duties.specs.declared.duty.Duty.{Duty}
use Rattle.bt_floor.specs.Calls.{SameRun}
use Rattle.bt_ports.specs.Clock.{reading_at}
use Rattle.bt_ports.specs.Faults.{last_count, one_more}
use Rattle.bt_ports.specs.declared.outside.Clock as Clock
use Rattle.bt_ports.specs.declared.outside.Intake as Intake
use Rattle.bt_ports.specs.declared.parts.Item.{Item}
use Rattle.bt_ports.specs.declared.parts.Txn.{Txn}
use Rattle.bt_sound.specs.Transactions.{Derived, IsTransaction}
use Rattle.bt_sound.specs.View.{Outside}
use Rattle.bt_sound.specs.declared.counts.Ending.{Ending}
use Rattle.bt_sound.specs.declared.counts.Ending.TheVariants as ending

pub if_ok_each : {T E : Type 0} (P Q : T → Type 0) (r : Result T E) → ((x : T) → P x → Q x) → IfOk r P → IfOk r Q
if_ok_each P Q (Ok x) f h = f x h
if_ok_each P Q (Err e) f h = tt

pub some_same : (xs ys : List Item) (o : Option (List Item)) → o ≡ Some xs → o ≡ Some ys → xs ≡ ys
some_same xs ys o e f = let z : Some xs ≡ Some ys = sym e ∙ f in cc

module _ {I C D : Type 0} (gi : Intake.Ghosts I) (gc : Clock.Ghosts C) where
  -- the parts of the transaction are those of each transaction of the run that has its number
  pub derived_by : (gd : Derive.Ghosts D) (f : Outside I C D) (plan : D) (n : ℕ) (t : Txn) (ps : List Part) → f.plan ≡ plan → ReadsItems gd plan → n ≡ t.number
      → (IsTrue (gi.tells f.intake) → IsTrue (gc.tells f.clock) → gc.made f.clock < last_count → IsTransaction gi gc f t) → ps ≡ gd.parts plan t → Derived gi gc gd f n ps
  derived_by gd f plan n t ps same reads number is e = λ x y z u h m.
      let w = is x y z in
      let k : u.number ≡ t.number = m ∙ number in
      let items = some_same t.items.list u.items.list (slice_get (gi.batches f.intake) (gi.given f.intake - f.taken + (t.number - 1))) w.batch
      (ap (λ j. slice_get (gi.batches f.intake) (gi.given f.intake - f.taken + (j - 1))) (sym k) ∙ h.batch) in
      let moment = w.moment ∙ (ap (λ j. reading_at (gc.readings f.clock) (gc.made f.clock - f.taken + (j - 1))) (sym k) ∙ sym h.moment) in
      e ∙ (reads t u (sym k) moment items ∙ ap (λ p. gd.parts p u) (sym same))

  pub same_run-then : (f g h : Outside I C D) → SameRun gi gc f g → SameRun gi gc g h → SameRun gi gc f h
  same_run-then f g h p q = record {
    plan = q.plan ∙ p.plan;
    told = λ t. p.told (q.told t);
    openings = q.openings ∙ p.openings;
    bounds = q.bounds ∙ p.bounds;
    batches = λ t. q.batches t ∙ p.batches (q.told t);
    inputs = λ t. q.inputs t ∙ p.inputs (q.told t);
    stop = λ t. q.stop t ∙ p.stop (q.told t);
    before = λ t. q.before t ∙ p.before (q.told t);
    clock_told = λ t. p.clock_told (q.clock_told t);
    readings = λ t. q.readings t ∙ p.readings (q.clock_told t);
  }

  pub same_run-same : (f : Outside I C D) → SameRun gi gc f f
  same_run-same f = record {
    plan = refl;
    told = λ t. t;
    openings = refl;
    bounds = refl;
    batches = λ t. refl;
    inputs = λ t. refl;
    stop = λ t. refl;
    before = λ t. refl;
    clock_told = λ t. t;
    readings = λ t. refl;
  }

none_at : (x : Duty) (xs : List Duty) (d : ℕ) → length xs ≡ 0 → x.number ≡ 0 → (duty_at (x ∷ xs) d).number ≡ 0
none_at x [] zero e h = h
none_at x [] (suc d) e h = refl
none_at x (y ∷ ys) d e h = absurd (omega arith)

-- of one duty that is idle, no duty is out
pub none_out : (ds : List Duty) → length ds ≡ 1 → (duty_at ds 0).number ≡ 0 → AllIdle ds
none_out [] e h = λ d. refl
none_out (x ∷ xs) e h = λ d. none_at x xs d (omega arith) h

one_below : (n : ℕ) → n < 2 ^ 56 → one_more n ≡ n + 1
one_below n h = omega arith

module _ {I K A C D : Type 0} (gi : Intake.Ghosts I) (gc : Clock.Ghosts C) where
  -- an admission that gives no transaction, of a desk of which no duty is out, ended the run
  pub stopped_by : (k : ℕ) (r : Admit) (d e : DeskView I K A C D) → ((t : Txn) → r ≡ admit.Job t → ⊥) → AllIdle d.duties → Admits gi gc k r d e → (x : Ending) × Stopped gi gc d e x
  stopped_by k (admit.Job t) d e none free h = absurd (none t refl)
  stopped_by k admit.Full d e none free h = absurd (h.out (free h.busy))
  stopped_by k admit.Ended d e none free h = (ending.Ended, h)
  stopped_by k admit.ReadFault d e none free h = (ending.ReadFault, h)
  stopped_by k (admit.LongLine n) d e none free h = (ending.LongLine n, h)
  stopped_by k admit.Bound d e none free h = (ending.Bound, h)
  stopped_by k admit.NoMemory d e none free h = (ending.NoMemory, h)

  pub ended_with : (d e : DeskView I K A C D) (x : Ending) → Stopped gi gc d e x → EndedWith e.floor.outside.ending (gi.faults d.floor.outside.intake) (gi.faults e.floor.outside.intake)
  ended_with d e x h = subst (λ (o : Option Ending). EndedWith o (gi.faults d.floor.outside.intake) (gi.faults e.floor.outside.intake)) (sym h.ending) h.fault

  pub stopped_goes : (d e : DeskView I K A C D) (x : Ending) → Stopped gi gc d e x → GoesOn gi gc d e
  stopped_goes d e x h = record {
    run = h.run;
    read = λ r t. (let s : IsTrue (gc.tells d.floor.outside.clock) = subst (λ c. IsTrue (gc.tells c)) h.clock t in ap gc.made h.clock ∙ (r s ∙ sym h.taken));
  }

  -- a run goes on while the clock is read once for a transaction
  pub took_goes : (k : ℕ) (d e : DeskView I K A C D) (t : Txn) → e.floor.outside.taken < 2 ^ 56 → Took gi gc k d e t → GoesOn gi gc d e
  took_goes k d e t w h = record {
    run = h.run;
    read = λ r s. (let a = h.made s in let b = r (h.run.clock_told s) in let c = h.taken in
        let m : one_more (gc.made d.floor.outside.clock) ≡ gc.made d.floor.outside.clock + 1 = one_below (gc.made d.floor.outside.clock) (omega arith) in
        omega arith);
  }

  pub goes-then : (d e f : DeskView I K A C D) → GoesOn gi gc d e → GoesOn gi gc e f → GoesOn gi gc d f
  goes-then d e f p q = record { run = same_run-then gi gc d.floor.outside e.floor.outside f.floor.outside p.run q.run; read = λ r. q.read (p.read r) }
