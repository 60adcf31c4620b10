-- The end of a run, from what stands of its desk.
use Rattle.std.proofs.Common.{◌≡◌, ℕ, ◌<◌, ◌≤◌, List, [], length, get_or, sym, ap, ◌∙◌, subst, Option, IsSome, IsTrue}
use Rattle.bt_carry.specs.Account.{Account, AllTell}
use Rattle.bt_carry.specs.Calls.{EndedWith, ReadForEach}
use Rattle.bt_carry.specs.Order.{AllOrdered, AnsweredInOrder, OrderedSoFar, PutSoFar}
use Rattle.bt_demand.specs.declared.derive.Derive as Derive
use Rattle.bt_floor.specs.Calls.{NothingAnswered, NothingPut, SameRun}
use Rattle.bt_floor.specs.declared.making.Parts.{Parts}
use Rattle.bt_ports.specs.declared.outside.Answerer as Answerer
use Rattle.bt_ports.specs.declared.outside.Clock as Clock
use Rattle.bt_ports.specs.declared.outside.Intake as Intake
use Rattle.bt_ports.specs.declared.outside.Sink as Sink
use Rattle.bt_runner.specs.Ran.{HasRun, beginning, ending_as}
use Rattle.bt_runner.specs.declared.run.Ran.{Ran}
use Rattle.bt_sound.specs.Course.{Course}
use Rattle.bt_sound.specs.View.{FloorView, Outside}
use Rattle.bt_sound.specs.declared.counts.Counts.{Counts}
use Rattle.bt_sound.specs.declared.counts.Ending.{Ending}

-- what stands outside, by its fields
pub outside_is : {I C D : Type 0} (o : Outside I C D) (p : D) (i : I) (c : C) (t : ℕ) (e : Option Ending) (m : ℕ) → p ≡ o.plan → i ≡ o.intake → c ≡ o.clock → t ≡ o.taken → e ≡ o.ending → m ≡ o.refused_memory
    → record { plan = p; intake = i; clock = c; taken = t; ending = e; refused_memory = m } ≡ o
outside_is {I} {C} {D} o p i c t e m a b d f h k =
    let A : Type 0 = Outside I C D in
    ap {B = A} (λ x. record { plan = x; intake = i; clock = c; taken = t; ending = e; refused_memory = m }) a
    ∙ (ap {B = A} (λ x. record { plan = o.plan; intake = x; clock = c; taken = t; ending = e; refused_memory = m }) b
    ∙ (ap {B = A} (λ x. record { plan = o.plan; intake = o.intake; clock = x; taken = t; ending = e; refused_memory = m }) d
    ∙ (ap {B = A} (λ x. record { plan = o.plan; intake = o.intake; clock = o.clock; taken = x; ending = e; refused_memory = m }) f
    ∙ (ap {B = A} (λ x. record { plan = o.plan; intake = o.intake; clock = o.clock; taken = o.taken; ending = x; refused_memory = m }) h
    ∙ ap {B = A} (λ x. record { plan = o.plan; intake = o.intake; clock = o.clock; taken = o.taken; ending = o.ending; refused_memory = x }) k))))

module _ {I K A C D : Type 0} (gi : Intake.Ghosts I) (gk : Sink.Ghosts K) (ga : Answerer.Ghosts A) (gc : Clock.Ghosts C) (gd : Derive.Ghosts D) where
  abbrev Accounts : Outside I C D → List K → A → Counts → Type 0
  Accounts o ks a c = AllTell gi gk ga gc o ks a → Account gi gk ga gc gd o ks a c

  abbrev Orders : Outside I C D → List K → A → Type 0
  Orders o ks a = AllTell gi gk ga gc o ks a → AllOrdered gi gk ga gc gd o ks a

  -- nothing was put or answered yet
  pub begins_ordered : (plan : D) (p : Parts I K A C) (f : FloorView I K A C D) → f.outside.plan ≡ plan → f.ledger.policies ≡ gd.policies plan → f.sinks ≡ p.sinks.list → f.answerer ≡ p.answerer → f.outside.taken ≡ 0 → NothingPut gk p.sinks.list → NothingAnswered ga p.answerer → gd.policies plan ≡ [] → OrderedSoFar gi gk ga gc gd f
  begins_ordered plan p f over pol s a none put answered q = record {
    plan = ap gd.policies over ∙ q;
    unheld = pol ∙ q;
    accepted = λ ti tc k d w t. (let e = subst (λ ks. k < length ks → IsTrue (gk.tells (get_or ks k d)) → (gk.accepted (get_or ks k d) ≡ []) × (gk.refused (get_or ks k d) ≡ [])) (sym s) (put d k) in
        subst (λ rs. PutSoFar gi gc gd f.outside rs) (sym (e w t).0) (tt, tt));
    refused = λ ti tc k d w t. (let e = subst (λ ks. k < length ks → IsTrue (gk.tells (get_or ks k d)) → (gk.accepted (get_or ks k d) ≡ []) × (gk.refused (get_or ks k d) ≡ [])) (sym s) (put d k) in
        subst (λ rs. PutSoFar gi gc gd f.outside rs) (sym (e w t).1) (tt, tt));
    answers = λ ti tc t. (let e = subst (λ x. IsTrue (ga.tells x) → ga.calls x ≡ []) (sym a) answered in subst (λ j. AnsweredInOrder gi gc gd f.outside j (ga.calls f.answerer)) (sym none) (e t));
  }

  pub all_ordered : (f : FloorView I K A C D) → OrderedSoFar gi gk ga gc gd f → Orders f.outside f.sinks f.answerer
  all_ordered f h = λ tell. record {
    accepted = λ k d w. (h.accepted tell.intake tell.clock k d w (tell.sinks k d w)).0;
    refused = λ k d w. (h.refused tell.intake tell.clock k d w (tell.sinks k d w)).0;
    answers = h.answers tell.intake tell.clock tell.answerer;
  }

  -- a run is over where its desk stands so
  pub has_run : (plan : D) (p : Parts I K A C) (r : Ran I K A C) (f : FloorView I K A C D) → ending_as plan r ≡ f.outside → r.parts.sinks.list ≡ f.sinks → r.parts.answerer ≡ f.answerer → r.report.counts ≡ f.counts
      → IsSome f.outside.ending → EndedWith f.outside.ending (gi.faults p.intake) (gi.faults f.outside.intake) → SameRun gi gc (beginning plan p) f.outside → Course gi gc f.outside → ReadForEach gc f.outside
      → length f.sinks ≡ gd.sinks plan → Accounts f.outside f.sinks f.answerer f.counts → (gd.policies plan ≡ [] → Orders f.outside f.sinks f.answerer) → HasRun gi gk ga gc gd plan p r
  has_run plan p r f e s a n ended faults run course read many account order = record {
    ended = subst (λ (o : Outside I C D). IsSome o.ending) (sym e) ended;
    faults = subst (λ (o : Outside I C D). EndedWith o.ending (gi.faults p.intake) (gi.faults o.intake)) (sym e) faults;
    run = subst (λ (o : Outside I C D). SameRun gi gc (beginning plan p) o) (sym e) run;
    course = subst (λ (o : Outside I C D). Course gi gc o) (sym e) course;
    read = subst (λ (o : Outside I C D). ReadForEach gc o) (sym e) read;
    sinks = ap length s ∙ many;
    account = subst (λ (o : Outside I C D). Accounts o r.parts.sinks.list r.parts.answerer r.report.counts) (sym e)
        (subst (λ ks. Accounts f.outside ks r.parts.answerer r.report.counts) (sym s)
        (subst (λ x. Accounts f.outside f.sinks x r.report.counts) (sym a)
        (subst (λ x. Accounts f.outside f.sinks f.answerer x) (sym n) account)));
    order = λ q. subst (λ (o : Outside I C D). Orders o r.parts.sinks.list r.parts.answerer) (sym e)
        (subst (λ ks. Orders f.outside ks r.parts.answerer) (sym s)
        (subst (λ x. Orders f.outside f.sinks x) (sym a) (order q)));
  }
