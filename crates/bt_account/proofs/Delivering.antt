-- A run in which nothing failed delivered what it took.
use Rattle.std.proofs.Common.{◌≡◌, ℕ, zero, suc, ◌+◌, ◌-◌, ◌<◌, ◌≤◌, Bool, true, false, cond, eqb, ltb, ◌&&◌, List, [], ◌∷◌, ◌++◌, length, get_or, ◌⊎◌, arith, refl, sym, ap, ◌∙◌, subst, inl, inr, IsTrue, None}
use Rattle.std.specs.Prelude.{flat_map, if◌then◌else◌}
use Rattle.std.specs.List.{AllByRecursion, count_by}
use Rattle.std.proofs.lemmas.Bool.{eqb-true}
use Rattle.std.proofs.lemmas.Bool.Decides.{nat_tests}
use Rattle.std.proofs.lemmas.List.Sums.{sum_by-cons}
use Rattle.bt_account.specs.Delivered.{AllDelivered, HasDelivered, IsDelivered, owed_leaves, WentWell}
use Rattle.bt_account.specs.Ended.{TookAll}
use Rattle.bt_account.proofs.Owing.{at_before, clean_met, met_not_lost, none_lost}
use Rattle.bt_carry.specs.Account.{Account, AllTell, Answered, Became, Closed, IsPutFor, Put, verdict_on, why_on}
use Rattle.bt_carry.specs.Settled.{all_accepted, all_refused, settled, state_among}
use Rattle.bt_carry.proofs.Verdicts.{tree_settled}
use Rattle.bt_demand.specs.Asked.{asked, IsClean, owed}
use Rattle.bt_demand.specs.Holding.{one_if}
use Rattle.bt_demand.specs.Outcomes.{lost, met}
use Rattle.bt_demand.specs.Parts.{Part}
use Rattle.bt_demand.specs.Recorded.{recorded}
use Rattle.bt_demand.specs.declared.demand.State.{State}
use Rattle.bt_demand.specs.declared.demand.State.TheVariants.{Good}
use Rattle.bt_demand.specs.declared.derive.Derive as Derive
use Rattle.bt_floor.specs.declared.making.Parts.{Parts}
use Rattle.bt_leaves.specs.LeafAt.{LeafAt}
use Rattle.bt_ledger.specs.Due.{times}
use Rattle.bt_ledger.specs.Open.{tree_of}
use Rattle.bt_ledger.specs.Verdicts.{lost_from, verdict_by, why_by}
use Rattle.bt_ports.specs.declared.outside.Answerer as Answerer
use Rattle.bt_ports.specs.declared.outside.Clock as Clock
use Rattle.bt_ports.specs.declared.outside.Intake as Intake
use Rattle.bt_ports.specs.declared.outside.Sink as Sink
use Rattle.bt_ports.specs.declared.parts.AnswerCall.{AnswerCall}
use Rattle.bt_ports.specs.declared.parts.Cause.TheVariants.{NoMemory}
use Rattle.bt_ports.specs.declared.parts.Item.{Item}
use Rattle.bt_ports.specs.declared.parts.Record.{Record}
use Rattle.bt_ports.specs.declared.parts.Txn.{Txn}
use Rattle.bt_ports.specs.declared.parts.Verdict.{Verdict}
use Rattle.bt_ports.specs.declared.parts.Verdict.TheVariants.{Ack, Refused}
use Rattle.bt_runner.specs.Ran.{HasRun, ending_as}
use Rattle.bt_runner.specs.declared.run.Ran.{Ran}
use Rattle.bt_sound.specs.Answers.{calls_for, is_for}
use Rattle.bt_sound.specs.Counting.{capped, wants_memory}
use Rattle.bt_sound.specs.Course.{GaveAll}
use Rattle.bt_sound.specs.Records.{records_of}
use Rattle.bt_sound.proofs.Lists.{each_map}

both_true : (a b : Bool) → (a && b) ≡ true → a ≡ true
both_true true b e = refl
both_true false b e = cc

either : (b : Bool) → (b ≡ true) ⊎ (b ≡ false)
either true = inl refl
either false = inr refl

count_more : (p : AnswerCall → Bool) (c : AnswerCall) (cs : List AnswerCall) → count_by p (c ∷ cs) ≡ cond {A = ℕ} (p c) 1 0 + count_by p cs
count_more p c cs = sum_by-cons (λ x. cond {A = ℕ} (p x) 1 0) c cs

-- an item that was refused for want of memory counts
wanting : (n i : ℕ) (cs : List AnswerCall) → 1 ≤ calls_for n i cs → AllByRecursion (λ c. c.number ≡ n → (c.verdict ≡ Refused NoMemory) × (c.why ≡ [])) cs → 1 ≤ count_by (λ (c : AnswerCall). wants_memory c.verdict) cs
wanting n i [] h k = absurd (omega arith)
wanting n i (c ∷ cs) h k =
    let m : count_by (λ (x : AnswerCall). wants_memory x.verdict) (c ∷ cs) ≡ cond {A = ℕ} (wants_memory c.verdict) 1 0 + count_by (λ (x : AnswerCall). wants_memory x.verdict) cs = count_more (λ (x : AnswerCall). wants_memory x.verdict) c cs in
    elim (either (is_for n i c)) [
      | inl e ↦
          (let v = (k.0 (eqb-true c.number n (both_true (eqb c.number n) (eqb c.item i) e))).0 in
          let w : cond {A = ℕ} (wants_memory c.verdict) 1 0 ≡ 1 = ap (λ (x : Verdict). cond {A = ℕ} (wants_memory x) 1 0) v in
          omega arith)
      | inr e ↦
          (let z = ap one_if e in
          let r = wanting n i cs (omega arith) k.1 in
          omega arith)
    ]

-- where no sink refused anything, no record was refused
none_in : {K : Type 0} (f : K → List Record) (ks : List K) → ((k : ℕ) (d : K) → k < length ks → f (get_or ks k d) ≡ []) → flat_map f ks ≡ []
none_in f [] h = refl
none_in f (x ∷ xs) h = ap (λ (rs : List Record). rs ++ flat_map f xs) (h 0 x (omega arith)) ∙ none_in f xs (λ k d w. h (suc k) d (omega arith))

lt_zero : (n : ℕ) → ltb 0 (suc n) ≡ true
lt_zero n = grind (arith, nat_tests)

good_state : (a : ℕ) (x : State) → 1 ≤ a → (if ltb 0 a then Good else x) ≡ Good
good_state zero x h = absurd (omega arith)
good_state (suc a) x h = ap (λ v. if v then Good else x) (lt_zero a)

one_some : (n : ℕ) → 1 ≤ n → one_if (ltb 0 n) ≡ 1
one_some zero h = absurd (omega arith)
one_some (suc n) h = ap one_if (lt_zero n)

module _ {K A : Type 0} (gk : Sink.Ghosts K) (ga : Answerer.Ghosts A) (ks : List K) (a : A) (t : Txn) (ps : List Part) (none : all_refused gk ks ≡ []) (clean : (p : ℕ) → IsClean (tree_of ps p)) where
  abbrev look : ℕ → ℕ → State
  look p = state_among (all_accepted gk ks) (all_refused gk ks) t.number p

  tree_is : (p : ℕ) → tree_of (settled gk ks t.number ps) p ≡ recorded (look p) (tree_of ps p)
  tree_is p = tree_settled (all_accepted gk ks) (all_refused gk ks) t.number 0 ps p ∙ ap (λ j. recorded (state_among (all_accepted gk ks) (all_refused gk ks) t.number j) (tree_of ps p)) (let z : 0 + p ≡ p = omega arith in z)

  none_refused : (p l : ℕ) → records_of t.number p l (all_refused gk ks) ≡ 0
  none_refused p l = ap (λ rs. records_of t.number p l rs) none

  own_before : (k : ℕ) (r : Record) → IsPutFor k (settled gk ks t.number ps) r → IsPutFor k ps r
  own_before k r h = record { over = h.over; leaf = at_before (look r.part) None r.leaf k r.bytes h.over (tree_of ps r.part) (subst (λ u. LeafAt None r.leaf k r.bytes h.over u) (tree_is r.part) h.leaf); batch = h.batch }

  module _ (put : Put gk ks t.number (settled gk ks t.number ps)) where
    asked_counts : (p l : ℕ) → records_of t.number p l (all_accepted gk ks) ≡ times l (asked (recorded (look p) (tree_of ps p)))
    asked_counts p l = let x = put.each p l in let z = none_refused p l in let e = ap (λ u. times l (asked u)) (tree_is p) in omega arith

    asked_good : (p l : ℕ) → 1 ≤ times l (asked (recorded (look p) (tree_of ps p))) → look p l ≡ Good
    asked_good p l w = let e = asked_counts p l in good_state (records_of t.number p l (all_accepted gk ks)) _ (omega arith)

    is_met : (p : ℕ) → (met (recorded (look p) (tree_of ps p)) ≡ true) × (asked (recorded (look p) (tree_of ps p)) ≡ owed_leaves (owed (tree_of ps p)))
    is_met p = clean_met (look p) (tree_of ps p) (clean p) (asked_good p)

    nothing_lost : (i : ℕ) → lost_from i 0 (settled gk ks t.number ps) ≡ None
    nothing_lost i = none_lost i 0 (settled gk ks t.number ps) (λ q. ap lost (tree_is q) ∙ met_not_lost (recorded (look q) (tree_of ps q)) (is_met q).0)

    delivered_by : Answered t.number (length t.items.list) (verdict_on (settled gk ks t.number ps)) (why_on (settled gk ks t.number ps)) (ga.calls a) → IsDelivered gk ga ks a t ps
    delivered_by h = record {
      acknowledged = record {
        once = h.once;
        says = each_map (λ (c : AnswerCall). c.number ≡ t.number → (c.verdict ≡ verdict_on (settled gk ks t.number ps) c.item) × (c.why ≡ why_on (settled gk ks t.number ps) c.item)) (λ (c : AnswerCall). c.number ≡ t.number → (c.verdict ≡ Ack) × (c.why ≡ [])) (ga.calls a)
            (λ c w e. ((w e).0 ∙ ap (λ o. verdict_by (settled gk ks t.number ps) o) (nothing_lost c.item), (w e).1 ∙ ap (λ o. why_by (settled gk ks t.number ps) o) (nothing_lost c.item))) h.says;
      };
      accepted = λ p l. asked_counts p l ∙ ap (λ ls. times l ls) (is_met p).1;
      own = λ k d w. (
        each_map (λ r. r.txn ≡ t.number → IsPutFor k (settled gk ks t.number ps) r) (λ r. r.txn ≡ t.number → IsPutFor k ps r) (gk.accepted (get_or ks k d)) (λ r x e. own_before k r (x e)) (put.own k d w).0,
        each_map (λ r. r.txn ≡ t.number → IsPutFor k (settled gk ks t.number ps) r) (λ r. r.txn ≡ t.number → IsPutFor k ps r) (gk.refused (get_or ks k d)) (λ r x e. own_before k r (x e)) (put.own k d w).1,
      );
    }

  -- it had its memory, since an item of it would count else
  became_delivered : (b : Bool) (c : ℕ) → 1 ≤ length t.items.list → c ≡ 0 → c ≡ capped (count_by (λ (x : AnswerCall). wants_memory x.verdict) (ga.calls a)) → Became gk ga ks a t.number (length t.items.list) ps b → IsDelivered gk ga ks a t ps
  became_delivered true c w z e h =
      let once : calls_for t.number 0 (ga.calls a) ≡ one_if (ltb 0 (length t.items.list)) = h.0.once 0 in
      let some : one_if (ltb 0 (length t.items.list)) ≡ 1 = one_some (length t.items.list) w in
      let k = wanting t.number 0 (ga.calls a) (omega arith) h.0.says in
      absurd (omega arith)
  became_delivered false c w z e h = delivered_by h.1 h.0

module _ {I K A C D : Type 0} (gi : Intake.Ghosts I) (gk : Sink.Ghosts K) (ga : Answerer.Ghosts A) (gc : Clock.Ghosts C) (gd : Derive.Ghosts D) where
  one_delivered : (plan : D) (r : Ran I K A C) (n : ℕ) → Account gi gk ga gc gd (ending_as plan r) r.parts.sinks.list r.parts.answerer r.report.counts → WentWell gi gk gc gd plan r → Closed gi gk ga gc gd (ending_as plan r) r.parts.sinks.list r.parts.answerer n → HasDelivered gi gk ga gc gd plan r n
  one_delivered plan r n account well h = record {
    txn = h.txn;
    is = h.is;
    number = h.number;
    delivered = λ w. became_delivered gk ga r.parts.sinks.list r.parts.answerer h.txn (gd.parts plan h.txn) (none_in gk.refused r.parts.sinks.list (λ k d v. account.faults k d v (well.sinks k d v))) (well.clean h.txn h.is) h.without_memory r.report.counts.refused_memory w well.memory account.counted.refused_memory
        (subst (λ m. Became gk ga r.parts.sinks.list r.parts.answerer m (length h.txn.items.list) (gd.parts plan h.txn) h.without_memory) (sym h.number) h.became);
  }

  pub all_delivered : (plan : D) (p : Parts I K A C) (r : Ran I K A C) → HasRun gi gk ga gc gd plan p r → AllTell gi gk ga gc (ending_as plan r) r.parts.sinks.list r.parts.answerer → WentWell gi gk gc gd plan r → AllDelivered gi gk ga gc gd plan r
  all_delivered plan p r h tell well =
      let account = h.account tell in
      record { each = λ n w v. one_delivered plan r n account well (account.closed n w v); refused = λ k d w. account.faults k d w (well.sinks k d w); order = λ q. (h.order q tell).accepted }

  pub took_all : (plan : D) (p : Parts I K A C) (r : Ran I K A C) → HasRun gi gk ga gc gd plan p r → IsTrue (gi.tells r.parts.intake) → TookAll gi p r
  took_all plan p r h tell =
      let whole = h.course.whole tell in
      let given = h.course.given tell in
      let before = h.run.before tell in
      let e : gi.given r.parts.intake ≡ gi.given p.intake + r.report.taken = omega arith in
      subst (λ (bs : List (List Item)). GaveAll r.report.ending (gi.given p.intake + r.report.taken) (length bs)) (h.run.batches tell) (subst (λ n. GaveAll r.report.ending n (length (gi.batches r.parts.intake))) e whole)
