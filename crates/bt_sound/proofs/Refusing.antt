-- A transaction that is out is refused for want of memory, item by item.
use Rattle.std.proofs.Common.{◌≡◌, ◌≢◌, ℕ, zero, suc, ◌+◌, ◌<◌, ◌≤◌, true, false, eqb, not, ◌&&◌, List, [], ◌∷◌, ◌++◌, length, get_or, inl, inr, arith, refl, sym, ap, ◌∙◌, subst, eq-eqb, IsTrue}
use Rattle.std.specs.List.{AllByRecursion}
use Rattle.std.specs.Prelude.{replicate}
use Rattle.std.proofs.lemmas.Bool.Decides.{eqb_tells}
use Rattle.std.proofs.lemmas.List.{length-replicate}
use Rattle.bt_demand.specs.Holding.{one_if}
use Rattle.bt_demand.specs.Untouched.{Untouched}
use Rattle.bt_demand.specs.declared.derive.Derive as Derive
use Rattle.bt_ledger.specs.Calls.{IsOut}
use Rattle.bt_ledger.specs.Due.{unanswered}
use Rattle.bt_ledger.specs.Ledger.{slot_at, number_in, moment_in, items_in, is_free, is_given, open_in, with_slot}
use Rattle.bt_ledger.specs.Open.{Open}
use Rattle.bt_ledger.specs.declared.slot.Slot.TheVariants.{Free}
use Rattle.bt_ledger.proofs.Slots.{given_taken}
use Rattle.bt_moves.specs.Moves.{is_out}
use Rattle.bt_ports.specs.Faults.{last_count}
use Rattle.bt_ports.specs.declared.outside.Answerer as Answerer
use Rattle.bt_ports.specs.declared.outside.Clock as Clock
use Rattle.bt_ports.specs.declared.outside.Intake as Intake
use Rattle.bt_ports.specs.declared.outside.Sink as Sink
use Rattle.bt_ports.specs.declared.parts.AnswerCall.{AnswerCall}
use Rattle.bt_ports.specs.declared.parts.Cause.TheVariants.{NoMemory}
use Rattle.bt_ports.specs.declared.parts.Verdict.TheVariants.{Refused}
use Rattle.bt_sound.specs.Answers.{is_for, calls_for, AnsweredSettled, Called, Says, PastSays, IsRefusal, RefusalsFrom}
use Rattle.bt_sound.specs.Counting.{AnswersCounted, ReleasesSum}
use Rattle.bt_sound.proofs.Course.{same_later, course_same, taken_later, planned_later}
use Rattle.bt_sound.specs.Records.{Told}
use Rattle.bt_sound.specs.Sound.{here, SaysTrue, Sound}
use Rattle.bt_sound.specs.Transactions.{Taken, Planned, Shaped, WasTaken, refused_open}
use Rattle.bt_sound.specs.View.{FloorView, Past}
use Rattle.bt_sound.specs.declared.counts.Counts.{Counts}
use Rattle.bt_sound.proofs.Answered.{for_other, and_no}
use Rattle.bt_sound.proofs.Lists.{each_map, each_both}
use Rattle.bt_sound.proofs.Placing.{in_slots_set, apart_by, gone_by}
use Rattle.bt_sound.proofs.Slots.{close_cases, over_slot, over_trees}
use Rattle.bt_sound.specs.Answers.{RefusedAll, RefusedOne}
use Rattle.bt_sound.specs.Counting.{answer_with, capped, counts_after}
use Rattle.bt_sound.proofs.Counting.{counted_more, summed_answer, refusal_counts}
use Rattle.bt_sound.proofs.Lists.{each_append}
use Rattle.bt_sound.proofs.Owned.{owned_out}
use Rattle.bt_sound.proofs.Placing.{placed_range}
use Rattle.bt_sound.proofs.Taking.{out_answers, out_taken, out_is, out_given, given_no, over_out, each_none}
use Rattle.std.proofs.lemmas.List.{append_assoc, append-nil}

for_none : (cs : List AnswerCall) (n i j : ℕ) → j < i → RefusalsFrom n i cs → calls_for n j cs ≡ 0
for_none [] n i j w h = refl
for_none (c ∷ cs) n i j w h =
    let a = for_none cs n (i + 1) j (omega arith) h.1 in
    let e : is_for n j c ≡ false = and_no (eqb c.number n) (eqb c.item j) (elim (eqb_tells c.item j) [ inl q ↦ (let x = h.0.item in let y = q.1 in absurd (omega arith)) | inr q ↦ q.0 ]) in
    let b = ap one_if e in
    omega arith

is_here : (c : AnswerCall) (n i : ℕ) → IsRefusal n i c → is_for n i c ≡ true
is_here c n i h = rw (eq-eqb c.number n h.number, eq-eqb c.item i h.item) refl

for_each : (cs : List AnswerCall) (n i j : ℕ) → RefusalsFrom n i cs → calls_for n (i + j) cs ≡ one_if (get_or (replicate (length cs) true) j false)
for_each [] n i j h = refl
for_each (c ∷ cs) n i zero h =
    let a = for_none cs n (i + 1) (i + 0) (omega arith) h.1 in
    let z : i + 0 ≡ i = omega arith in
    let b = ap one_if (ap (λ k. is_for n k c) z ∙ is_here c n i h.0) in
    omega arith
for_each (c ∷ cs) n i (suc j) h =
    let z : i + suc j ≡ (i + 1) + j = omega arith in
    let a = ap (λ k. calls_for n k cs) z ∙ for_each cs n (i + 1) j h.1 in
    let e : is_for n (i + suc j) c ≡ false = and_no (eqb c.number n) (eqb c.item (i + suc j)) (elim (eqb_tells c.item (i + suc j)) [ inl q ↦ (let x = h.0.item in let y : c.item ≡ i + suc j = q.1 in absurd (omega arith)) | inr q ↦ q.0 ]) in
    let b = ap one_if e in
    omega arith

for_others : (cs : List AnswerCall) (m n i j : ℕ) → m ≢ n → RefusalsFrom n i cs → calls_for m j cs ≡ 0
for_others [] m n i j d h = refl
for_others (c ∷ cs) m n i j d h = let a = for_others cs m n (i + 1) j d h.1 in let b = ap one_if (for_other m j c (λ e. d (e ∙ h.0.number))) in omega arith

calls_app : (n i : ℕ) (cs ds : List AnswerCall) → calls_for n i (cs ++ ds) ≡ calls_for n i cs + calls_for n i ds
calls_app n i [] ds = omega arith
calls_app n i (c ∷ cs) ds = let a = calls_app n i cs ds in omega arith

refusals_all : (cs : List AnswerCall) (n i : ℕ) → RefusalsFrom n i cs → AllByRecursion (λ c. (c.number ≡ n) × ((c.verdict ≡ Refused NoMemory) × (c.why ≡ []))) cs
refusals_all [] n i h = tt
refusals_all (c ∷ cs) n i h = ((h.0.number, (h.0.verdict, h.0.why)), refusals_all cs n (i + 1) h.1)

all_answered : (n : ℕ) → unanswered (replicate n true) ≡ 0
all_answered zero = refl
all_answered (suc n) = let a = all_answered n in omega arith

counted_all : (ds cs : List AnswerCall) (k : Counts) → AnswersCounted cs k → AnswersCounted (cs ++ ds) (counts_after ds k)
counted_all [] cs k h = subst (λ xs. AnswersCounted xs k) (sym (append-nil cs)) h
counted_all (d ∷ ds) cs k h = subst (λ xs. AnswersCounted xs (counts_after ds (answer_with d.verdict d.failed k))) (append_assoc cs (d ∷ []) ds) (counted_all ds (cs ++ d ∷ []) (answer_with d.verdict d.failed k) (counted_more cs d k h))

summed_all : (ds : List AnswerCall) (rs : List ℕ) (k : Counts) → ReleasesSum rs k → ReleasesSum rs (counts_after ds k)
summed_all [] rs k h = h
summed_all (d ∷ ds) rs k h = summed_all ds rs (answer_with d.verdict d.failed k) (summed_answer rs d.verdict d.failed k h)

called_others : (cs ds : List AnswerCall) (o : Open) (n : ℕ) → o.number ≢ n → RefusalsFrom n 0 ds → Called cs o → Called (cs ++ ds) o
called_others cs ds o n d r h = λ i. (let a = calls_app o.number i cs ds in let b = for_others ds o.number n 0 i d r in let e = h i in omega arith)

pub sound_refuse : {I K A C D : Type 0} (gi : Intake.Ghosts I) (gk : Sink.Ghosts K) (ga : Answerer.Ghosts A) (gc : Clock.Ghosts C) (gd : Derive.Ghosts D) (f : FloorView I K A C D) (closed : List Past) (s : ℕ) (u : A) (k : Counts) (ds : List AnswerCall)
    → Sound gi gk ga gc gd f closed → s < length f.ledger.slots → IsOut (slot_at f.ledger s) → RefusedAll ga f.answerer u f.counts k (number_in (slot_at f.ledger s)) (items_in (slot_at f.ledger s)) ds
    → Sound gi gk ga gc gd (record f { ledger = with_slot f.ledger s Free; answerer = u; counts = k; outside = record f.outside { refused_memory = k.refused_memory } }) (record { state = refused_open (slot_at f.ledger s); memory = true } ∷ closed)
sound_refuse gi gk ga gc gd f closed s u k ds h w out r =
    let n = number_in (slot_at f.ledger s) in
    let taken = out_taken (slot_at f.ledger s) out in
    let no : is_given (slot_at f.ledger s) ≡ true → ⊥ = out_given (slot_at f.ledger s) out in
    let range = placed_range f.ledger.slots (number_in (slot_at f.ledger s)) _ f.outside.taken s (h.placed (number_in (slot_at f.ledger s))) taken refl in
    let apart : (a : ℕ) → a ≢ s → is_free (slot_at f.ledger a) ≡ false → number_in (slot_at f.ledger a) ≢ number_in (slot_at f.ledger s) = λ a d y e. d (sym (apart_by f.ledger.slots (number_in (slot_at f.ledger s)) _ _ s a (h.placed (number_in (slot_at f.ledger s))) taken y refl e)) in
    let gone = gone_by f.ledger.slots closed (number_in (slot_at f.ledger s)) _ s (h.placed (number_in (slot_at f.ledger s))) taken refl in
    let before : IsTrue (ga.tells f.answerer) → (i : ℕ) → calls_for (number_in (slot_at f.ledger s)) i (ga.calls f.answerer) ≡ 0 = λ t i. h.called t s taken i ∙ ap one_if (ap (λ bs. get_or bs i false) (out_answers (slot_at f.ledger s) out)) in
    let later : (n m i : ℕ) → Taken gi gc f.outside n m i → Taken gi gc (record f.outside { refused_memory = k.refused_memory }) n m i = λ n m i x. taken_later gi gc f.outside f.outside.intake f.outside.clock f.outside.taken f.outside.ending k.refused_memory n m i (same_later gi gc f.outside) x in
    let plan : (o : Open) → Planned gi gc gd f.outside o → Planned gi gc gd (record f.outside { refused_memory = k.refused_memory }) o = λ o x. planned_later gi gc gd f.outside f.outside.intake f.outside.clock f.outside.taken f.outside.ending k.refused_memory o (same_later gi gc f.outside) x in
    record {
      placed = λ m. (let a = in_slots_set m f.ledger.slots s Free w in
          let b : here m (slot_at f.ledger s) ≡ one_if (eqb (number_in (slot_at f.ledger s)) m) = ap (λ v. one_if (not v && eqb (number_in (slot_at f.ledger s)) m)) taken in
          let c = h.placed m in omega arith);
      course = course_same gi gc f.outside k.refused_memory h.course;
      expected = over_slot (λ y. Taken gi gc (record f.outside { refused_memory = k.refused_memory }) (number_in y) (moment_in y) (items_in y)) is_out f.ledger s Free w refl (λ a e. later _ _ _ (h.expected a e));
      planned = over_out (λ x. Planned gi gc gd (record f.outside { refused_memory = k.refused_memory }) x) is_given f.ledger s Free w refl (λ a e. plan _ (h.planned a e));
      shaped = over_out (λ x. Shaped gd (record f.outside { refused_memory = k.refused_memory }) x) is_given f.ledger s Free w refl h.shaped;
      past_taken = (
        record {
          planned = λ e. (let z : true ≡ false = e in cc);
          shaped = λ e. (let z : true ≡ false = e in cc);
          refused = λ _. subst (λ q. Taken gi gc (record f.outside { refused_memory = k.refused_memory }) (number_in (slot_at f.ledger s)) (moment_in (slot_at f.ledger s)) q) (sym (length-replicate (items_in (slot_at f.ledger s)) true)) (later _ _ _ (h.expected s (out_is (slot_at f.ledger s) out)));
          without = λ _. refl;
        },
        each_map (λ p. WasTaken gi gc gd f.outside p) (λ p. WasTaken gi gc gd (record f.outside { refused_memory = k.refused_memory }) p) closed
            (λ p y. record { planned = λ e. plan _ (y.planned e); shaped = y.shaped; refused = λ e. later _ _ _ (y.refused e); without = y.without }) h.past_taken,
      );
      past_answered = (all_answered (items_in (slot_at f.ledger s)), h.past_answered);
      done = over_out (λ x. AnsweredSettled x) is_given f.ledger s Free w refl h.done;
      past_done = ((λ q v. absurd (omega arith)), h.past_done);
      past_untouched = ((λ b. tt), h.past_untouched);
      untouched = over_trees (λ v. Untouched v) f.ledger s Free w (λ b. tt) h.untouched;
      told = λ d. over_out (λ x. Told gk f.sinks d x) is_given f.ledger s Free w refl (h.told d);
      past_told = λ d. ((λ p. tt), h.past_told d);
      unwritten = λ d m b j l v x. h.unwritten d m b j l v (
        (λ a e. elim (close_cases f.ledger s a Free w) [
          | inl i ↦ absurd (no (subst (λ y. is_given (slot_at f.ledger y) ≡ true) i.0 e))
          | inr i ↦ (λ z. x.0 a (ap is_given i.1 ∙ e) (ap number_in i.1 ∙ z))
        ]),
        x.1.1,
      );
      owned = λ d. owned_out gk f.releases f.ledger s Free closed _ f.sinks d w (given_no (slot_at f.ledger s) out) (λ k x y. inr y) (h.owned d);
      called = λ t a e. elim (close_cases f.ledger s a Free w) [
        | inl i ↦ (let z : is_free Free ≡ false = ap is_free (sym i.1) ∙ e in cc)
        | inr i ↦ subst (λ y. Called (ga.calls u) (open_in y)) (sym i.1) (subst (λ cs. Called cs (open_in (slot_at f.ledger a))) (sym (r.calls t))
            (called_others (ga.calls f.answerer) ds (open_in (slot_at f.ledger a)) (number_in (slot_at f.ledger s)) (apart a i.0 (ap is_free (sym i.1) ∙ e)) r.each (h.called (r.told t) a (ap is_free (sym i.1) ∙ e))))
      ];
      past_called = λ t. subst (λ cs. AllByRecursion (λ q. Called cs q.state) (record { state = refused_open (slot_at f.ledger s); memory = true } ∷ closed)) (sym (r.calls t)) (
        (λ i. (let a = calls_app (number_in (slot_at f.ledger s)) i (ga.calls f.answerer) ds in
            let b = before (r.told t) i in
            let c = for_each ds (number_in (slot_at f.ledger s)) 0 i r.each in
            let z : 0 + i ≡ i = omega arith in
            let d = ap (λ j. calls_for (number_in (slot_at f.ledger s)) j ds) z in
            let e = ap (λ j. one_if (get_or (replicate j true) i false)) r.many in
            omega arith)),
        each_both (λ q. Called (ga.calls f.answerer) q.state) (λ q. q.state.number ≢ number_in (slot_at f.ledger s)) (λ q. Called (ga.calls f.answerer ++ ds) q.state) closed
            (λ q x y. called_others (ga.calls f.answerer) ds q.state (number_in (slot_at f.ledger s)) y r.each x) (h.past_called (r.told t)) gone,
      );
      says = λ t. subst (λ cs. AllByRecursion (λ c. SaysTrue (with_slot f.ledger s Free) (record { state = refused_open (slot_at f.ledger s); memory = true } ∷ closed) c) cs) (sym (r.calls t))
          (each_append (λ c. SaysTrue (with_slot f.ledger s Free) (record { state = refused_open (slot_at f.ledger s); memory = true } ∷ closed) c) (ga.calls f.answerer) ds
          (each_both (λ c. SaysTrue f.ledger closed c) (λ c. c.number ≢ number_in (slot_at f.ledger s)) (λ c. SaysTrue (with_slot f.ledger s Free) (record { state = refused_open (slot_at f.ledger s); memory = true } ∷ closed) c) (ga.calls f.answerer)
          (λ c x y. (over_out (λ o. o.number ≡ c.number → Says o c) is_given f.ledger s Free w refl x.0, ((λ e. absurd (y (sym e))), x.1)))
          (h.says (r.told t)) (each_none (ga.calls f.answerer) (number_in (slot_at f.ledger s)) (before (r.told t))))
          (each_map (λ c. (c.number ≡ number_in (slot_at f.ledger s)) × ((c.verdict ≡ Refused NoMemory) × (c.why ≡ []))) (λ c. SaysTrue (with_slot f.ledger s Free) (record { state = refused_open (slot_at f.ledger s); memory = true } ∷ closed) c) ds
          (λ c x. (
            (λ a e y. elim (close_cases f.ledger s a Free w) [
              | inl i ↦ (let z : is_given Free ≡ true = ap is_given (sym i.1) ∙ e in cc)
              | inr i ↦ absurd (apart a i.0 (given_taken (slot_at f.ledger a) (ap is_given (sym i.1) ∙ e)) (ap number_in (sym i.1) ∙ (y ∙ x.0)))
            ]),
            ((λ _. x.1), each_map (λ q. q.state.number ≢ number_in (slot_at f.ledger s)) (λ q. q.state.number ≡ c.number → PastSays q.memory q.state c) closed (λ q v e. absurd (v (e ∙ x.0))) gone),
          ))
          (refusals_all ds (number_in (slot_at f.ledger s)) 0 r.each)));
      answer_faults = λ t z. (let rise = r.faults in subst (λ cs. AllByRecursion (λ c. c.failed ≡ false) cs) (sym (r.calls t)) (each_append (λ (c : AnswerCall). c.failed ≡ false) (ga.calls f.answerer) ds (h.answer_faults (r.told t) (omega arith)) (r.fine z)));
      no_other = λ t. subst (λ cs. AllByRecursion (λ c. (1 ≤ c.number) × (c.number ≤ f.outside.taken)) cs) (sym (r.calls t))
          (each_append (λ c. (1 ≤ c.number) × (c.number ≤ f.outside.taken)) (ga.calls f.answerer) ds (h.no_other (r.told t))
          (each_map (λ c. (c.number ≡ number_in (slot_at f.ledger s)) × ((c.verdict ≡ Refused NoMemory) × (c.why ≡ []))) (λ c. (1 ≤ c.number) × (c.number ≤ f.outside.taken)) ds
          (λ c x. (let a = x.0 in let b = range.0 in let d = range.1 in (omega arith, omega arith))) (refusals_all ds (number_in (slot_at f.ledger s)) 0 r.each)));
      counted = λ t. subst (λ cs. AnswersCounted cs k) (sym (r.calls t)) (subst (λ q. AnswersCounted (ga.calls f.answerer ++ ds) q) (sym r.counted) (counted_all ds (ga.calls f.answerer) f.counts (h.counted (r.told t))));
      summed = subst (λ q. ReleasesSum f.releases q) (sym r.counted) (summed_all ds f.releases f.counts h.summed);
      refusals = refl;
      policies = h.policies;
      sinks = h.sinks;
      releases = h.releases;
      few = h.few;
      wide = h.wide;
      entries = h.entries;
    }

-- so many refusals are counted
pub refusals_counted : (ds : List AnswerCall) (n i : ℕ) (k : Counts) → k.refused_memory ≤ last_count → RefusalsFrom n i ds → (counts_after ds k).refused_memory ≡ capped (k.refused_memory + length ds)
refusals_counted [] n i k w h = omega arith
refusals_counted (d ∷ ds) n i k w h =
    let e = refusal_counts d.verdict d.failed k h.0.verdict in
    let a = refusals_counted ds n (i + 1) (answer_with d.verdict d.failed k) (omega arith) h.1 in
    omega arith

refusals_snoc : (cs : List AnswerCall) (n i : ℕ) (c : AnswerCall) → RefusalsFrom n i cs → IsRefusal n (i + length cs) c → RefusalsFrom n i (cs ++ c ∷ [])
refusals_snoc [] n i c h k = (subst (λ j. IsRefusal n j c) (let e : i + 0 ≡ i = omega arith in e) k, tt)
refusals_snoc (x ∷ cs) n i c h k = (h.0, refusals_snoc cs n (i + 1) c h.1 (subst (λ j. IsRefusal n j c) (let e : i + suc (length cs) ≡ (i + 1) + length cs = omega arith in e) k))

counts_snoc : (cs : List AnswerCall) (c : AnswerCall) (k : Counts) → counts_after (cs ++ c ∷ []) k ≡ answer_with c.verdict c.failed (counts_after cs k)
counts_snoc [] c k = refl
counts_snoc (x ∷ cs) c k = counts_snoc cs c (answer_with x.verdict x.failed k)

snoc_length : (cs : List AnswerCall) (c : AnswerCall) → length (cs ++ c ∷ []) ≡ length cs + 1
snoc_length [] c = refl
snoc_length (x ∷ cs) c = let a = snoc_length cs c in omega arith

-- no item was refused yet
pub refused_none : {A : Type 0} (g : Answerer.Ghosts A) (j : A) (c : Counts) (n : ℕ) → RefusedAll g j j c c n 0 []
refused_none g j c n = record { place = refl; faults = omega arith; fine = λ z. tt; many = refl; each = tt; told = λ x. x; calls = λ x. sym (append-nil (g.calls j)); counted = refl }

-- one more was
pub refused_more : {A : Type 0} (g : Answerer.Ghosts A) (j k m : A) (c d e : Counts) (n i : ℕ) (cs : List AnswerCall) (call : AnswerCall) → RefusedAll g j k c d n i cs → RefusedOne g k m d e n i call → RefusedAll g j m c e n (i + 1) (cs ++ call ∷ [])
refused_more g j k m c d e n i cs call h o = record {
  place = o.place ∙ h.place;
  faults = (let a = h.faults in let b = o.faults in omega arith);
  fine = λ z. each_append (λ (x : AnswerCall). x.failed ≡ false) cs (call ∷ []) (h.fine (let b = o.faults in omega arith)) (o.fine z, tt);
  many = (let a = snoc_length cs call in let b = h.many in omega arith);
  each = refusals_snoc cs n 0 call h.each (subst (λ q. IsRefusal n q call) (let b = h.many in let z : i ≡ 0 + length cs = omega arith in z) o.is);
  told = λ x. h.told (o.told x);
  calls = λ x. o.calls x ∙ (ap (λ xs. xs ++ call ∷ []) (h.calls (o.told x)) ∙ append_assoc (g.calls j) cs (call ∷ []));
  counted = o.counted ∙ (ap (answer_with call.verdict call.failed) h.counted ∙ sym (counts_snoc cs call c));
}
