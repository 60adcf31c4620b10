-- An answer and a close keep a floor sound.
use Rattle.std.proofs.Common.{◌≡◌, ◌≢◌, ℕ, zero, suc, ◌+◌, ◌<◌, ◌≤◌, Bool, true, false, eqb, not, ◌&&◌, List, [], ◌∷◌, ◌++◌, length, get_or, set, inl, inr, arith, refl, sym, ap, ◌∙◌, subst, eq-eqb, Some, Result, Ok, Err, IsTrue, get_or-set_same, get_or-set_other, length-set}
use Rattle.std.specs.Prelude.{is_err, OnErr}
use Rattle.std.specs.List.{AllByRecursion}
use Rattle.std.proofs.lemmas.Bool.Decides.{eqb_tells}
use Rattle.bt_demand.specs.Holding.{one_if}
use Rattle.bt_demand.specs.Parts.{PartsFit}
use Rattle.bt_demand.specs.Untouched.{Untouched}
use Rattle.bt_demand.specs.declared.derive.Derive as Derive
use Rattle.bt_ledger.specs.Due.{IsDue, unanswered}
use Rattle.bt_ledger.specs.Ledger.{Ledger, slot_at, parts_in, number_in, moment_in, answered_in, items_in, is_free, is_given, open_in, with_slot, IsGiven}
use Rattle.bt_ledger.specs.Open.{Open}
use Rattle.bt_ledger.specs.Verdicts.{verdict_of, why_of}
use Rattle.bt_ledger.specs.declared.slot.Slot.{Slot}
use Rattle.bt_ledger.specs.declared.slot.Slot.TheVariants.{Free, Given}
use Rattle.bt_ledger.proofs.Slots.{given_taken}
use Rattle.bt_moves.specs.Moves.{is_out}
use Rattle.bt_ports.specs.Faults.{Rose, last_count}
use Rattle.bt_ports.specs.declared.outside.Answerer as Answerer
use Rattle.bt_ports.specs.declared.outside.Clock as Clock
use Rattle.bt_ports.specs.declared.outside.Intake as Intake
use Rattle.bt_ports.specs.declared.outside.Sink as Sink
use Rattle.bt_ports.specs.declared.parts.AnswerCall.{AnswerCall}
use Rattle.bt_sound.specs.Answers.{is_for, calls_for, AnsweredSettled, Called, Says, PastSays}
use Rattle.bt_sound.specs.Counting.{answer_with, AnswersCounted, ReleasesSum}
use Rattle.bt_sound.proofs.Counting.{counted_more, summed_answer, answer_memory}
use Rattle.bt_sound.specs.Records.{Told}
use Rattle.bt_sound.specs.Sound.{here, SaysTrue, Unknown, Sound}
use Rattle.bt_sound.specs.Transactions.{Taken, Planned, Shaped, untried_parts}
use Rattle.bt_sound.specs.View.{FloorView, Past}
use Rattle.bt_sound.specs.declared.counts.Counts.{Counts}
use Rattle.bt_sound.proofs.Lists.{each_map, each_both, each_snoc}
use Rattle.bt_sound.proofs.Owned.{owned_close, owned_same}
use Rattle.bt_sound.proofs.Placing.{in_slots_set, apart_by, placed_range, gone_by}
use Rattle.bt_sound.proofs.Settled.{all_done, done_answer}
use Rattle.bt_sound.proofs.Slots.{close_cases, over_slot, over_trees}

pub over_close : (P : Open → Type 0) (q : Slot → Bool) (b : Bool) (l : Ledger) (s : ℕ) → s < length l.slots → (q Free ≡ b → ⊥) → ((a : ℕ) → q (slot_at l a) ≡ b → P (open_in (slot_at l a))) → (a : ℕ) → q (slot_at (with_slot l s Free) a) ≡ b → P (open_in (slot_at (with_slot l s Free) a))
over_close P q b l s h n g a w = elim (close_cases l s a Free h) [
  | inl i ↦ absurd (n (ap q (sym i.1) ∙ w))
  | inr i ↦ subst (λ x. P (open_in x)) (sym i.1) (g a (ap q (sym i.1) ∙ w))
]

known_close : (l : Ledger) (s : ℕ) (closed : List Past) (m : ℕ) → s < length l.slots → Unknown (with_slot l s Free) (record { state = open_in (slot_at l s); memory = false } ∷ closed) m → Unknown l closed m
known_close l s closed m w x = (
  λ a e. elim (close_cases l s a Free w) [
    | inl i ↦ (λ z. x.1.0 refl (ap (λ j. number_in (slot_at l j)) (sym i.0) ∙ z))
    | inr i ↦ (λ z. x.0 a (ap is_given i.1 ∙ e) (ap number_in i.1 ∙ z))
  ],
  x.1.1,
)

pub sound_close : {I K A C D : Type 0} (gi : Intake.Ghosts I) (gk : Sink.Ghosts K) (ga : Answerer.Ghosts A) (gc : Clock.Ghosts C) (gd : Derive.Ghosts D) (f : FloorView I K A C D) (closed : List Past) (s : ℕ)
    → Sound gi gk ga gc gd f closed → s < length f.ledger.slots → is_given (slot_at f.ledger s) ≡ true → unanswered (answered_in (slot_at f.ledger s)) ≡ 0
    → Sound gi gk ga gc gd (record f { ledger = with_slot f.ledger s Free }) (record { state = open_in (slot_at f.ledger s); memory = false } ∷ closed)
sound_close gi gk ga gc gd f closed s h w g done =
    let no : is_given Free ≡ true → ⊥ = λ e. (let z : false ≡ true = e in cc) in
    let no2 : is_free Free ≡ false → ⊥ = λ e. (let z : true ≡ false = e in cc) in
    let taken = given_taken (slot_at f.ledger s) g in
    record {
      placed = λ m. (let a = in_slots_set m f.ledger.slots s Free w in
          let b : here m (slot_at f.ledger s) ≡ one_if (eqb (number_in (slot_at f.ledger s)) m) = ap (λ v. one_if (not v && eqb (number_in (slot_at f.ledger s)) m)) taken in
          let c = h.placed m in omega arith);
      policies = h.policies;
      sinks = h.sinks;
      releases = h.releases;
      few = h.few;
      wide = h.wide;
      entries = h.entries;
      course = h.course;
      counted = h.counted;
      summed = h.summed;
      refusals = h.refusals;
      expected = over_slot (λ y. Taken gi gc f.outside (number_in y) (moment_in y) (items_in y)) is_out f.ledger s Free w refl h.expected;
      untouched = over_trees (λ v. Untouched v) f.ledger s Free w (λ b. tt) h.untouched;
      past_answered = (done, h.past_answered);
      done = over_close (λ x. AnsweredSettled x) is_given true f.ledger s w no h.done;
      past_done = (all_done _ _ (open_in (slot_at f.ledger s)) (h.shaped s g) done (h.done s g), h.past_done);
      past_untouched = ((λ b. h.untouched s b), h.past_untouched);
      shaped = over_close (λ x. Shaped gd f.outside x) is_given true f.ledger s w no h.shaped;
      planned = over_close (λ x. Planned gi gc gd f.outside x) is_given true f.ledger s w no h.planned;
      past_taken = (record { planned = λ _. h.planned s g; shaped = λ _. h.shaped s g; refused = λ e. (let z : false ≡ true = e in cc); without = λ e. (let z : false ≡ true = e in cc) }, h.past_taken);
      told = λ d. over_close (λ x. Told gk f.sinks d x) is_given true f.ledger s w no (h.told d);
      past_told = λ d. (h.told d s g, h.past_told d);
      unwritten = λ d m b k j v x. h.unwritten d m b k j v (known_close f.ledger s closed m w x);
      owned = λ d. owned_close gk f.releases f.ledger s false closed f.sinks d w (h.owned d);
      called = λ tells. over_close (λ x. Called (ga.calls f.answerer) x) is_free false f.ledger s w no2 (h.called tells);
      past_called = λ tells. (h.called tells s taken, h.past_called tells);
      says = λ tells. each_map (λ c. SaysTrue f.ledger closed c) (λ c. SaysTrue (with_slot f.ledger s Free) (record { state = open_in (slot_at f.ledger s); memory = false } ∷ closed) c) (ga.calls f.answerer)
          (λ c x. (over_close (λ y. y.number ≡ c.number → Says y c) is_given true f.ledger s w no x.0, ((λ e. x.0 s g e), x.1))) (h.says tells);
      no_other = h.no_other;
      answer_faults = h.answer_faults;
    }

pub calls_more : (n i : ℕ) (cs : List AnswerCall) (c : AnswerCall) → calls_for n i (cs ++ c ∷ []) ≡ calls_for n i cs + one_if (is_for n i c)
calls_more n i [] c = omega arith
calls_more n i (x ∷ cs) c = let a = calls_more n i cs c in omega arith

pub for_other : (n i : ℕ) (c : AnswerCall) → n ≢ c.number → is_for n i c ≡ false
for_other n i c d = elim (eqb_tells c.number n) [ inl j ↦ absurd (d (sym j.1)) | inr j ↦ ap (λ b. b && eqb c.item i) j.0 ]

pub called_other : (cs : List AnswerCall) (c : AnswerCall) (o : Open) → o.number ≢ c.number → Called cs o → Called (cs ++ c ∷ []) o
called_other cs c o d h = λ i. (let a = calls_more o.number i cs c in let b = ap one_if (for_other o.number i c d) in let e = h i in omega arith)

get_in : (bs : List Bool) (i : ℕ) (a b : Bool) → i < length bs → get_or bs i a ≡ get_or bs i b
get_in [] i a b h = absurd (omega arith)
get_in (x ∷ bs) zero a b h = refl
get_in (x ∷ bs) (suc i) a b h = get_in bs i a b (omega arith)

pub and_no : (a b : Bool) → b ≡ false → a && b ≡ false
and_no true b e = e
and_no false b e = refl

called_here : (cs : List AnswerCall) (c : AnswerCall) (o : Open) → o.number ≡ c.number → c.item < length o.answered → get_or o.answered c.item true ≡ false → Called cs o → Called (cs ++ c ∷ []) (record o { answered = set o.answered c.item true })
called_here cs c o e h w k = λ i. (let a = calls_more o.number i cs c in let b = k i in
    elim (eqb_tells c.item i) [
      | inl j ↦ (let x : is_for o.number i c ≡ true = rw (j.0, eq-eqb c.number o.number (sym e)) refl in
          let y = ap one_if x in
          let z : get_or o.answered i false ≡ false = subst (λ q. get_or o.answered q false ≡ false) j.1 (get_in o.answered c.item false true h ∙ w) in
          let v : get_or (set o.answered c.item true) i false ≡ true = subst (λ q. get_or (set o.answered c.item true) q false ≡ true) j.1 (get_or-set_same o.answered c.item true false h) in
          let u = ap one_if z in let t = ap one_if v in omega arith)
      | inr j ↦ (let x : is_for o.number i c ≡ false = and_no (eqb c.number o.number) (eqb c.item i) j.0 in
          let y = ap one_if x in
          let v : get_or (set o.answered c.item true) i false ≡ get_or o.answered i false = get_or-set_other o.answered c.item i true false (λ q. j.1 (sym q)) in
          let t = ap one_if v in omega arith)
    ])

says_more : (o : Open) (i : ℕ) (c : AnswerCall) → i < length o.answered → Says o c → Says (record o { answered = set o.answered i true }) c
says_more o i c w h = record {
  answered = elim (eqb_tells c.item i) [
    | inl j ↦ subst (λ q. get_or (set o.answered i true) q false ≡ true) (sym j.1) (get_or-set_same o.answered i true false w)
    | inr j ↦ get_or-set_other o.answered i c.item true false j.1 ∙ h.answered
  ];
  verdict = h.verdict;
  why = h.why;
}

over_answer : (P : Open → Type 0) (q : Slot → Bool) (b : Bool) (l : Ledger) (s : ℕ) (bs : List Bool) → s < length l.slots → q (slot_at l s) ≡ b → (P (open_in (slot_at l s)) → P (record (open_in (slot_at l s)) { answered = bs }))
    → ((a : ℕ) → a ≢ s → q (slot_at l a) ≡ b → P (open_in (slot_at l a))) → P (open_in (slot_at l s)) → (a : ℕ) → q (slot_at (with_slot l s (Given (record (open_in (slot_at l s)) { answered = bs }))) a) ≡ b → P (open_in (slot_at (with_slot l s (Given (record (open_in (slot_at l s)) { answered = bs }))) a))
over_answer P q b l s bs h e f g k a w = elim (close_cases l s a (Given (record (open_in (slot_at l s)) { answered = bs })) h) [
  | inl i ↦ subst (λ x. P (open_in x)) (sym i.1) (f k)
  | inr i ↦ subst (λ x. P (open_in x)) (sym i.1) (g a i.0 (ap q (sym i.1) ∙ w))
]

over_replace : (P : Open → Type 0) (q : Slot → Bool) (b : Bool) (l : Ledger) (s : ℕ) (bs : List Bool) → s < length l.slots → q (slot_at l s) ≡ b
    → ((a : ℕ) → a ≢ s → q (slot_at l a) ≡ b → P (open_in (slot_at l a))) → P (record (open_in (slot_at l s)) { answered = bs }) → (a : ℕ) → q (slot_at (with_slot l s (Given (record (open_in (slot_at l s)) { answered = bs }))) a) ≡ b → P (open_in (slot_at (with_slot l s (Given (record (open_in (slot_at l s)) { answered = bs }))) a))
over_replace P q b l s bs h e g k a w = elim (close_cases l s a (Given (record (open_in (slot_at l s)) { answered = bs })) h) [
  | inl i ↦ subst (λ x. P (open_in x)) (sym i.1) k
  | inr i ↦ subst (λ x. P (open_in x)) (sym i.1) (g a i.0 (ap q (sym i.1) ∙ w))
]

given_is : (x : Slot) → IsTrue (is_given x) → is_given x ≡ true
given_is x h = h

known_answer : (l : Ledger) (s : ℕ) (closed : List Past) (m : ℕ) (bs : List Bool) → s < length l.slots → Unknown (with_slot l s (Given (record (open_in (slot_at l s)) { answered = bs }))) closed m → Unknown l closed m
known_answer l s closed m bs w x = (
  λ a e. elim (close_cases l s a (Given (record (open_in (slot_at l s)) { answered = bs })) w) [
    | inl i ↦ (λ z. x.0 a (ap is_given i.1) (ap number_in i.1 ∙ (ap (λ j. number_in (slot_at l j)) (sym i.0) ∙ z)))
    | inr i ↦ (λ z. x.0 a (ap is_given i.1 ∙ e) (ap number_in i.1 ∙ z))
  ],
  x.1,
)

-- an item that is due is answered
pub sound_answer : {I K A C D : Type 0} (gi : Intake.Ghosts I) (gk : Sink.Ghosts K) (ga : Answerer.Ghosts A) (gc : Clock.Ghosts C) (gd : Derive.Ghosts D) (f : FloorView I K A C D) (closed : List Past) (s i : ℕ) (c : AnswerCall) (u : A) (n : Counts)
    → Sound gi gk ga gc gd f closed → IsGiven f.ledger s → IsDue (open_in (slot_at f.ledger s)) i → c.number ≡ number_in (slot_at f.ledger s) → c.item ≡ i
    → Some c.verdict ≡ verdict_of (open_in (slot_at f.ledger s)) i → c.why ≡ why_of (open_in (slot_at f.ledger s)) i
    → (IsTrue (ga.tells u) → IsTrue (ga.tells f.answerer)) → (IsTrue (ga.tells u) → ga.calls u ≡ ga.calls f.answerer ++ c ∷ []) → ga.faults f.answerer ≤ ga.faults u → (ga.faults u ≡ 0 → c.failed ≡ false) → n ≡ answer_with c.verdict c.failed f.counts
    → Sound gi gk ga gc gd (record f { ledger = with_slot f.ledger s (Given (record (open_in (slot_at f.ledger s)) { answered = set (answered_in (slot_at f.ledger s)) i true })); answerer = u; counts = n }) closed
sound_answer gi gk ga gc gd f closed s i c u n h w due en ei ev ey told calls rise fine cn =
    let o = open_in (slot_at f.ledger s) in
    let bs = set (answered_in (slot_at f.ledger s)) i true in
    let g : is_given (slot_at f.ledger s) ≡ true = given_is (slot_at f.ledger s) w.1 in
    let taken = given_taken (slot_at f.ledger s) w.1 in
    let len : length (set (answered_in (slot_at f.ledger s)) i true) ≡ length (answered_in (slot_at f.ledger s)) = length-set (answered_in (slot_at f.ledger s)) i true in
    let range = placed_range f.ledger.slots (number_in (slot_at f.ledger s)) _ f.outside.taken s (h.placed (number_in (slot_at f.ledger s))) taken refl in
    let within : c.item < length (answered_in (slot_at f.ledger s)) = subst (λ q. q < length (answered_in (slot_at f.ledger s))) (sym ei) due.0 in
    let apart : (a : ℕ) → a ≢ s → is_free (slot_at f.ledger a) ≡ false → number_in (slot_at f.ledger a) ≢ c.number = λ a d y e. d (sym (apart_by f.ledger.slots (number_in (slot_at f.ledger s)) _ _ s a (h.placed (number_in (slot_at f.ledger s))) taken y refl (e ∙ en))) in
    let gone = gone_by f.ledger.slots closed (number_in (slot_at f.ledger s)) _ s (h.placed (number_in (slot_at f.ledger s))) taken refl in
    record {
      placed = λ m. (let a = in_slots_set m f.ledger.slots s (Given (record (open_in (slot_at f.ledger s)) { answered = set (answered_in (slot_at f.ledger s)) i true })) w.0 in
          let b : here m (Given (record (open_in (slot_at f.ledger s)) { answered = set (answered_in (slot_at f.ledger s)) i true })) ≡ here m (slot_at f.ledger s) = sym (ap (λ v. one_if (not v && eqb (number_in (slot_at f.ledger s)) m)) taken) in
          let d = h.placed m in omega arith);
      policies = h.policies;
      sinks = h.sinks;
      releases = h.releases;
      few = h.few;
      wide = h.wide;
      entries = h.entries;
      course = h.course;
      counted = λ tells. subst (λ v. AnswersCounted v n) (sym (calls tells)) (subst (λ k. AnswersCounted (ga.calls f.answerer ++ c ∷ []) k) (sym cn) (counted_more (ga.calls f.answerer) c f.counts (h.counted (told tells))));
      summed = subst (λ k. ReleasesSum f.releases k) (sym cn) (summed_answer f.releases c.verdict c.failed f.counts h.summed);
      refusals = h.refusals ∙ answer_memory (open_in (slot_at f.ledger s)) i c.verdict c.failed f.counts n ev cn;
      expected = over_slot (λ y. Taken gi gc f.outside (number_in y) (moment_in y) (items_in y)) is_out f.ledger s (Given (record (open_in (slot_at f.ledger s)) { answered = set (answered_in (slot_at f.ledger s)) i true })) w.0 refl h.expected;
      untouched = over_trees (λ v. Untouched v) f.ledger s (Given (record (open_in (slot_at f.ledger s)) { answered = set (answered_in (slot_at f.ledger s)) i true })) w.0 (λ b. h.untouched s b) h.untouched;
      past_answered = h.past_answered;
      done = over_answer (λ x. AnsweredSettled x) is_given true f.ledger s (set (answered_in (slot_at f.ledger s)) i true) w.0 g (λ x. done_answer (open_in (slot_at f.ledger s)) i due.0 due.2 x) (λ a _ e. h.done a e) (h.done s g);
      past_done = h.past_done;
      past_untouched = h.past_untouched;
      shaped = over_answer (λ x. Shaped gd f.outside x) is_given true f.ledger s (set (answered_in (slot_at f.ledger s)) i true) w.0 g
          (λ x. subst (λ m. PartsFit (gd.sinks f.outside.plan) (length (gd.policies f.outside.plan)) m (untried_parts (parts_in (slot_at f.ledger s)))) (sym len) x) (λ a _ e. h.shaped a e) (h.shaped s g);
      planned = over_answer (λ x. Planned gi gc gd f.outside x) is_given true f.ledger s (set (answered_in (slot_at f.ledger s)) i true) w.0 g
          (λ x y z q. (let v = x y z q in (v.0, record { taken = record { is = v.1.taken.is; number = v.1.taken.number; moment = v.1.taken.moment; items = v.1.taken.items ∙ sym len }; parts = v.1.parts }))) (λ a _ e. h.planned a e) (h.planned s g);
      past_taken = h.past_taken;
      told = λ d. over_answer (λ x. Told gk f.sinks d x) is_given true f.ledger s (set (answered_in (slot_at f.ledger s)) i true) w.0 g (λ x. x) (λ a _ e. h.told d a e) (h.told d s g);
      past_told = h.past_told;
      unwritten = λ d m b k j v x. h.unwritten d m b k j v (known_answer f.ledger s closed m (set (answered_in (slot_at f.ledger s)) i true) w.0 x);
      owned = λ d. owned_same gk f.releases f.ledger s (record (open_in (slot_at f.ledger s)) { answered = set (answered_in (slot_at f.ledger s)) i true }) closed f.sinks d w.0 refl refl (h.owned d);
      called = λ tells. subst (λ v. (a : ℕ) → is_free (slot_at (with_slot f.ledger s (Given (record (open_in (slot_at f.ledger s)) { answered = set (answered_in (slot_at f.ledger s)) i true }))) a) ≡ false → Called v (open_in (slot_at (with_slot f.ledger s (Given (record (open_in (slot_at f.ledger s)) { answered = set (answered_in (slot_at f.ledger s)) i true }))) a))) (sym (calls tells))
          (over_replace (λ x. Called (ga.calls f.answerer ++ c ∷ []) x) is_free false f.ledger s (set (answered_in (slot_at f.ledger s)) i true) w.0 taken
          (λ a d e. called_other (ga.calls f.answerer) c (open_in (slot_at f.ledger a)) (apart a d e) (h.called (told tells) a e))
          (subst (λ q. Called (ga.calls f.answerer ++ c ∷ []) (record (open_in (slot_at f.ledger s)) { answered = set (answered_in (slot_at f.ledger s)) q true })) ei
          (called_here (ga.calls f.answerer) c (open_in (slot_at f.ledger s)) (sym en) within (subst (λ q. get_or (answered_in (slot_at f.ledger s)) q true ≡ false) (sym ei) due.1) (h.called (told tells) s taken))));
      past_called = λ tells. subst (λ v. AllByRecursion (λ q. Called v q.state) closed) (sym (calls tells)) (each_both (λ q. Called (ga.calls f.answerer) q.state) (λ q. q.state.number ≢ number_in (slot_at f.ledger s)) (λ q. Called (ga.calls f.answerer ++ c ∷ []) q.state) closed
          (λ q x y. called_other (ga.calls f.answerer) c q.state (λ e. y (e ∙ en)) x) (h.past_called (told tells)) gone);
      says = λ tells. subst (λ v. AllByRecursion (λ x. SaysTrue (with_slot f.ledger s (Given (record (open_in (slot_at f.ledger s)) { answered = set (answered_in (slot_at f.ledger s)) i true }))) closed x) v) (sym (calls tells))
          (each_snoc (λ x. SaysTrue (with_slot f.ledger s (Given (record (open_in (slot_at f.ledger s)) { answered = set (answered_in (slot_at f.ledger s)) i true }))) closed x) (ga.calls f.answerer) c
          (each_map (λ x. SaysTrue f.ledger closed x) (λ x. SaysTrue (with_slot f.ledger s (Given (record (open_in (slot_at f.ledger s)) { answered = set (answered_in (slot_at f.ledger s)) i true }))) closed x) (ga.calls f.answerer)
          (λ x y. (over_answer (λ z. z.number ≡ x.number → Says z x) is_given true f.ledger s (set (answered_in (slot_at f.ledger s)) i true) w.0 g (λ z e. says_more (open_in (slot_at f.ledger s)) i x due.0 (z e)) (λ a _ e. y.0 a e) (y.0 s g), y.1)) (h.says (told tells))) (
            (λ a e y. elim (close_cases f.ledger s a (Given (record (open_in (slot_at f.ledger s)) { answered = set (answered_in (slot_at f.ledger s)) i true })) w.0) [
              | inl j ↦ subst (λ x. Says (open_in x) c) (sym j.1) (record {
                answered = subst (λ q. get_or (set (answered_in (slot_at f.ledger s)) i true) q false ≡ true) (sym ei) (get_or-set_same (answered_in (slot_at f.ledger s)) i true false due.0);
                verdict = ev ∙ ap (λ q. verdict_of (open_in (slot_at f.ledger s)) q) (sym ei);
                why = ey ∙ ap (λ q. why_of (open_in (slot_at f.ledger s)) q) (sym ei);
              })
              | inr j ↦ absurd (apart a j.0 (given_taken (slot_at f.ledger a) (ap is_given (sym j.1) ∙ e)) (ap number_in (sym j.1) ∙ y))
            ]),
            each_map (λ q. q.state.number ≢ number_in (slot_at f.ledger s)) (λ q. q.state.number ≡ c.number → PastSays q.memory q.state c) closed (λ q x e. absurd (x (e ∙ en))) gone,
          ));
      answer_faults = λ tells z. subst (λ v. AllByRecursion (λ x. x.failed ≡ false) v) (sym (calls tells)) (each_snoc (λ (x : AnswerCall). x.failed ≡ false) (ga.calls f.answerer) c (h.answer_faults (told tells) (omega arith)) (fine z));
      no_other = λ tells. subst (λ v. AllByRecursion (λ x. (1 ≤ x.number) × (x.number ≤ f.outside.taken)) v) (sym (calls tells)) (each_snoc (λ x. (1 ≤ x.number) × (x.number ≤ f.outside.taken)) (ga.calls f.answerer) c (h.no_other (told tells)) (let a = range.0 in let b = range.1 in (omega arith, omega arith)));
    }

-- a call that failed counted a fault
pub fine_answer : {T E : Type 0} (r : Result T E) (a b : ℕ) → OnErr r (Rose a b) → b ≡ 0 → is_err r ≡ false
fine_answer (Ok x) a b h z = refl
fine_answer (Err e) a b h z = absurd (omega arith)

-- what the outside says of refusals is what the counts say
pub sound_memory : {I K A C D : Type 0} (gi : Intake.Ghosts I) (gk : Sink.Ghosts K) (ga : Answerer.Ghosts A) (gc : Clock.Ghosts C) (gd : Derive.Ghosts D) (f : FloorView I K A C D) (closed : List Past) (k : ℕ) → f.outside.refused_memory ≡ k → Sound gi gk ga gc gd f closed
    → Sound gi gk ga gc gd (record f { outside = record f.outside { refused_memory = k } }) closed
sound_memory gi gk ga gc gd f closed k e h = subst (λ q. Sound gi gk ga gc gd (record f { outside = record f.outside { refused_memory = q } }) closed) e h
