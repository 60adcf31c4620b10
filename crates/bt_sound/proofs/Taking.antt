-- A transaction is taken, is given its parts, or is refused for want of memory.
use Rattle.std.proofs.Common.{◌≡◌, ◌≢◌, ℕ, zero, suc, ◌+◌, ◌<◌, ◌≤◌, ◌^◌, Bool, true, false, eqb, ltb, leb, not, ◌&&◌, List, [], ◌∷◌, length, get_or, inl, inr, arith, refl, sym, ap, ◌∙◌, subst, eq-eqb, Some, None, IsTrue}
use Rattle.std.specs.List.{AllByRecursion}
use Rattle.std.proofs.lemmas.List.Elements.{recursion_from_All}
use Rattle.std.specs.Prelude.{replicate}
use Rattle.std.proofs.lemmas.Bool.Decides.{eqb_tells, leb_tells}
use Rattle.std.proofs.lemmas.List.{length-replicate}
use Rattle.bt_demand.specs.Find.{begun}
use Rattle.bt_demand.specs.Holding.{one_if}
use Rattle.bt_demand.specs.Parts.{Part, PartsFit}
use Rattle.bt_demand.specs.Untouched.{Untouched}
use Rattle.bt_demand.specs.WellFormed.{sinks}
use Rattle.bt_demand.specs.declared.derive.Derive as Derive
use Rattle.bt_demand.proofs.Untouched.{unbegun-untouched}
use Rattle.bt_leaves.proofs.Kept.{fresh_by, fresh_untried}
use Rattle.bt_ledger.specs.Calls.{IsOut, Fits}
use Rattle.bt_ledger.specs.Due.{unanswered}
use Rattle.bt_ledger.specs.Ledger.{Ledger, slot_at, parts_in, number_in, moment_in, answered_in, items_in, is_free, is_given, open_in, with_slot}
use Rattle.bt_ledger.specs.Open.{Open, tree_of}
use Rattle.bt_ledger.specs.declared.slot.Slot.{Slot}
use Rattle.bt_ledger.specs.declared.slot.Slot.TheVariants.{Free, Out, Given}
use Rattle.bt_ledger.proofs.Slots.{given_taken}
use Rattle.bt_moves.specs.Moves.{is_out}
use Rattle.bt_ports.specs.declared.outside.Answerer as Answerer
use Rattle.bt_ports.specs.declared.outside.Clock as Clock
use Rattle.bt_ports.specs.declared.outside.Intake as Intake
use Rattle.bt_ports.specs.declared.outside.Sink as Sink
use Rattle.bt_ports.specs.declared.parts.AnswerCall.{AnswerCall}
use Rattle.bt_ports.specs.declared.parts.Txn.{Txn}
use Rattle.bt_sound.specs.Answers.{AnsweredSettled, is_for, calls_for, Called, Says}
use Rattle.bt_sound.specs.Counting.{AnswersCounted, ReleasesSum}
use Rattle.bt_sound.specs.Course.{Course}
use Rattle.bt_sound.proofs.Course.{TakesNext, Stops, next_later, next_is, course_next, stop_later, course_stop, taken_later, planned_later}
use Rattle.bt_ports.specs.declared.parts.Next.{Next}
use Rattle.bt_sound.specs.Owned.{IsOwned}
use Rattle.bt_sound.specs.Records.{records_of, LeafTold, Told}
use Rattle.bt_sound.specs.Sound.{here, in_slots, SaysTrue, Unknown, Sound}
use Rattle.bt_sound.specs.Transactions.{Taken, Planned, Derived, Shaped, WasTaken, untried_parts, given_open}
use Rattle.bt_sound.specs.View.{FloorView, Past}
use Rattle.bt_sound.proofs.Answered.{for_other, and_no}
use Rattle.bt_sound.proofs.Lists.{each_map, each_both}
use Rattle.bt_sound.proofs.Owned.{owned_out}
use Rattle.bt_sound.proofs.Placing.{in_slots_set, apart_by, gone_by}
use Rattle.bt_sound.proofs.Settled.{done_none}
use Rattle.bt_sound.proofs.Slots.{close_cases, over_slot, over_trees, yes_no}

fresh_parts : (k m i : ℕ) (ps : List Part) → PartsFit k m i ps → untried_parts ps ≡ ps
fresh_parts k m i [] f = refl
fresh_parts k m i (p ∷ ps) f = rw (fresh_untried p.demand f.0.well_formed.untried, fresh_parts k m i ps f.1) refl

pub fresh_at : (k m i : ℕ) (ps : List Part) (p : ℕ) → PartsFit k m i ps → begun (tree_of ps p) ≡ false
fresh_at k m i [] p f = refl
fresh_at k m i (q ∷ ps) zero f = f.0.well_formed.untried
fresh_at k m i (q ∷ ps) (suc p) f = fresh_at k m i ps p f.1

pub known_at : (k m i : ℕ) (ps : List Part) (p : ℕ) → PartsFit k m i ps → AllByRecursion (λ x. x < k) (sinks (tree_of ps p))
known_at k m i [] p f = tt
known_at k m i (q ∷ ps) zero f = recursion_from_All (λ x. x < k) (sinks q.demand) f.0.well_formed.sinks_known
known_at k m i (q ∷ ps) (suc p) f = known_at k m i ps p f.1

pub fits_any : (k m i : ℕ) (ps : List Part) → PartsFit k m i ps → Fits m i ps
fits_any k m i [] f = tt
fits_any k m i (p ∷ ps) f = ((k, f.0), fits_any k m i ps f.1)

none_in : (i : ℕ) (n : ℕ) → get_or (replicate n false) i false ≡ false
none_in i zero = refl
none_in zero (suc n) = refl
none_in (suc i) (suc n) = none_in i n

pub out_answers : (x : Slot) → IsOut x → answered_in x ≡ []
out_answers Free h = absurd h
out_answers (Out n m i) h = refl
out_answers (Given o) h = absurd h

pub out_taken : (x : Slot) → IsOut x → is_free x ≡ false
out_taken Free h = absurd h
out_taken (Out n m i) h = refl
out_taken (Given o) h = absurd h

pub out_is : (x : Slot) → IsOut x → is_out x ≡ true
out_is Free h = absurd h
out_is (Out n m i) h = refl
out_is (Given o) h = absurd h

pub given_no : (x : Slot) → IsOut x → is_given x ≡ false
given_no Free h = absurd h
given_no (Out n m i) h = refl
given_no (Given o) h = absurd h

pub out_given : (x : Slot) → IsOut x → is_given x ≡ true → ⊥
out_given Free h e = absurd h
out_given (Out n m i) h e = cc
out_given (Given o) h e = absurd h

over_give : (P : Open → Type 0) (q : Slot → Bool) (b : Bool) (l : Ledger) (s : ℕ) (o : Open) → s < length l.slots → ((a : ℕ) → a ≢ s → q (slot_at l a) ≡ b → P (open_in (slot_at l a))) → P o → (a : ℕ) → q (slot_at (with_slot l s (Given o)) a) ≡ b → P (open_in (slot_at (with_slot l s (Given o)) a))
over_give P q b l s o h g k a w = elim (close_cases l s a (Given o) h) [
  | inl i ↦ subst (λ x. P (open_in x)) (sym i.1) k
  | inr i ↦ subst (λ x. P (open_in x)) (sym i.1) (g a i.0 (ap q (sym i.1) ∙ w))
]

is_itself : (c : AnswerCall) → is_for c.number c.item c ≡ true
is_itself c = rw (eq-eqb c.number c.number refl, eq-eqb c.item c.item refl) refl

pub each_none : (cs : List AnswerCall) (n : ℕ) → ((i : ℕ) → calls_for n i cs ≡ 0) → AllByRecursion (λ c. c.number ≢ n) cs
each_none [] n f = tt
each_none (c ∷ cs) n f = ((λ e. (let a = f c.item in let b : one_if (is_for n c.item c) ≡ 1 = ap one_if (subst (λ m. is_for m c.item c ≡ true) e (is_itself c)) in absurd (omega arith))), each_none cs n (λ i. (let a = f i in omega arith)))

says_given : (cs : List AnswerCall) (l : Ledger) (s : ℕ) (closed : List Past) (o : Open) → s < length l.slots → o.number ≡ number_in (slot_at l s) → AllByRecursion (λ c. SaysTrue l closed c) cs → AllByRecursion (λ c. c.number ≢ number_in (slot_at l s)) cs → AllByRecursion (λ c. SaysTrue (with_slot l s (Given o)) closed c) cs
says_given cs l s closed o w e h k = each_both (λ c. SaysTrue l closed c) (λ c. c.number ≢ number_in (slot_at l s)) (λ c. SaysTrue (with_slot l s (Given o)) closed c) cs
    (λ c x y. (
      (λ a u z. elim (close_cases l s a (Given o) w) [
        | inl i ↦ absurd (y (sym z ∙ (ap number_in i.1 ∙ e)))
        | inr i ↦ subst (λ v. Says (open_in v) c) (sym i.1) (x.0 a (ap is_given (sym i.1) ∙ u) (ap number_in (sym i.1) ∙ z))
      ]),
      x.1,
    )) h k

ltb_some : (m : ℕ) → 1 ≤ m → one_if (ltb 0 m && false) + one_if true ≡ one_if (ltb 0 m && true)
ltb_some m h = elim (leb_tells 1 m) [
  | inl i ↦ (let e : ltb 0 m ≡ true = i.0 in rw e refl)
  | inr i ↦ (let k = i.1 in absurd (omega arith))
]

none_above : (cs : List AnswerCall) (n i k : ℕ) → k < n → AllByRecursion (λ c. (1 ≤ c.number) × (c.number ≤ k)) cs → calls_for n i cs ≡ 0
none_above [] n i k w h = refl
none_above (c ∷ cs) n i k w h = let a = none_above cs n i k w h.1 in let b = ap one_if (for_other n i c (λ e. (let z : n ≡ c.number = e in let y = h.0.1 in absurd (omega arith)))) in omega arith

pub over_out : (P : Open → Type 0) (q : Slot → Bool) (l : Ledger) (s : ℕ) (x : Slot) → s < length l.slots → q x ≡ false → ((a : ℕ) → q (slot_at l a) ≡ true → P (open_in (slot_at l a))) → (a : ℕ) → q (slot_at (with_slot l s x) a) ≡ true → P (open_in (slot_at (with_slot l s x) a))
over_out P q l s x h e g a w = elim (close_cases l s a x h) [
  | inl i ↦ absurd (yes_no (q x) (ap q (sym i.1) ∙ w) e)
  | inr i ↦ subst (λ y. P (open_in y)) (sym i.1) (g a (ap q (sym i.1) ∙ w))
]

range_more : (m k : ℕ) → one_if (ltb 0 m && leb m k) + one_if (eqb (k + 1) m) ≡ one_if (ltb 0 m && leb m (k + 1))
range_more m k = elim (leb_tells m k) [
  | inl i ↦ (let u = i.1 in elim (eqb_tells (k + 1) m) [
    | inl j ↦ (let v = j.1 in absurd (omega arith))
    | inr j ↦ (elim (leb_tells m (k + 1)) [
      | inl h ↦ rw (i.0, j.0, h.0) (omega arith)
      | inr h ↦ (let v = h.1 in absurd (omega arith))
    ])
  ])
  | inr i ↦ (let u = i.1 in elim (eqb_tells (k + 1) m) [
    | inl j ↦ (let v = j.1 in elim (leb_tells m (k + 1)) [
      | inl h ↦ rw (i.0, j.0, h.0) (ltb_some m (omega arith))
      | inr h ↦ (let w = h.1 in absurd (omega arith))
    ])
    | inr j ↦ (elim (leb_tells m (k + 1)) [
      | inl h ↦ (let v = h.1 in absurd (j.1 (omega arith)))
      | inr h ↦ rw (i.0, j.0, h.0) (omega arith)
    ])
  ])
]

-- one more transaction is taken, and is out
pub sound_take : {I K A C D : Type 0} (gi : Intake.Ghosts I) (gk : Sink.Ghosts K) (ga : Answerer.Ghosts A) (gc : Clock.Ghosts C) (gd : Derive.Ghosts D) (f : FloorView I K A C D) (closed : List Past) (s : ℕ) (i : I) (c : C) (t : Txn)
    → Sound gi gk ga gc gd f closed → s < length f.ledger.slots → slot_at f.ledger s ≡ Free → f.outside.ending ≡ None → TakesNext gi gc f.outside i c t
    → Sound gi gk ga gc gd (record f { ledger = with_slot f.ledger s (Out (f.outside.taken + 1) t.moment (length t.items.list)); outside = record f.outside { intake = i; clock = c; taken = f.outside.taken + 1 } }) closed
sound_take gi gk ga gc gd f closed s i c t h w free goes next =
    let x : Slot = Out (f.outside.taken + 1) t.moment (length t.items.list) in
    let l = next_later gi gc f.outside i c t next in
    let later : (o : Open) → Planned gi gc gd f.outside o → Planned gi gc gd (record f.outside { intake = i; clock = c; taken = f.outside.taken + 1 }) o = λ o p. planned_later gi gc gd f.outside i c (f.outside.taken + 1) f.outside.ending f.outside.refused_memory o l p in
    record {
      placed = λ j. (let a = in_slots_set j f.ledger.slots s (Out (f.outside.taken + 1) t.moment (length t.items.list)) w in
          let b : here j (slot_at f.ledger s) ≡ 0 = ap (here j) free in
          let d = h.placed j in
          let e = range_more j f.outside.taken in omega arith);
      policies = h.policies;
      sinks = h.sinks;
      releases = h.releases;
      few = h.few;
      wide = h.wide;
      entries = h.entries;
      course = course_next gi gc f.outside i c t h.course goes next;
      counted = h.counted;
      summed = h.summed;
      refusals = h.refusals;
      expected = λ a e. elim (close_cases f.ledger s a (Out (f.outside.taken + 1) t.moment (length t.items.list)) w) [
        | inl j ↦ subst (λ y. Taken gi gc (record f.outside { intake = i; clock = c; taken = f.outside.taken + 1 }) (number_in y) (moment_in y) (items_in y)) (sym j.1)
            (λ p q r. (t, record { is = next_is gi gc f.outside i c t h.course next p q r; number = next.number; moment = refl; items = refl }))
        | inr j ↦ subst (λ y. Taken gi gc (record f.outside { intake = i; clock = c; taken = f.outside.taken + 1 }) (number_in y) (moment_in y) (items_in y)) (sym j.1)
            (taken_later gi gc f.outside i c (f.outside.taken + 1) f.outside.ending f.outside.refused_memory _ _ _ l (h.expected a (ap is_out (sym j.1) ∙ e)))
      ];
      untouched = over_trees (λ v. Untouched v) f.ledger s (Out (f.outside.taken + 1) t.moment (length t.items.list)) w (λ b. tt) h.untouched;
      past_answered = h.past_answered;
      done = over_out (λ y. AnsweredSettled y) is_given f.ledger s (Out (f.outside.taken + 1) t.moment (length t.items.list)) w refl h.done;
      past_done = h.past_done;
      past_untouched = h.past_untouched;
      shaped = over_out (λ y. Shaped gd f.outside y) is_given f.ledger s (Out (f.outside.taken + 1) t.moment (length t.items.list)) w refl h.shaped;
      planned = over_out (λ y. Planned gi gc gd (record f.outside { intake = i; clock = c; taken = f.outside.taken + 1 }) y) is_given f.ledger s (Out (f.outside.taken + 1) t.moment (length t.items.list)) w refl (λ a e. later (open_in (slot_at f.ledger a)) (h.planned a e));
      past_taken = each_map (λ p. WasTaken gi gc gd f.outside p) (λ p. WasTaken gi gc gd (record f.outside { intake = i; clock = c; taken = f.outside.taken + 1 }) p) closed
          (λ p y. record { planned = λ e. later p.state (y.planned e); shaped = y.shaped; refused = λ e. taken_later gi gc f.outside i c (f.outside.taken + 1) f.outside.ending f.outside.refused_memory _ _ _ l (y.refused e); without = y.without }) h.past_taken;
      told = λ d. over_out (λ y. Told gk f.sinks d y) is_given f.ledger s (Out (f.outside.taken + 1) t.moment (length t.items.list)) w refl (h.told d);
      past_told = h.past_told;
      unwritten = λ d q b k j v y. h.unwritten d q b k j v (
        (λ a e. elim (close_cases f.ledger s a (Out (f.outside.taken + 1) t.moment (length t.items.list)) w) [
          | inl u ↦ (let z : is_given Free ≡ true = ap is_given (sym (ap (slot_at f.ledger) u.0 ∙ free)) ∙ e in cc)
          | inr u ↦ (λ z. y.0 a (ap is_given u.1 ∙ e) (ap number_in u.1 ∙ z))
        ]),
        y.1,
      );
      owned = λ d. owned_out gk f.releases f.ledger s (Out (f.outside.taken + 1) t.moment (length t.items.list)) closed closed f.sinks d w (ap is_given free) (λ k x y. y) (h.owned d);
      called = λ tells a e. elim (close_cases f.ledger s a (Out (f.outside.taken + 1) t.moment (length t.items.list)) w) [
        | inl u ↦ subst (λ y. Called (ga.calls f.answerer) (open_in y)) (sym u.1) (λ j. none_above (ga.calls f.answerer) (f.outside.taken + 1) j f.outside.taken (omega arith) (h.no_other tells))
        | inr u ↦ subst (λ y. Called (ga.calls f.answerer) (open_in y)) (sym u.1) (h.called tells a (ap is_free (sym u.1) ∙ e))
      ];
      past_called = h.past_called;
      says = λ tells. each_map (λ y. SaysTrue f.ledger closed y) (λ y. SaysTrue (with_slot f.ledger s (Out (f.outside.taken + 1) t.moment (length t.items.list))) closed y) (ga.calls f.answerer)
          (λ y z. (over_out (λ o. o.number ≡ y.number → Says o y) is_given f.ledger s (Out (f.outside.taken + 1) t.moment (length t.items.list)) w refl z.0, z.1)) (h.says tells);
      answer_faults = h.answer_faults;
      no_other = λ tells. each_map (λ y. (1 ≤ y.number) × (y.number ≤ f.outside.taken)) (λ y. (1 ≤ y.number) × (y.number ≤ f.outside.taken + 1)) (ga.calls f.answerer) (λ y z. (z.0, (let k = z.1 in omega arith))) (h.no_other tells);
    }

-- the intake gave no batch more, and the run ends
pub sound_stop : {I K A C D : Type 0} (gi : Intake.Ghosts I) (gk : Sink.Ghosts K) (ga : Answerer.Ghosts A) (gc : Clock.Ghosts C) (gd : Derive.Ghosts D) (f : FloorView I K A C D) (closed : List Past) (i : I) (r : Next) (s : Stops gi f.outside i r)
    → Sound gi gk ga gc gd f closed
    → Sound gi gk ga gc gd (record f { outside = record f.outside { intake = i; ending = Some s.ending } }) closed
sound_stop gi gk ga gc gd f closed i r s h =
    let l = stop_later gi gc f.outside i r s in
    record {
      placed = h.placed;
      course = course_stop gi gc f.outside i r s h.course;
      expected = λ a e. taken_later gi gc f.outside i f.outside.clock f.outside.taken (Some s.ending) f.outside.refused_memory _ _ _ l (h.expected a e);
      planned = λ a e. planned_later gi gc gd f.outside i f.outside.clock f.outside.taken (Some s.ending) f.outside.refused_memory _ l (h.planned a e);
      shaped = h.shaped;
      past_taken = each_map (λ p. WasTaken gi gc gd f.outside p) (λ p. WasTaken gi gc gd (record f.outside { intake = i; ending = Some s.ending }) p) closed
          (λ p y. record { planned = λ e. planned_later gi gc gd f.outside i f.outside.clock f.outside.taken (Some s.ending) f.outside.refused_memory _ l (y.planned e); shaped = y.shaped; refused = λ e. taken_later gi gc f.outside i f.outside.clock f.outside.taken (Some s.ending) f.outside.refused_memory _ _ _ l (y.refused e); without = y.without }) h.past_taken;
      past_answered = h.past_answered;
      done = h.done;
      past_done = h.past_done;
      past_untouched = h.past_untouched;
      untouched = h.untouched;
      told = h.told;
      past_told = h.past_told;
      unwritten = h.unwritten;
      owned = h.owned;
      called = h.called;
      past_called = h.past_called;
      says = h.says;
      no_other = h.no_other;
      answer_faults = h.answer_faults;
      counted = h.counted;
      summed = h.summed;
      refusals = h.refusals;
      policies = h.policies;
      sinks = h.sinks;
      releases = h.releases;
      few = h.few;
      wide = h.wide;
      entries = h.entries;
    }

-- parts are given to a transaction that was out
pub sound_give : {I K A C D : Type 0} (gi : Intake.Ghosts I) (gk : Sink.Ghosts K) (ga : Answerer.Ghosts A) (gc : Clock.Ghosts C) (gd : Derive.Ghosts D) (f : FloorView I K A C D) (closed : List Past) (s : ℕ) (ps : List Part)
    → Sound gi gk ga gc gd f closed → s < length f.ledger.slots → IsOut (slot_at f.ledger s) → PartsFit (gd.sinks f.outside.plan) (length (gd.policies f.outside.plan)) (items_in (slot_at f.ledger s)) ps
    → Derived gi gc gd f.outside (number_in (slot_at f.ledger s)) ps
    → Sound gi gk ga gc gd (record f { ledger = with_slot f.ledger s (Given (given_open (slot_at f.ledger s) ps)) }) closed
sound_give gi gk ga gc gd f closed s ps h w out fit derived =
    let plan : Planned gi gc gd f.outside (given_open (slot_at f.ledger s) ps) = λ x y z. (let e = h.expected s (out_is (slot_at f.ledger s) out) x y z in (
      e.0,
      record {
        taken = record { is = e.1.is; number = e.1.number; moment = e.1.moment; items = e.1.items ∙ sym (length-replicate (items_in (slot_at f.ledger s)) false) };
        parts = fresh_parts _ _ _ ps fit ∙ derived x y z e.0 e.1.is e.1.number;
      },
    )) in
    let taken = out_taken (slot_at f.ledger s) out in
    let n = number_in (slot_at f.ledger s) in
    let no : is_given (slot_at f.ledger s) ≡ true → ⊥ = out_given (slot_at f.ledger s) out in
    let gone = gone_by f.ledger.slots closed (number_in (slot_at f.ledger s)) _ s (h.placed (number_in (slot_at f.ledger s))) taken refl in
    let known : Unknown f.ledger closed (number_in (slot_at f.ledger s)) = (
      λ a e z. no (subst (λ x. is_given (slot_at f.ledger x) ≡ true) (sym (apart_by f.ledger.slots (number_in (slot_at f.ledger s)) _ _ s a (h.placed (number_in (slot_at f.ledger s))) taken (given_taken (slot_at f.ledger a) e) refl z)) e),
      each_map (λ q. q.state.number ≢ number_in (slot_at f.ledger s)) (λ q. q.memory ≡ false → q.state.number ≢ number_in (slot_at f.ledger s)) closed (λ q x _. x) gone,
    ) in
    let called : IsTrue (ga.tells f.answerer) → Called (ga.calls f.answerer) (given_open (slot_at f.ledger s) ps) = λ tells i. (let a = h.called tells s taken i in a ∙ ap one_if (ap (λ bs. get_or bs i false) (out_answers (slot_at f.ledger s) out) ∙ sym (none_in i (items_in (slot_at f.ledger s))))) in
    record {
      placed = λ m. (let a = in_slots_set m f.ledger.slots s (Given (given_open (slot_at f.ledger s) ps)) w in
          let b : here m (Given (given_open (slot_at f.ledger s) ps)) ≡ here m (slot_at f.ledger s) = sym (ap (λ v. one_if (not v && eqb (number_in (slot_at f.ledger s)) m)) taken) in
          let d = h.placed m in omega arith);
      policies = h.policies;
      sinks = h.sinks;
      releases = h.releases;
      few = h.few;
      wide = h.wide;
      entries = h.entries;
      course = h.course;
      counted = h.counted;
      summed = h.summed;
      refusals = h.refusals;
      expected = over_slot (λ y. Taken gi gc f.outside (number_in y) (moment_in y) (items_in y)) is_out f.ledger s (Given (given_open (slot_at f.ledger s) ps)) w refl h.expected;
      untouched = over_trees (λ v. Untouched v) f.ledger s (Given (given_open (slot_at f.ledger s) ps)) w (λ b. unbegun-untouched (tree_of ps b) (fresh_at _ _ _ ps b fit)) h.untouched;
      past_answered = h.past_answered;
      done = over_give (λ x. AnsweredSettled x) is_given true f.ledger s (given_open (slot_at f.ledger s) ps) w (λ a _ e. h.done a e) (done_none (given_open (slot_at f.ledger s) ps) (items_in (slot_at f.ledger s)) refl);
      past_done = h.past_done;
      past_untouched = h.past_untouched;
      shaped = over_give (λ x. Shaped gd f.outside x) is_given true f.ledger s (given_open (slot_at f.ledger s) ps) w (λ a _ e. h.shaped a e)
          (subst (λ us. PartsFit (gd.sinks f.outside.plan) (length (gd.policies f.outside.plan)) (length (replicate (items_in (slot_at f.ledger s)) false)) us) (sym (fresh_parts _ _ _ ps fit)) (subst (λ m. PartsFit (gd.sinks f.outside.plan) (length (gd.policies f.outside.plan)) m ps) (sym (length-replicate (items_in (slot_at f.ledger s)) false)) fit));
      planned = over_give (λ x. Planned gi gc gd f.outside x) is_given true f.ledger s (given_open (slot_at f.ledger s) ps) w (λ a _ e. h.planned a e) plan;
      past_taken = h.past_taken;
      told = λ d. over_give (λ x. Told gk f.sinks d x) is_given true f.ledger s (given_open (slot_at f.ledger s) ps) w (λ a _ e. h.told d a e)
          (λ p. fresh_by (λ k m x. LeafTold gk f.sinks d (number_in (slot_at f.ledger s)) p k m x) (λ k. k < gd.sinks f.outside.plan) (tree_of ps p) (fresh_at _ _ _ ps p fit) (known_at _ _ _ ps p fit) (λ k m v. h.unwritten d (number_in (slot_at f.ledger s)) p k m (let q = h.sinks in omega arith) known));
      past_told = h.past_told;
      unwritten = λ d m b k j v x. h.unwritten d m b k j v (
        (λ a e. elim (close_cases f.ledger s a (Given (given_open (slot_at f.ledger s) ps)) w) [
          | inl i ↦ absurd (no (subst (λ y. is_given (slot_at f.ledger y) ≡ true) i.0 e))
          | inr i ↦ (λ z. x.0 a (ap is_given i.1 ∙ e) (ap number_in i.1 ∙ z))
        ]),
        x.1,
      );
      owned = λ d. owned_out gk f.releases f.ledger s (Given (given_open (slot_at f.ledger s) ps)) closed closed f.sinks d w (given_no (slot_at f.ledger s) out) (λ k x y. y) (h.owned d);
      called = λ tells. over_give (λ x. Called (ga.calls f.answerer) x) is_free false f.ledger s (given_open (slot_at f.ledger s) ps) w (λ a _ e. h.called tells a e) (called tells);
      past_called = h.past_called;
      says = λ tells. says_given (ga.calls f.answerer) f.ledger s closed (given_open (slot_at f.ledger s) ps) w refl (h.says tells) (each_none (ga.calls f.answerer) (number_in (slot_at f.ledger s)) (λ i. called tells i ∙ ap one_if (none_in i (items_in (slot_at f.ledger s)))));
      no_other = h.no_other;
      answer_faults = h.answer_faults;
    }

free_at : (w s : ℕ) → get_or (replicate w Free) s Free ≡ Free
free_at zero s = refl
free_at (suc w) zero = refl
free_at (suc w) (suc s) = free_at w s

none_placed : (n w : ℕ) → in_slots n (replicate w Free) ≡ 0
none_placed n zero = refl
none_placed n (suc w) = let a = none_placed n w in omega arith

none_ranged : (n : ℕ) → one_if (ltb 0 n && leb n 0) ≡ 0
none_ranged n = elim (leb_tells n 0) [
  | inl i ↦ (let z : n ≡ 0 = (let k = i.1 in omega arith) in ap (λ q. one_if (ltb 0 q && leb q 0)) z)
  | inr i ↦ ap (λ q. one_if (ltb 0 n && q)) i.0 ∙ ap one_if (and_no (ltb 0 n) false refl)
]

-- a floor on which nothing was taken
pub sound_make : {I K A C D : Type 0} (gi : Intake.Ghosts I) (gk : Sink.Ghosts K) (ga : Answerer.Ghosts A) (gc : Clock.Ghosts C) (gd : Derive.Ghosts D) (f : FloorView I K A C D) (w : ℕ)
    → f.ledger.slots ≡ replicate w Free → f.ledger.policies ≡ gd.policies f.outside.plan → length f.sinks ≡ gd.sinks f.outside.plan → length f.releases ≡ length f.ledger.policies → length f.releases < 2 ^ 32 → 64 ≤ f.ledger.entries
    → f.entries ≡ f.ledger.entries → f.outside.taken ≡ 0 → Course gi gc f.outside → AnswersCounted [] f.counts → ReleasesSum f.releases f.counts → f.outside.refused_memory ≡ f.counts.refused_memory → ((d : K) (k : ℕ) → k < length f.sinks → IsTrue (gk.tells (get_or f.sinks k d)) → (gk.accepted (get_or f.sinks k d) ≡ []) × (gk.refused (get_or f.sinks k d) ≡ [])) → (IsTrue (ga.tells f.answerer) → ga.calls f.answerer ≡ [])
    → Sound gi gk ga gc gd f []
sound_make gi gk ga gc gd f w es ep ek er few wide en et course uncounted summed refusals unwritten unanswered =
    let free : (s : ℕ) → slot_at f.ledger s ≡ Free = λ s. ap (λ xs. get_or xs s Free) es ∙ free_at w s in
    let none_at : (s : ℕ) → is_given (slot_at f.ledger s) ≡ true → ⊥ = λ s e. (let z : is_given Free ≡ true = ap is_given (sym (free s)) ∙ e in cc) in
    record {
      placed = λ n. (let a = ap (in_slots n) es ∙ none_placed n w in let b = ap (λ k. one_if (ltb 0 n && leb n k)) et ∙ none_ranged n in omega arith);
      policies = ep;
      sinks = ek;
      releases = er;
      few = few;
      wide = wide;
      entries = en;
      course = course;
      counted = λ t. subst (λ cs. AnswersCounted cs f.counts) (sym (unanswered t)) uncounted;
      summed = summed;
      refusals = refusals;
      expected = λ s e. (let z : is_out Free ≡ true = ap is_out (sym (free s)) ∙ e in cc);
      shaped = λ s e. absurd (none_at s e);
      planned = λ s e. absurd (none_at s e);
      past_taken = tt;
      past_answered = tt;
      done = λ s e. absurd (none_at s e);
      past_done = tt;
      past_untouched = tt;
      untouched = λ s p. subst (λ x. Untouched (tree_of (parts_in x) p)) (sym (free s)) tt;
      told = λ d s e. absurd (none_at s e);
      past_told = λ d. tt;
      unwritten = λ d n p k l v _. ((λ t. (let u = unwritten d k v t in (ap (records_of n p l) u.0, ap (records_of n p l) u.1))), (λ _. refl));
      owned = λ d k v t. (let u = unwritten d k v t in record { accepted = subst (λ rs. AllByRecursion (λ r. IsOwned f.releases f.ledger [] k r) rs) (sym u.0) tt; refused = subst (λ rs. AllByRecursion (λ r. IsOwned f.releases f.ledger [] k r) rs) (sym u.1) tt });
      called = λ t s e. (let z : is_free Free ≡ false = ap is_free (sym (free s)) ∙ e in cc);
      past_called = λ t. tt;
      says = λ t. subst (λ cs. AllByRecursion (λ c. SaysTrue f.ledger [] c) cs) (sym (unanswered t)) tt;
      answer_faults = λ t z. subst (λ cs. AllByRecursion (λ c. c.failed ≡ false) cs) (sym (unanswered t)) tt;
      no_other = λ t. subst (λ cs. AllByRecursion (λ c. (1 ≤ c.number) × (c.number ≤ f.outside.taken)) cs) (sym (unanswered t)) tt;
    }
