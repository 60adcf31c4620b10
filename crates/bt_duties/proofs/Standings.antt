-- Each call of a desk keeps its standing.
use Rattle.std.proofs.Common.{◌≡◌, ◌≢◌, ℕ, zero, suc, ◌<◌, ◌≤◌, Bool, true, false, eqb, not, ◌||◌, List, [], ◌∷◌, length, get_or, set, arith, refl, sym, ap, ◌∙◌, subst, inl, inr, Option, Some, None, IsSome, length-set}
use Rattle.std.specs.List.{list_any}
use Rattle.std.specs.Prelude.{replicate}
use Rattle.std.proofs.lemmas.Bool.Decides.{eqb_tells}
use Rattle.bt_chains.specs.declared.Entry.{Entry}
use Rattle.bt_demand.specs.declared.routes.HoldPolicy.{HoldPolicy}
use Rattle.bt_duties.specs.DeskView.{DeskView}
use Rattle.bt_duties.specs.Duties.{idle, duty_at, Dutiful, AllIdle}
use Rattle.bt_duties.specs.Standing.{Standing}
use Rattle.bt_duties.specs.declared.duty.Duty.{Duty}
use Rattle.bt_duties.proofs.Duties.{dutiful_after, dutiful_delivered, dutiful_taken, dutiful_make, none_out, all_free, none_opened}
use Rattle.bt_floor.specs.Calls.{Begins, Takes}
use Rattle.bt_floor.specs.declared.making.Parts.{Parts}
use Rattle.bt_leaves.specs.Released.{ReleasedSettled}
use Rattle.bt_ledger.specs.Calls.{IsOut}
use Rattle.bt_ledger.specs.Open.{tree_of}
use Rattle.bt_ledger.specs.Ledger.{Ledger, slot_at, parts_in, is_free, is_given, chain_at, opened}
use Rattle.bt_ledger.specs.declared.slot.Slot.{Slot}
use Rattle.bt_ledger.specs.declared.slot.Slot.TheVariants.{Free, Out, Given}
use Rattle.bt_moves.specs.Moves.{Delivered, Keeps, OutStays, RipensNone, is_out}
use Rattle.bt_moves.specs.Resting.{AllSettled, Emptied, Resting}
use Rattle.bt_moves.proofs.Closing.{resting_flushed, resting_slot}
use Rattle.bt_moves.proofs.Keeping.{closed_quiet, closed_rest}
use Rattle.bt_moves.proofs.Ripening.{empty_unripe}
use Rattle.bt_ports.specs.declared.outside.Clock as Clock
use Rattle.bt_ports.specs.declared.outside.Intake as Intake
use Rattle.bt_ports.specs.declared.parts.Txn.{Txn}
use Rattle.bt_sound.specs.View.{FloorView}

pub out_is : (x : Slot) → is_out x ≡ true → IsOut x
out_is Free e = cc
out_is (Out n m i) e = tt
out_is (Given o) e = cc

free_out : (x : Slot) → is_free x ≡ true → is_out x ≡ true → ⊥
free_out Free a b = cc
free_out (Out n m i) a b = cc
free_out (Given o) a b = cc

-- a duty delivered its transaction
pub standing_delivered : {I K A C D : Type 0} (d : DeskView I K A C D) (g : FloorView I K A C D) (k : ℕ) → Standing d → k < length d.duties → (duty_at d.duties k).number ≢ 0 → Resting g.ledger → Delivered (duty_at d.duties k).slot d.floor.ledger g.ledger → length g.ledger.slots ≡ length d.floor.ledger.slots → g.outside.ending ≡ d.floor.outside.ending
    → Standing (record d { floor = g; duties = set d.duties k idle })
standing_delivered d g k h w b r f n o =
    let u = h.dutiful.known k b in
    record {
      resting = r;
      dutiful = dutiful_delivered d.floor.ledger g.ledger d.duties k w b f h.dutiful;
      window = n ∙ h.window;
      some = h.some;
      finished = λ x. subst (λ v. IsSome v) (sym o) (h.finished x);
      free = λ x. absurd (free_out (slot_at d.floor.ledger (duty_at d.duties k).slot) (h.free x (duty_at d.duties k).slot) u.out);
      empty = λ x. absurd (free_out (slot_at d.floor.ledger (duty_at d.duties k).slot) (h.free x (duty_at d.duties k).slot) u.out);
    }

-- all that waits was released while no duty is out
pub standing_flushed : {I K A C D : Type 0} (d : DeskView I K A C D) (g : FloorView I K A C D) → Standing d → Resting g.ledger → OutStays d.floor.ledger g.ledger → Emptied g.ledger → length g.ledger.slots ≡ length d.floor.ledger.slots → g.outside ≡ d.floor.outside → AllIdle d.duties → ((s : ℕ) → is_given (slot_at g.ledger s) ≡ false) → (b : Bool) → (b ≡ true → IsSome d.floor.outside.ending)
    → Standing (record d { floor = g; finished = b })
standing_flushed d g h r f e n o i c b z =
    let dutiful = dutiful_after d.floor.ledger g.ledger d.duties f h.dutiful in
    record {
      resting = r;
      dutiful = dutiful;
      window = n ∙ h.window;
      some = h.some;
      finished = λ x. subst (λ v. IsSome v.ending) (sym o) (z x);
      free = λ x. all_free g.ledger (none_out g.ledger d.duties dutiful i) c;
      empty = λ x. e;
    }

-- and then every slot is free
pub place_flushed : (l m : Ledger) (ds : List Duty) → Dutiful l ds → OutStays l m → AllIdle ds → ((s : ℕ) → is_given (slot_at m s) ≡ false) → opened m ≡ 0
place_flushed l m ds h f i c = none_opened m (all_free m (none_out m ds (dutiful_after l m ds f h) i) c)

some_none : {E : Type 0} (o : Option E) → IsSome o → o ≡ None → ⊥
some_none None h e = cc
some_none (Some x) h e = cc

-- a transaction was taken for a duty that was idle
pub standing_taken : {I K A C D : Type 0} (gi : Intake.Ghosts I) (gc : Clock.Ghosts C) (d : DeskView I K A C D) (f g : FloorView I K A C D) (k s : ℕ) (t : Txn) → Standing d → d.floor.outside.ending ≡ None → k < length d.duties → (duty_at d.duties k).number ≡ 0
    → Takes gi gc d.floor f s t → Keeps f.ledger g.ledger → RipensNone f.ledger g.ledger → AllSettled g.ledger → OutStays f.ledger g.ledger
    → Standing (record d { floor = g; duties = set d.duties k (record { number = t.number; items = length t.items.list; slot = s }) })
standing_taken gi gc d f g k s t h goes w b take keeps calm settled outs =
    let l = d.floor.ledger in
    let x : Slot = Out t.number t.moment (length t.items.list) in
    let here = take.number in
    let no : is_given (slot_at d.floor.ledger s) ≡ false = ap is_given take.free in
    let rest = resting_slot d.floor.ledger s (Out t.number t.moment (length t.items.list)) take.within no refl h.resting in
    let duty = dutiful_taken d.floor.ledger d.duties k s t.number t.moment (length t.items.list) w b take.within take.free (λ e. (let z = e in absurd (omega arith))) h.dutiful in
    record {
      resting = resting_flushed f.ledger g.ledger (subst (λ q. Resting q) (sym take.ledger) rest) keeps calm settled;
      dutiful = dutiful_after f.ledger g.ledger _ outs (subst (λ q. Dutiful q (set d.duties k (record { number = t.number; items = length t.items.list; slot = s }))) (sym take.ledger) duty);
      window = keeps.slots ∙ (ap (λ (q : Ledger). length q.slots) take.ledger ∙ (length-set d.floor.ledger.slots s (Out t.number t.moment (length t.items.list)) ∙ h.window));
      some = h.some;
      finished = λ y. absurd (some_none d.floor.outside.ending (h.finished y) goes);
      free = λ y. absurd (some_none d.floor.outside.ending (h.finished y) goes);
      empty = λ y. absurd (some_none d.floor.outside.ending (h.finished y) goes);
    }

free_at : (w s : ℕ) → get_or (replicate w Free) s Free ≡ Free
free_at zero s = refl
free_at (suc w) zero = refl
free_at (suc w) (suc s) = free_at w s

empty_at : (w n : ℕ) → get_or {A = List Entry} (replicate w []) n [] ≡ []
empty_at zero n = refl
empty_at (suc w) zero = refl
empty_at (suc w) (suc n) = empty_at w n

many : (w : ℕ) → length {A = Slot} (replicate w Free) ≡ w
many zero = refl
many (suc w) = let a = many w in omega arith

-- after a transaction was taken the floor is still at rest
pub taken_resting : {I K A C D : Type 0} (gi : Intake.Ghosts I) (gc : Clock.Ghosts C) (f g : FloorView I K A C D) (s : ℕ) (t : Txn) → Resting f.ledger → Takes gi gc f g s t → Resting g.ledger
taken_resting gi gc f g s t r take = subst (λ q. Resting q) (sym take.ledger) (resting_slot f.ledger s (Out t.number t.moment (length t.items.list)) take.within (ap is_given take.free) refl r)

-- a desk at its beginning
pub standing_made : {I K A C D : Type 0} (f : FloorView I K A C D) (plan : D) (policies : List HoldPolicy) (p : Parts I K A C) (w e n : ℕ) → Begins f plan policies p w e → 1 ≤ w
    → Standing {I = I} {K = K} {A = A} {C = C} {D = D} (record { floor = f; duties = replicate n idle; window = w; finished = false })
standing_made f plan policies p w e n b s =
    let free : (a : ℕ) → slot_at f.ledger a ≡ Free = λ a. ap (λ (q : Ledger). slot_at q a) b.ledger ∙ free_at w a in
    let closed : (a : ℕ) → is_given (slot_at f.ledger a) ≡ false = λ a. ap is_given (free a) in
    record {
      resting = record {
        quiet = λ a c. closed_quiet (slot_at f.ledger a) c (closed a);
        settled = λ a c. subst (λ x. ReleasedSettled (tree_of (parts_in x) c)) (sym (free a)) tt;
        rest = λ a. closed_rest f.ledger a (closed a);
        calm = λ k. empty_unripe f.ledger k (ap (λ (q : Ledger). chain_at q k) b.ledger ∙ empty_at (length policies) k);
      };
      dutiful = dutiful_make f.ledger n free;
      window = ap (λ (q : Ledger). length q.slots) b.ledger ∙ many w;
      some = s;
      finished = λ x. (let z : false ≡ true = x in cc);
      free = λ x. (let z : false ≡ true = x in cc);
      empty = λ x. (let z : false ≡ true = x in cc);
    }

none_not : (d : Duty) → not (eqb d.number 0) ≡ false → d.number ≡ 0
none_not d e = elim (eqb_tells d.number 0) [ inl h ↦ h.1 | inr h ↦ (let a : not false ≡ false = sym (ap not h.0) ∙ e in cc) ]

some_out : (b c : Bool) → b || c ≡ true → b ≡ false → c ≡ true
some_out true c e f = cc
some_out false c e f = e

none_left : (b c : Bool) → b || c ≡ false → b ≡ false
none_left true c e = cc
none_left false c e = refl

none_right : (b c : Bool) → b || c ≡ false → c ≡ false
none_right true c e = cc
none_right false c e = e

-- some duty is out
pub any_out : (ds : List Duty) → list_any (λ (d : Duty). not (eqb d.number 0)) ds ≡ true → (k : ℕ) × ((duty_at ds k).number ≢ 0)
any_out [] e = cc
any_out (d ∷ ds) e = elim (eqb_tells d.number 0) [
  | inr h ↦ (0, h.1)
  | inl h ↦ (let r = any_out ds (some_out (not (eqb d.number 0)) (list_any (λ (d : Duty). not (eqb d.number 0)) ds) e (ap not h.0)) in (suc r.0, r.1))
]

busy_at : (d : Duty) (ds : List Duty) (k : ℕ) → d.number ≡ 0 → AllIdle ds → (duty_at (d ∷ ds) k).number ≡ 0
busy_at d ds zero e h = e
busy_at d ds (suc k) e h = h k

-- none is
pub none_busy : (ds : List Duty) → list_any (λ (d : Duty). not (eqb d.number 0)) ds ≡ false → AllIdle ds
none_busy [] e = λ k. refl
none_busy (d ∷ ds) e = λ k. busy_at d ds k (none_not d (none_left (not (eqb d.number 0)) (list_any (λ (d : Duty). not (eqb d.number 0)) ds) e)) (none_busy ds (none_right (not (eqb d.number 0)) (list_any (λ (d : Duty). not (eqb d.number 0)) ds) e))
