-- Slots that are taken and freed.
use Rattle.std.proofs.Common.{◌≡◌, ℕ, ◌+◌, ◌<◌, false, cond, List, [], ◌∷◌, ◌++◌, length, arith, refl, sym, ap, ◌∙◌, subst, length-set}
use Rattle.bt_ledger.specs.Ledger.{Ledger, slot_at, parts_in, is_free, is_given, with_slot}
use Rattle.bt_ledger.specs.declared.slot.Slot.{Slot}
use Rattle.bt_ledger.specs.declared.slot.Slot.TheVariants.{Free, Out, Given}
use Rattle.bt_ledger.specs.Calls.{IsOut}
use Rattle.bt_ledger.specs.Kept.{Kept, Vacant}
use Rattle.bt_ledger.specs.declared.tally.Tally.{Tally}
use Rattle.bt_ledger.proofs.BookSlots.{Quiet, Fitting, book_slot, booked_slot, tallied_slot, empty_quiet, empty_good}
use Rattle.bt_ledger.proofs.Slots.{vacant_same, taken_set, vacant_last, vacant_pop, vacant_push, taken_some}

length_plus : (vs : List ℕ) (s : ℕ) → length (vs ++ s ∷ []) ≡ length vs + 1
length_plus [] s = refl
length_plus (v ∷ vs) s = let a = length_plus vs s in omega arith

pub kept_admit : (l : Ledger) (s n m i b : ℕ) (vs ws : List ℕ) (ts : List Tally) (cap : ℕ) → Kept l b ws ts cap → ws ≡ vs ++ s ∷ [] → Kept (with_slot l s (Out n m i)) b vs ts cap
kept_admit l s n m i b vs ws ts cap k e =
    let v : Vacant l.slots (vs ++ s ∷ []) = subst (λ (xs : List ℕ). Vacant l.slots xs) e k.vacancy in
    let f = vacant_last l.slots vs s v in
    let q : Quiet (parts_in (slot_at l s)) = rw f.1 empty_quiet in
    let len = length-set l.slots s (Out n m i) in
    record {
      book = book_slot l s (Out n m i) k.book f.0 q empty_quiet (empty_good l);
      number = k.number ∙ sym (booked_slot l s (Out n m i) f.0 q empty_quiet);
      vacancy = vacant_pop l.slots vs s (Out n m i) v refl;
      counted = (let a = taken_set l.slots s (Out n m i) f.0 in
          let c : cond {A = ℕ} (is_free (slot_at l s)) 0 1 ≡ 0 = ap (λ (x : Slot). cond {A = ℕ} (is_free x) 0 1) f.1 in
          let d = k.counted in
          let g : length ws ≡ length vs + 1 = ap length e ∙ length_plus vs s in
          omega arith);
      tallied = tallied_slot l s (Out n m i) ts k.book q k.tallied;
      room = (let a = k.room in omega arith);
      small = ((let a = k.small.0 in omega arith), k.small.1);
    }

pub kept_free : (l : Ledger) (s b : ℕ) (vs : List ℕ) (ts : List Tally) (cap : ℕ) → Kept l b vs ts cap → s < length l.slots → is_free (slot_at l s) ≡ false → Quiet (parts_in (slot_at l s)) → Kept (with_slot l s Free) b (vs ++ s ∷ []) ts cap
kept_free l s b vs ts cap k h f q =
    let len = length-set l.slots s Free in
    record {
      book = book_slot l s Free k.book h q empty_quiet (empty_good l);
      number = k.number ∙ sym (booked_slot l s Free h q empty_quiet);
      vacancy = vacant_push l.slots vs s k.vacancy h f;
      counted = (let a = taken_set l.slots s Free h in
          let c : cond {A = ℕ} (is_free (slot_at l s)) 0 1 ≡ 1 = ap {B = ℕ} (λ b. cond b 0 1) f in
          let d = k.counted in
          let g = length_plus vs s in
          omega arith);
      tallied = tallied_slot l s Free ts k.book q k.tallied;
      room = (let a = k.room in omega arith);
      small = ((let a = k.small.0 in omega arith), k.small.1);
    }

-- there is room for the number of a slot that is taken
pub free_room : (l : Ledger) (s b : ℕ) (vs : List ℕ) (ts : List Tally) (cap : ℕ) → Kept l b vs ts cap → s < length l.slots → is_free (slot_at l s) ≡ false → length vs < cap
free_room l s b vs ts cap k h f = let a = taken_some l.slots s h f in let c = k.counted in let d = k.room in omega arith

pub kept_give : (l : Ledger) (s b : ℕ) (x : Slot) (vs : List ℕ) (ts : List Tally) (cap : ℕ) → Kept l b vs ts cap → s < length l.slots → is_free (slot_at l s) ≡ false → is_free x ≡ false → Quiet (parts_in (slot_at l s)) → Quiet (parts_in x) → Fitting l (parts_in x)
    → Kept (with_slot l s x) b vs ts cap
kept_give l s b x vs ts cap k h f g q r w =
    let len = length-set l.slots s x in
    record {
      book = book_slot l s x k.book h q r w;
      number = k.number ∙ sym (booked_slot l s x h q r);
      vacancy = vacant_same l.slots vs s x k.vacancy h (g ∙ sym f);
      counted = (let a = taken_set l.slots s x h in
          let c : cond {A = ℕ} (is_free (slot_at l s)) 0 1 ≡ 1 = ap {B = ℕ} (λ b. cond b 0 1) f in
          let e : cond {A = ℕ} (is_free x) 0 1 ≡ 1 = ap {B = ℕ} (λ b. cond b 0 1) g in
          let d = k.counted in
          omega arith);
      tallied = tallied_slot l s x ts k.book q k.tallied;
      room = (let a = k.room in omega arith);
      small = ((let a = k.small.0 in omega arith), k.small.1);
    }

pub no_parts : (x : Slot) → is_given x ≡ false → parts_in x ≡ []
no_parts Free e = refl
no_parts (Out n m i) e = refl
no_parts (Given o) e = cc

pub out_taken : (x : Slot) → IsOut x → is_free x ≡ false
out_taken Free h = absurd h
out_taken (Out n m i) h = refl
out_taken (Given o) h = refl

pub out_empty : (x : Slot) → IsOut x → parts_in x ≡ []
out_empty Free h = refl
out_empty (Out n m i) h = refl
out_empty (Given o) h = absurd h
