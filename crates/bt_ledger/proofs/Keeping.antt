-- What a ledger keeps, after each of its calls on parts.
use Rattle.std.proofs.Common.{◌≡◌, ℕ, ◌+◌, ◌-◌, ◌<◌, ◌≤◌, ◌^◌, Bool, cond, List, ◌∷◌, length, get_or, set, inl, inr, arith, sym, ap, ◌∙◌, Some, length-set}
use Rattle.std.proofs.lemmas.Bool.Decides.{leb_tells}
use Rattle.bt_demand.specs.Steps.{settle, wait, release, state_for}
use Rattle.bt_demand.specs.Next.{todo}
use Rattle.bt_demand.specs.Holding.{waiting, booked_in}
use Rattle.bt_demand.specs.declared.todo.Todo.TheVariants.{Wait}
use Rattle.bt_chains.specs.declared.Entry.{Entry}
use Rattle.bt_ledger.specs.Open.{with_tree}
use Rattle.bt_ledger.specs.Ledger.{Ledger, slot_at, parts_in, is_free, open_in, part_tree, IsPart, with_part, chain_at, with_chain, opened, booked, held, Roomy}
use Rattle.bt_ledger.specs.declared.slot.Slot.TheVariants.{Given}
use Rattle.bt_ledger.specs.Book.{Booked}
use Rattle.bt_ledger.specs.Calls.{waited}
use Rattle.std.proofs.lemmas.List.{get_or_default}
use Rattle.bt_ledger.specs.Kept.{Kept, Vacant, no_tally}
use Rattle.bt_steps.specs.Stepped.{stepped}
use Rattle.bt_steps.specs.declared.step.Step.{Step}
use Rattle.bt_steps.specs.declared.step.Step.TheVariants.{Settle, Wait as Waits, Release}
use Rattle.bt_ledger.specs.declared.tally.Tally.{Tally}
use Rattle.bt_demand.specs.Holding.{held_by}
use Rattle.bt_ledger.proofs.BookKept.{book_settle, book_hold, book_release, bound_step, waiting_begun}
use Rattle.bt_ledger.proofs.Sums.{slots_le}
use Rattle.bt_steps.proofs.BookLaws.{waiting_booked}
use Rattle.bt_ledger.proofs.Fronts.{front_part}
use Rattle.bt_ledger.proofs.Slots.{vacant_same, part_taken, taken_set}
use Rattle.bt_steps.proofs.Steps.{next_at}
use Rattle.bt_ledger.proofs.Tallies.{tallied_step, tallied_hold, tallied_release, sizes_under, chain_under}

-- a hold that is next is one of the ledger's
pub next_known : (l : Ledger) (s p n : ℕ) → Booked l → todo (part_tree l s p) ≡ Some (Wait n) → n < length l.policies
next_known l s p n b e =
    let a = next_at n (part_tree l s p) e in
    elim (leb_tells (length l.policies) n) [
      | inl h ↦ (let z = b.known s p n h.1 in absurd (omega arith))
      | inr h ↦ h.1
    ]

-- the slots and their list after a step
counted_step : (l : Ledger) (s p : ℕ) (st : Step) (vs : List ℕ) → IsPart l s p → length vs + opened l ≡ length l.slots → length vs + opened (with_part l s p (stepped st (part_tree l s p))) ≡ length (with_part l s p (stepped st (part_tree l s p))).slots
counted_step l s p st vs h e =
    let x = Given (record (open_in (slot_at l s)) { parts = with_tree (parts_in (slot_at l s)) p (stepped st (part_tree l s p)) }) in
    let a = taken_set l.slots s (Given (record (open_in (slot_at l s)) { parts = with_tree (parts_in (slot_at l s)) p (stepped st (part_tree l s p)) })) h.0 in
    let b : cond {A = ℕ} (is_free (slot_at l s)) 0 1 ≡ 1 = ap {B = ℕ} (λ b. cond b 0 1) (part_taken (slot_at l s) p h.1) in
    let c = length-set l.slots s (Given (record (open_in (slot_at l s)) { parts = with_tree (parts_in (slot_at l s)) p (stepped st (part_tree l s p)) })) in
    omega arith

vacant_step : (l : Ledger) (s p : ℕ) (st : Step) (vs : List ℕ) → IsPart l s p → Vacant l.slots vs → Vacant (with_part l s p (stepped st (part_tree l s p))).slots vs
vacant_step l s p st vs h v = vacant_same l.slots vs s (Given (record (open_in (slot_at l s)) { parts = with_tree (parts_in (slot_at l s)) p (stepped st (part_tree l s p)) })) v h.0 (sym (part_taken (slot_at l s) p h.1))

pub kept_settle : (l : Ledger) (s p leaf : ℕ) (ok : Bool) (b c : ℕ) (vs : List ℕ) (ts : List Tally) (cap : ℕ) → Kept l b vs ts cap → IsPart l s p → Roomy l s p
    → c ≡ booked (with_part l s p (settle leaf (state_for ok) (part_tree l s p))) → Kept (with_part l s p (settle leaf (state_for ok) (part_tree l s p))) c vs ts cap
kept_settle l s p lf ok b c vs ts cap k h r e =
    let len = length-set l.slots s (Given (record (open_in (slot_at l s)) { parts = with_tree (parts_in (slot_at l s)) p (settle lf (state_for ok) (part_tree l s p)) })) in
    record {
      book = book_settle l s p lf ok k.book h r;
      number = e;
      vacancy = vacant_step l s p (Settle lf ok) vs h k.vacancy;
      counted = counted_step l s p (Settle lf ok) vs h k.counted;
      tallied = tallied_step l s p (Settle lf ok) ts h k.tallied;
      room = (let a = k.room in omega arith);
      small = ((let a = k.small.0 in omega arith), k.small.1);
    }

pub kept_hold : (l : Ledger) (s p n : ℕ) (b c : ℕ) (vs : List ℕ) (ts : List Tally) (cap : ℕ) (was : Tally) (size : ℕ) (ends : Bool) → Kept l b vs ts cap → IsPart l s p → Roomy l s p → todo (part_tree l s p) ≡ Some (Wait n)
    → c ≡ booked (with_part l s p (wait n (part_tree l s p))) → was ≡ get_or ts n was → Some (record { ends = ends; size = size }) ≡ held_by n (part_tree l s p) → size < 2 ^ 64
    → Kept (waited l s p n) c vs (set ts n (record { bytes = was.bytes + size; ends = ends })) cap
kept_hold l s p n b c vs ts cap was size ends k h r x e f g w =
    let known = next_known l s p n k.book x in
    let same = k.book.chains in
    let within : n < length l.chains = omega arith in
    let len = length-set l.slots s (Given (record (open_in (slot_at l s)) { parts = with_tree (parts_in (slot_at l s)) p (wait n (part_tree l s p)) })) in
    record {
      book = book_hold l s p n k.book h r x within;
      number = e;
      vacancy = vacant_step l s p (Waits n) vs h k.vacancy;
      counted = counted_step l s p (Waits n) vs h k.counted;
      tallied = tallied_hold l s p n ts was size ends h within k.tallied f g w;
      room = (let a = k.room in omega arith);
      small = ((let a = k.small.0 in omega arith), k.small.1);
    }

pub kept_release : (l : Ledger) (n : ℕ) (x : Entry) (es : List Entry) (b c : ℕ) (vs : List ℕ) (ts : List Tally) (cap : ℕ) (was : Tally) → Kept l b vs ts cap → n < length l.policies → chain_at l n ≡ x ∷ es
    → c ≡ booked (with_part l x.slot x.part (release n (part_tree l x.slot x.part))) → was ≡ get_or ts n was
    → Kept (with_chain (with_part l x.slot x.part (release n (part_tree l x.slot x.part))) n es) c vs (set ts n (record { bytes = was.bytes - x.size; ends = was.ends })) cap
kept_release l n x es b c vs ts cap was k w q e f =
    let h = (front_part l n x es k.book q).0 in
    let same = k.book.chains in
    let within : n < length l.chains = omega arith in
    let len = length-set l.slots x.slot (Given (record (open_in (slot_at l x.slot)) { parts = with_tree (parts_in (slot_at l x.slot)) x.part (release n (part_tree l x.slot x.part)) })) in
    record {
      book = book_release l n x es k.book within q;
      number = e;
      vacancy = vacant_step l x.slot x.part (Release n) vs h k.vacancy;
      counted = counted_step l x.slot x.part (Release n) vs h k.counted;
      tallied = tallied_release l n x es ts was h within q k.tallied f;
      room = (let a = k.room in omega arith);
      small = ((let a = k.small.0 in omega arith), k.small.1);
    }

-- the number of booked holds stays within a u32
pub small_step : (l : Ledger) (s p : ℕ) (st : Step) (b : ℕ) (vs : List ℕ) (ts : List Tally) (cap : ℕ) → Kept l b vs ts cap → IsPart l s p → Roomy l s p → booked (with_part l s p (stepped st (part_tree l s p))) < 2 ^ 32
small_step l s p st b vs ts cap k h r = let a = bound_step l s p st k.book h r in let c = k.small.1 in omega arith

-- the front of a chain has a part, which has begun
pub front_roomy : (l : Ledger) (n : ℕ) (e : Entry) (es : List Entry) → Booked l → chain_at l n ≡ e ∷ es → Roomy l e.slot e.part
front_roomy l n e es b q u = let f = (front_part l n e es b q).1 in absurd (waiting_begun n (part_tree l e.slot e.part) (omega arith) u)

-- a sum of sizes stays far below what it is kept in
pub bytes_small : (l : Ledger) (n : ℕ) (was : Tally) (b : ℕ) (vs : List ℕ) (ts : List Tally) (cap : ℕ) → Kept l b vs ts cap → n < length l.chains → was ≡ get_or ts n was → held l ≤ l.entries → was.bytes < 2 ^ 127
bytes_small l n was b vs ts cap k w e h =
    let len = k.tallied.each in
    let old : (get_or ts n no_tally).bytes ≡ was.bytes = ap (λ (t : Tally). t.bytes) (sym (e ∙ get_or_default ts n was no_tally (omega arith))) in
    let a = k.tallied.bytes n in
    let c = sizes_under (chain_at l n) (k.tallied.wide n) in
    let d = chain_under l.chains n in
    let f = k.small.1 in
    omega arith

-- what is held is booked
pub held_booked : (l : Ledger) → Booked l → held l ≤ booked l
held_booked l b = let a = slots_le waiting booked_in l.slots (λ x y. waiting_booked (part_tree l x y) (b.tidy x y)) in let c = b.total in omega arith
