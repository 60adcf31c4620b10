-- A part with another tree: the book stays tidy, and there is a free entry for a hold that begins to wait.
use Rattle.std.proofs.Common.{◌≡◌, ℕ, ◌<◌, ◌≤◌, Bool, true, false, cond, ◌&&◌, get_or, set, ◌⊎◌, inl, inr, arith, refl, sym, ap, ◌∙◌, Some, get_or-set_same, get_or-set_other}
use Rattle.std.proofs.lemmas.Bool.Decides.{eqb_tells}
use Rattle.bt_demand.specs.Tree.{Tree}
use Rattle.bt_demand.specs.Steps.{wait}
use Rattle.bt_demand.specs.Next.{todo}
use Rattle.bt_demand.specs.Find.{begun}
use Rattle.bt_demand.specs.Outcomes.{outcome}
use Rattle.bt_demand.specs.Holding.{is_open, active, waiting, booked_in, Tidy}
use Rattle.bt_demand.specs.declared.todo.Todo.TheVariants.{Wait}
use Rattle.bt_demand.specs.Parts.{Part}
use Rattle.bt_ledger.specs.Open.{tree_of, from_of, with_tree, no_part}
use Rattle.bt_ledger.specs.Ledger.{Ledger, slot_at, parts_in, open_in, part_tree, IsPart, with_part, booked, held, Roomy}
use Rattle.bt_ledger.specs.declared.slot.Slot.{Slot}
use Rattle.bt_ledger.specs.declared.slot.Slot.TheVariants.{Free, Given}
use Rattle.bt_ledger.specs.Book.{Booked}
use Rattle.bt_steps.proofs.HoldLaws.{every_is_holds, active_wait, active_le}
use Rattle.bt_steps.proofs.BookLaws.{waiting_booked}
use Rattle.bt_steps.proofs.WaitLaws.{tidy_wait, waiting_one}
use Rattle.bt_steps.proofs.Outcomes.{open_wait}
use Rattle.bt_ledger.proofs.Sums.{slots_le, sum_with}

part_le : (b o : Bool) (a : ℕ) → cond (b && o) a 0 ≤ a
part_le true true a = omega arith
part_le true false a = omega arith
part_le false o a = omega arith

bool_cases : (b : Bool) → (b ≡ true) ⊎ (b ≡ false)
bool_cases true = inl refl
bool_cases false = inr refl

-- `booked` stays within the entries when an open part makes a step that keeps its active holds or loses some
pub bound_kept : (l : Ledger) (s p : ℕ) (t : Tree) → Booked l → IsPart l s p → Roomy l s p → is_open (outcome (part_tree l s p)) ≡ true → active t ≤ active (part_tree l s p) → booked (with_part l s p t) ≤ l.entries
bound_kept l s p t b h r o w =
    let a = sum_with booked_in l s p t h in
    let c = part_le (begun t) (is_open (outcome t)) (active t) in
    let d = active_le (part_tree l s p) in
    let q = every_is_holds (part_tree l s p) in
    elim (bool_cases (begun (part_tree l s p))) [
      | inl x ↦ (let e : booked_in (part_tree l s p) ≡ active (part_tree l s p) = rw (x, o) refl in omega (arith, b.bound))
      | inr x ↦ (let e = r x in omega (arith, b.bound))
    ]

-- part trees after one was replaced
pub part_cases : (l : Ledger) (s p : ℕ) (t : Tree) (a b : ℕ) → IsPart l s p → (((a ≡ s) × (b ≡ p)) × (part_tree (with_part l s p t) a b ≡ t)) ⊎ (((a ≡ s) → (b ≡ p) → ⊥) × (part_tree (with_part l s p t) a b ≡ part_tree l a b))
part_cases l s p t a b h =
    let x = Given (record (open_in (slot_at l s)) { parts = with_tree (parts_in (slot_at l s)) p t }) in
    let q : Part = record { from = from_of (parts_in (slot_at l s)) p; demand = t } in
    elim (eqb_tells a s) [
      | inl i ↦ (let e : get_or (set l.slots s (Given (record (open_in (slot_at l s)) { parts = with_tree (parts_in (slot_at l s)) p t }))) a Free ≡ Given (record (open_in (slot_at l s)) { parts = with_tree (parts_in (slot_at l s)) p t }) = ap (λ k. get_or (set l.slots s (Given (record (open_in (slot_at l s)) { parts = with_tree (parts_in (slot_at l s)) p t }))) k Free) i.1 ∙ get_or-set_same l.slots s _ Free h.0 in
          let f : part_tree (with_part l s p t) a b ≡ tree_of (with_tree (parts_in (slot_at l s)) p t) b = ap (λ (y : Slot). tree_of (parts_in y) b) e in
          elim (eqb_tells b p) [
            | inl j ↦ inl ((i.1, j.1), f ∙ ap (λ (y : Part). y.demand) (ap (λ k. get_or (with_tree (parts_in (slot_at l s)) p t) k no_part) j.1 ∙ get_or-set_same (parts_in (slot_at l s)) p (record { from = from_of (parts_in (slot_at l s)) p; demand = t }) no_part h.1))
            | inr j ↦ inr (λ _ u. j.1 u, f ∙ ap (λ (y : Part). y.demand) (get_or-set_other (parts_in (slot_at l s)) p b (record { from = from_of (parts_in (slot_at l s)) p; demand = t }) no_part j.1) ∙ ap (λ k. part_tree l k b) (sym i.1))
          ])
      | inr i ↦ inr (λ u _. i.1 u, ap (λ (y : Slot). tree_of (parts_in y) b) (get_or-set_other l.slots s a (Given (record (open_in (slot_at l s)) { parts = with_tree (parts_in (slot_at l s)) p t })) Free i.1))
    ]

pub tidy_with : (l : Ledger) (s p : ℕ) (t : Tree) → ((a b : ℕ) → Tidy (part_tree l a b)) → IsPart l s p → Tidy t → (a b : ℕ) → Tidy (part_tree (with_part l s p t) a b)
tidy_with l s p t k h w a b = elim (part_cases l s p t a b h) [
  | inl i ↦ rw i.1 w
  | inr i ↦ rw i.1 (k a b)
]

-- `hold` finds a Free entry
pub hold_room : (l : Ledger) (s p n : ℕ) → Booked l → IsPart l s p → Roomy l s p → todo (part_tree l s p) ≡ Some (Wait n) → held l < l.entries
hold_room l s p n b h r e =
    let t = part_tree l s p in
    let after = bound_kept l s p (wait n (part_tree l s p)) b h r (open_wait (part_tree l s p) n e) (let k = active_wait n (part_tree l s p) in omega arith) in
    let tidy = tidy_with l s p (wait n (part_tree l s p)) b.tidy h (tidy_wait n (part_tree l s p) (b.tidy s p) e (b.single s p n)) in
    let le = slots_le waiting booked_in (with_part l s p (wait n (part_tree l s p))).slots (λ x y. waiting_booked (part_tree (with_part l s p (wait n (part_tree l s p))) x y) (tidy x y)) in
    let sum = sum_with waiting l s p (wait n (part_tree l s p)) h in
    let one = waiting_one n (part_tree l s p) (b.single s p) e in
    omega (arith, b.total)
