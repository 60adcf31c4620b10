-- One slot of a table becomes another: what is said of every slot.
use Rattle.std.proofs.Common.{◌≡◌, ◌≢◌, ℕ, zero, suc, ◌<◌, Bool, true, false, eqb, not, ◌&&◌, List, [], ◌∷◌, length, ◌⊎◌, inl, inr, arith, sym, ap, ◌∙◌, subst, get_or-set_same, get_or-set_other}
use Rattle.std.proofs.lemmas.Bool.Decides.{eqb_tells}
use Rattle.bt_demand.specs.Holding.{one_if}
use Rattle.bt_demand.specs.Parts.{Part}
use Rattle.bt_demand.specs.Recorded.{untried}
use Rattle.bt_demand.specs.Tree.{Tree}
use Rattle.bt_demand.specs.declared.derive.Derive as Derive
use Rattle.bt_ledger.specs.Ledger.{Ledger, slot_at, part_tree, parts_in, number_in, is_given, open_in, with_part, with_slot, IsPart}
use Rattle.bt_ledger.specs.Open.{Open, tree_of, with_tree}
use Rattle.bt_ledger.specs.declared.slot.Slot.{Slot}
use Rattle.bt_ledger.specs.declared.slot.Slot.TheVariants.{Free, Given}
use Rattle.bt_ledger.proofs.Slots.{part_taken}
use Rattle.bt_ports.specs.declared.outside.Clock as Clock
use Rattle.bt_ports.specs.declared.outside.Intake as Intake
use Rattle.bt_sound.specs.Sound.{here, in_slots, Unknown}
use Rattle.bt_sound.specs.Transactions.{Planned, untried_parts}
use Rattle.bt_sound.specs.View.{Outside, Past}
use Rattle.bt_sound.proofs.Placing.{in_slots_set}

-- the state of a slot after a step of one of its parts
abbrev pub stepped_open : Open → ℕ → Tree → Open
stepped_open o p t = record o { parts = with_tree o.parts p t }

-- a slot of a table after one of them became another
pub close_cases : (l : Ledger) (s a : ℕ) (x : Slot) → s < length l.slots → ((a ≡ s) × (slot_at (with_slot l s x) a ≡ x)) ⊎ ((a ≢ s) × (slot_at (with_slot l s x) a ≡ slot_at l a))
close_cases l s a x h = elim (eqb_tells a s) [
  | inl i ↦ inl (i.1, ap (λ k. slot_at (with_slot l s x) k) i.1 ∙ get_or-set_same l.slots s x Free h)
  | inr i ↦ inr (i.1, get_or-set_other l.slots s a x Free i.1)
]

pub yes_no : (b : Bool) → b ≡ true → b ≡ false → ⊥
yes_no b e f = cc

pub step_cases : (l : Ledger) (s p : ℕ) (t : Tree) (a : ℕ) → IsPart l s p → ((a ≡ s) × (slot_at (with_part l s p t) a ≡ Given (stepped_open (open_in (slot_at l s)) p t))) ⊎ ((a ≢ s) × (slot_at (with_part l s p t) a ≡ slot_at l a))
step_cases l s p t a h = elim (eqb_tells a s) [
  | inl i ↦ inl (i.1, ap (λ k. slot_at (with_part l s p t) k) i.1 ∙ get_or-set_same l.slots s (Given (stepped_open (open_in (slot_at l s)) p t)) Free h.0)
  | inr i ↦ inr (i.1, get_or-set_other l.slots s a (Given (stepped_open (open_in (slot_at l s)) p t)) Free i.1)
]

-- what is said of the state of each slot of a kind
pub over_step : (P : Open → Type 0) (q : Slot → Bool) (b : Bool) (l : Ledger) (s p : ℕ) (t : Tree) → IsPart l s p → q (slot_at l s) ≡ b → (P (open_in (slot_at l s)) → P (stepped_open (open_in (slot_at l s)) p t))
    → ((a : ℕ) → q (slot_at l a) ≡ b → P (open_in (slot_at l a))) → (a : ℕ) → q (slot_at (with_part l s p t) a) ≡ b → P (open_in (slot_at (with_part l s p t) a))
over_step P q b l s p t h e f g a w = elim (step_cases l s p t a h) [
  | inl i ↦ subst (λ x. P (open_in x)) (sym i.1) (f (g s e))
  | inr i ↦ subst (λ x. P (open_in x)) (sym i.1) (g a (ap q (sym i.1) ∙ w))
]

pub untried_with : (ps : List Part) (p : ℕ) (t : Tree) → p < length ps → untried t ≡ untried (tree_of ps p) → untried_parts (with_tree ps p t) ≡ untried_parts ps
untried_with [] p t h e = absurd (omega arith)
untried_with (q ∷ ps) zero t h e = ap (λ (u : Tree). record { from = q.from; demand = u } ∷ untried_parts ps) e
untried_with (q ∷ ps) (suc p) t h e = ap (λ us. record { from = q.from; demand = untried q.demand } ∷ us) (untried_with ps p t (omega arith) e)

pub placed_step : (l : Ledger) (s p : ℕ) (t : Tree) (n : ℕ) → IsPart l s p → in_slots n (with_part l s p t).slots ≡ in_slots n l.slots
placed_step l s p t n h =
    let a = in_slots_set n l.slots s (Given (stepped_open (open_in (slot_at l s)) p t)) h.0 in
    let f = part_taken (slot_at l s) p h.1 in
    let b : here n (Given (stepped_open (open_in (slot_at l s)) p t)) ≡ here n (slot_at l s) = sym (ap (λ v. one_if (not v && eqb (number_in (slot_at l s)) n)) f) in
    omega arith

pub planned_with : {I C D : Type 0} (gi : Intake.Ghosts I) (gc : Clock.Ghosts C) (gd : Derive.Ghosts D) (f : Outside I C D) (o : Open) (ps : List Part) → untried_parts ps ≡ untried_parts o.parts → Planned gi gc gd f o → Planned gi gc gd f (record o { parts = ps })
planned_with gi gc gd f o ps e h = λ x y v. (let w = h x y v in (w.0, record { taken = w.1.taken; parts = e ∙ w.1.parts }))

-- what is said of the slots of a kind, where one becomes a slot of another kind
pub over_slot : (P : Slot → Type 0) (q : Slot → Bool) (l : Ledger) (s : ℕ) (x : Slot) → s < length l.slots → q x ≡ false → ((a : ℕ) → q (slot_at l a) ≡ true → P (slot_at l a)) → (a : ℕ) → q (slot_at (with_slot l s x) a) ≡ true → P (slot_at (with_slot l s x) a)
over_slot P q l s x h e g a w = elim (close_cases l s a x h) [
  | inl i ↦ absurd (yes_no (q x) (ap q (sym i.1) ∙ w) e)
  | inr i ↦ subst (λ y. P y) (sym i.1) (g a (ap q (sym i.1) ∙ w))
]

-- what is said of each tree, where the parts of one slot become others
pub over_trees : (P : Tree → Type 0) (l : Ledger) (s : ℕ) (x : Slot) → s < length l.slots → ((b : ℕ) → P (tree_of (parts_in x) b)) → ((a b : ℕ) → P (part_tree l a b)) → (a b : ℕ) → P (part_tree (with_slot l s x) a b)
over_trees P l s x h f g a b = elim (close_cases l s a x h) [
  | inl i ↦ subst (λ y. P (tree_of (parts_in y) b)) (sym i.1) (f b)
  | inr i ↦ subst (λ y. P (tree_of (parts_in y) b)) (sym i.1) (g a b)
]

pub known_step : (l : Ledger) (s p : ℕ) (t : Tree) (closed : List Past) (m : ℕ) → IsPart l s p → Unknown (with_part l s p t) closed m → Unknown l closed m
known_step l s p t closed m w x = (
  λ a e. elim (step_cases l s p t a w) [
    | inl i ↦ (λ z. x.0 a (ap is_given i.1) (ap number_in i.1 ∙ (ap (λ j. number_in (slot_at l j)) (sym i.0) ∙ z)))
    | inr i ↦ (λ z. x.0 a (ap is_given i.1 ∙ e) (ap number_in i.1 ∙ z))
  ],
  x.1,
)
