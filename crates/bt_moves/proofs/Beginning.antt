-- No move begins a part but its own.
use Rattle.std.proofs.Common.{◌≡◌, ℕ, ◌<◌, Bool, true, false, [], length, inl, inr, refl, sym, ap, ◌∙◌, subst, Option, Some, None, MatchOption, get_or-set_same, get_or-set_other}
use Rattle.std.proofs.lemmas.Bool.Decides.{eqb_tells}
use Rattle.bt_chains.specs.declared.Entry.{Entry}
use Rattle.bt_demand.specs.Find.{begun}
use Rattle.bt_demand.specs.Steps.{release}
use Rattle.bt_ledger.specs.Book.{IsFront}
use Rattle.bt_ledger.specs.Calls.{Released as ReleasedTo}
use Rattle.bt_ledger.specs.Ledger.{Ledger, slot_at, parts_in, part_tree, with_slot, chain_at}
use Rattle.bt_ledger.specs.Open.{tree_of}
use Rattle.bt_ledger.specs.declared.slot.Slot.{Slot}
use Rattle.bt_ledger.specs.declared.slot.Slot.TheVariants.{Free}
use Rattle.bt_ledger.proofs.Room.{part_cases}
use Rattle.bt_moves.specs.Moves.{StepAt, Answering, BeginsNone, BeginsBut}
use Rattle.bt_moves.proofs.Moves.{front_cases, front_none, front_begun, answering_tree}

true_false : (b : Bool) → b ≡ true → b ≡ false → ⊥
true_false b e f = cc

pub fresh_pop : (l m : Ledger) (k : ℕ) (o : Option Entry) → ReleasedTo l k o m → MatchOption o (chain_at l k ≡ []) (λ e. IsFront l k e) → BeginsNone l m
fresh_pop l m k None r f = λ a b h. subst (λ x. begun (part_tree x a b) ≡ false) (sym (front_none (chain_at l k) l k m r)) h
fresh_pop l m k (Some e) r f =
    let c = front_cases (chain_at l k) l k e m r in
    λ a b h. subst (λ x. begun (part_tree x a b) ≡ false) (sym c.2) (elim (part_cases l e.slot e.part (release k (part_tree l e.slot e.part)) a b f.part) [
      | inl i ↦ absurd (true_false (begun (part_tree l e.slot e.part)) (front_begun l k e f) (subst (λ q. begun (part_tree l e.slot q) ≡ false) i.0.1 (subst (λ q. begun (part_tree l q b) ≡ false) i.0.0 h)))
      | inr i ↦ ap begun i.1 ∙ h
    ])

pub fresh_answering : (s : ℕ) (l m : Ledger) → Answering s l m → BeginsNone l m
fresh_answering s l m w = λ a b h. ap begun (answering_tree s l m w a b) ∙ h

pub fresh_close : (l : Ledger) (s : ℕ) → s < length l.slots → BeginsNone l (with_slot l s Free)
fresh_close l s w = λ a b h. elim (eqb_tells a s) [
  | inl i ↦ subst (λ (z : Slot). begun (tree_of (parts_in z) b) ≡ false) (sym (ap (λ j. slot_at (with_slot l s Free) j) i.1 ∙ get_or-set_same l.slots s Free Free w)) refl
  | inr i ↦ subst (λ (z : Slot). begun (tree_of (parts_in z) b) ≡ false) (sym (get_or-set_other l.slots s a Free Free i.1)) h
]

-- the part of an entry had begun, so that none begins while it goes on
pub fresh_over : (s p : ℕ) (m k z : Ledger) → begun (part_tree m s p) ≡ true → StepAt s p m k → BeginsBut s p k z → BeginsNone m z
fresh_over s p m k z g step f = λ a b h. elim (eqb_tells a s) [
  | inl i ↦ (elim (eqb_tells b p) [
    | inl j ↦ absurd (true_false (begun (part_tree m s p)) g (subst (λ q. begun (part_tree m s q) ≡ false) j.1 (subst (λ q. begun (part_tree m q b) ≡ false) i.1 h)))
    | inr j ↦ f a b (λ _ e. j.1 e) (ap begun (step.trees a b (λ _ e. j.1 e)) ∙ h)
  ])
  | inr i ↦ f a b (λ e _. i.1 e) (ap begun (step.trees a b (λ e _. i.1 e)) ∙ h)
]
