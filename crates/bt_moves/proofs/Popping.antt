-- The front of a chain: its part was open, and its hold is asked and released once it left.
use Rattle.std.proofs.Common.{◌≡◌, ℕ, ◌≤◌, Bool, true, false, [], ◌⊎◌, inl, inr, arith, refl, sym, subst, Option, Some, None, MatchOption}
use Rattle.bt_chains.specs.declared.Entry.{Entry}
use Rattle.bt_demand.specs.Holding.{is_open}
use Rattle.bt_demand.specs.Outcomes.{outcome}
use Rattle.bt_demand.specs.Reached.{Reach}
use Rattle.bt_demand.specs.Steps.{release}
use Rattle.bt_demand.specs.Tree.{Tree}
use Rattle.bt_steps.proofs.HoldLaws.{settled_waits}
use Rattle.bt_ledger.specs.Book.{Booked, IsFront}
use Rattle.bt_ledger.specs.Calls.{Released as ReleasedTo}
use Rattle.bt_ledger.specs.Ledger.{Ledger, part_tree, IsPart, with_part, chain_at}
use Rattle.bt_ledger.proofs.Room.{part_cases}
use Rattle.bt_leaves.proofs.Reaching.{reach_release, waits_waiting}
use Rattle.bt_moves.proofs.Moves.{front_cases}

open_or : (b : Bool) → (b ≡ true) ⊎ (b ≡ false)
open_or true = inl refl
open_or false = inr refl

pub front_open : (l : Ledger) (n : ℕ) (e : Entry) → Booked l → IsFront l n e → is_open (outcome (part_tree l e.slot e.part)) ≡ true
front_open l n e b w = elim (open_or (is_open (outcome (part_tree l e.slot e.part)))) [
  | inl i ↦ i
  | inr i ↦ (let a = settled_waits (part_tree l e.slot e.part) (b.tidy e.slot e.part) i in let c = waits_waiting n (part_tree l e.slot e.part) in let d = w.waits in absurd (omega arith))
]

pub same_part : (l : Ledger) (s p : ℕ) (t : Tree) → IsPart l s p → part_tree (with_part l s p t) s p ≡ t
same_part l s p t h = elim (part_cases l s p t s p h) [ inl i ↦ i.1 | inr i ↦ absurd (i.0 refl refl) ]

pub pop_reaches : (l m : Ledger) (n : ℕ) (o : Option Entry) → Booked l → ReleasedTo l n o m → MatchOption o (chain_at l n ≡ []) (λ e. IsFront l n e) → MatchOption o (0 ≤ 0) (λ e. Reach n (part_tree m e.slot e.part))
pop_reaches l m n None b r w = omega arith
pop_reaches l m n (Some e) b r w =
    let c = front_cases (chain_at l n) l n e m r in
    let x = w.waits in
    let y = b.single e.slot e.part n in
    let tidy = b.tidy e.slot e.part in
    let z : Reach n (release n (part_tree l e.slot e.part)) = reach_release n (part_tree l e.slot e.part) tidy (omega arith) (omega arith) in
    subst (λ k. Reach n (part_tree k e.slot e.part)) (sym c.2) (subst (λ t. Reach n t) (sym (same_part l e.slot e.part (release n (part_tree l e.slot e.part)) w.part)) z)
