use Rattle.std.proofs.Common.{ℕ, ◌≤◌, ap, subst}
use Rattle.bt_demand.specs.Flushing.{InOrder}
use Rattle.bt_ledger.specs.Book.{Booked}
use Rattle.bt_ledger.specs.Ledger.{Ledger, slot_at, part_tree, parts_in}
use Rattle.bt_leaves.proofs.Kept.{order_kept}
use Rattle.bt_ledger.specs.Open.{tree_of}
use Rattle.bt_sound.specs.View.{FloorView}
use Rattle.bt_moves.proofs.Ordering.{order_at}
use Rattle.bt_sound.proofs.Steps.{well_formed_at}
use Rattle.bt_floor.proofs.floor.Floor.in_order.Goals as goal

pub returns-clause-order : goal.returns-clause-order
returns-clause-order g c =
    let l = ap (λ (v : FloorView _ _ _ _ _). v.ledger) c.self.view_is in
    subst (λ k. (s p : ℕ) → InOrder (part_tree k s p)) l (λ s p. order_at (slot_at c.self.inside.ledger s) p (λ e w. order_kept _ _ (tree_of (parts_in (slot_at c.self.inside.ledger s)) p) (well_formed_at _ _ _ (parts_in (slot_at c.self.inside.ledger s)) p w (c.self.invariant.1.shaped s e))))

pub returns-clause-wide : goal.returns-clause-wide
returns-clause-wide g c =
    let l = ap (λ (v : FloorView _ _ _ _ _). v.ledger) c.self.view_is in
    subst (λ (k : Ledger). 64 ≤ k.entries) l c.self.invariant.1.wide

pub returns-clause-book : goal.returns-clause-book
returns-clause-book g c =
    let l = ap (λ (v : FloorView _ _ _ _ _). v.ledger) c.self.view_is in
    subst (λ k. Booked k) l c.booked-booked.ensures.book
