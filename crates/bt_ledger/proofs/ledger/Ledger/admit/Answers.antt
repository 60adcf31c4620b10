use Rattle.std.proofs.Common.{ℕ, arith, refl, subst, List, [], ◌∷◌, ◌++◌}
use Rattle.bt_ledger.specs.Pooled.{ledger_of}
use Rattle.bt_ledger.proofs.Freeing.{kept_admit}
use Rattle.bt_ledger.proofs.Slots.{vacant_last}
use Rattle.bt_ledger.specs.Kept.{Vacant}
use Rattle.bt_ledger.proofs.ledger.Ledger.admit.Goals as goal

pub index_mut-requires : goal.index_mut-requires
index_mut-requires c =
    let v : Vacant c.self.inside.slots.items (c.pop.new.self.items ++ c.in-Some.slot ∷ []) = subst (λ (xs : List ℕ). Vacant c.self.inside.slots.items xs) c.in-Some.ensures.items c.self.invariant.vacancy in
    let a = (vacant_last c.self.inside.slots.items c.pop.new.self.items c.in-Some.slot v).0 in omega arith

pub invariant_of-self-in-Some : goal.invariant_of-self-in-Some
invariant_of-self-in-Some c =
    let l = ledger_of c.self.inside.slots.items c.self.inside.policies.items c.self.inside.pool in
    rw c.pop.ensures.capacity (kept_admit l c.in-Some.slot c.args.number c.args.moment c.args.items _ c.pop.new.self.items _ _ _ c.self.invariant c.in-Some.ensures.items)

pub returns-in-Some : goal.returns-in-Some
returns-in-Some c =
    let v : Vacant c.self.inside.slots.items (c.pop.new.self.items ++ c.in-Some.slot ∷ []) = subst (λ (xs : List ℕ). Vacant c.self.inside.slots.items xs) c.in-Some.ensures.items c.self.invariant.vacancy in
    let f = vacant_last c.self.inside.slots.items c.pop.new.self.items c.in-Some.slot v in
    rw (← c.self.view_is) (f.0, f.1, refl)
