use Rattle.std.proofs.Common.{arith, sym}
use Rattle.std.proofs.lemmas.List.{length-set}
use Rattle.bt_chains.proofs.Outcomes.{chains_kept, within_pop, pop}
use Rattle.bt_chains.proofs.Moves.{sound, chain_within, emptiness}
use Rattle.bt_chains.proofs.Pool.pop_front.Goals as goal

pub index-entry-requires : goal.index-entry-requires
index-entry-requires c =
    let h = chain_within _ _ c.args.chain (rw (← c.self.view_is) at c.requires) in
    let w = within_pop _ _ _ _ _ c.args.chain _ c.self.invariant h (sym c.index.ensures) c.if-len-eq0.false in
    omega arith

pub index-next-requires : goal.index-next-requires
index-next-requires c =
    let h = chain_within _ _ c.args.chain (rw (← c.self.view_is) at c.requires) in
    let w = within_pop _ _ _ _ _ c.args.chain _ c.self.invariant h (sym c.index.ensures) c.if-len-eq0.false in
    omega arith

pub index_mut-requires-2 : goal.index_mut-requires-2
index_mut-requires-2 c =
    let h = chain_within _ _ c.args.chain (rw (← c.self.view_is) at c.requires) in
    let w = within_pop _ _ _ _ _ c.args.chain _ c.self.invariant h (sym c.index.ensures) c.if-len-eq0.false in
    omega arith

pub index_mut-requires-3 : goal.index_mut-requires-3
index_mut-requires-3 c =
    let h = chain_within _ _ c.args.chain (rw (← c.self.view_is) at c.requires) in
    let w = within_pop _ _ _ _ _ c.args.chain _ c.self.invariant h (sym c.index.ensures) c.if-len-eq0.false in
    omega arith

pub overflow_add-self : goal.overflow_add-self
overflow_add-self c =
    let h = chain_within _ _ c.args.chain (rw (← c.self.view_is) at c.requires) in
    let p = pop _ _ _ _ _ c.args.chain _ _ _ c.self.invariant h (sym c.index.ensures) c.if-len-eq0.false c.index-next.ensures c.index-entry.ensures in
    let r = p.room in
    omega arith

pub invariant_of-self : goal.invariant_of-self
invariant_of-self c =
    let h = chain_within _ _ c.args.chain (rw (← c.self.view_is) at c.requires) in
    let p = pop _ _ _ _ _ c.args.chain _ _ _ c.self.invariant h (sym c.index.ensures) c.if-len-eq0.false c.index-next.ensures c.index-entry.ensures in
    p.linked

pub returns-clause-popped : goal.returns-clause-popped
returns-clause-popped c =
    let h = chain_within _ _ c.args.chain (rw (← c.self.view_is) at c.requires) in
    let p = pop _ _ _ _ _ c.args.chain _ _ _ c.self.invariant h (sym c.index.ensures) c.if-len-eq0.false c.index-next.ensures c.index-entry.ensures in
    rw (← c.self.view_is) p.popped

pub returns-clause-empty : goal.returns-clause-empty
returns-clause-empty c =
    let h = chain_within _ _ c.args.chain (rw (← c.self.view_is) at c.requires) in
    rw (← c.self.view_is) (emptiness _ _ _ _ _ c.args.chain _ _ c.self.invariant h (sym c.index.ensures) c.if-len-eq0.false c.index-entry.ensures)

pub returns-clause-chains : goal.returns-clause-chains
returns-clause-chains c = rw (← c.self.view_is) (chains_kept _ _ _ _ _)

pub returns-clause-entries : goal.returns-clause-entries
returns-clause-entries c = rw (← c.self.view_is) (length-set _ _ _)

pub returns-then-len-eq0-clause-sound : goal.returns-then-len-eq0-clause-sound
returns-then-len-eq0-clause-sound c = rw (← c.self.view_is) (sound _ _ _ _ _ c.self.invariant)

pub returns-clause-sound : goal.returns-clause-sound
returns-clause-sound c = rw (← c.self.view_is) (sound _ _ _ _ _ c.self.invariant)
