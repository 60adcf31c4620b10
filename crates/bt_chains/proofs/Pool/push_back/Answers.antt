use Rattle.std.proofs.Common.{arith, sym}
use Rattle.std.proofs.lemmas.List.{length-set}
use Rattle.bt_chains.proofs.Outcomes.{chains_kept, push, pushed_links}
use Rattle.bt_chains.proofs.Moves.{sound, chain_within, free_within, short, last_within}
use Rattle.bt_chains.proofs.Pool.push_back.Goals as goal

pub index-requires : goal.index-requires
index-requires c =
    let w = free_within _ _ _ _ _ c.self.invariant c.if-self-eq0.false in
    omega arith

pub index_mut-requires : goal.index_mut-requires
index_mut-requires c =
    let w = free_within _ _ _ _ _ c.self.invariant c.if-self-eq0.false in
    omega arith

pub join-longer-requires-clause-bound : goal.join-longer-requires-clause-bound
join-longer-requires-clause-bound c =
    let h = chain_within _ _ c.args.chain (rw (← c.self.view_is) at c.requires) in
    let s = short _ _ _ _ _ c.args.chain _ c.self.invariant h (sym c.index-2.ensures) in
    omega arith

pub join-longer-requires-clause-last : goal.join-longer-requires-clause-last
join-longer-requires-clause-last c =
    λ some.
    let h = chain_within _ _ c.args.chain (rw (← c.self.view_is) at c.requires) in
    let s = last_within _ _ _ _ _ c.args.chain _ c.self.invariant h (sym c.index-2.ensures) some in
    omega arith

pub index_mut-requires-3 : goal.index_mut-requires-3
index_mut-requires-3 c =
    let w = free_within _ _ _ _ _ c.self.invariant c.if-self-eq0.false in
    omega arith

pub invariant_of-self : goal.invariant_of-self
invariant_of-self c =
    let h = chain_within _ _ c.args.chain (rw (← c.self.view_is) at c.requires) in
    let w = pushed_links c.self.inside.links.len c.join-longer.new.links _ c.self.inside.links.items c.index-2.result.now c.self.inside.vacant c.join-longer.ensures.links c.deref_mut.ensures.value (omega arith) in
    (push _ _ _ _ _ _ c.args.chain _ _ _ c.args.entry c.self.invariant h (sym c.index-2.ensures) c.if-self-eq0.false c.index.ensures c.join-longer.ensures.chain w).linked

pub returns-clause-pushed : goal.returns-clause-pushed
returns-clause-pushed c =
    let h = chain_within _ _ c.args.chain (rw (← c.self.view_is) at c.requires) in
    let w = pushed_links c.self.inside.links.len c.join-longer.new.links _ c.self.inside.links.items c.index-2.result.now c.self.inside.vacant c.join-longer.ensures.links c.deref_mut.ensures.value (omega arith) in
    (c.self.inside.vacant, rw (← c.self.view_is) (push _ _ _ _ _ _ c.args.chain _ _ _ c.args.entry c.self.invariant h (sym c.index-2.ensures) c.if-self-eq0.false c.index.ensures c.join-longer.ensures.chain w).pushed)

pub returns-clause-chains : goal.returns-clause-chains
returns-clause-chains c = rw (← c.self.view_is) (chains_kept _ _ _ _ _)

pub returns-clause-entries : goal.returns-clause-entries
returns-clause-entries c = rw (← c.self.view_is) (length-set _ _ _)

pub returns-then-self-eq0-clause-sound : goal.returns-then-self-eq0-clause-sound
returns-then-self-eq0-clause-sound c = rw (← c.self.view_is) (sound _ _ _ _ _ c.self.invariant)

pub returns-clause-sound : goal.returns-clause-sound
returns-clause-sound c = rw (← c.self.view_is) (sound _ _ _ _ _ c.self.invariant)
