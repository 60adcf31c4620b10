use Rattle.std.proofs.Common.{arith, sym, ◌∙◌}
use Rattle.bt_chains.proofs.Outcomes.{within_pop}
use Rattle.bt_chains.proofs.Moves.{chain_within, emptiness, front_found, none_alike}
use Rattle.bt_chains.proofs.Pool.front.Goals as goal

pub index-requires-else-len-eq0 : goal.index-requires-else-len-eq0
index-requires-else-len-eq0 c =
    let h = chain_within _ _ c.args.chain (rw (← c.self.view_is) at c.requires) in
    let w = within_pop _ _ _ _ _ c.args.chain _ c.self.invariant h (sym c.index.ensures) c.if-len-eq0.false in
    omega arith

pub returns-else-len-eq0-clause-value : goal.returns-else-len-eq0-clause-value
returns-else-len-eq0-clause-value c =
    let h = chain_within _ _ c.args.chain (rw (← c.self.view_is) at c.requires) in
    rw (← c.self.view_is) (c.as_ref.ensures.value ∙ front_found _ _ _ _ _ c.args.chain _ _ c.self.invariant h (sym c.index.ensures) c.if-len-eq0.false c.index-else-len-eq0.ensures)

pub returns-else-len-eq0-clause-empty : goal.returns-else-len-eq0-clause-empty
returns-else-len-eq0-clause-empty c =
    let h = chain_within _ _ c.args.chain (rw (← c.self.view_is) at c.requires) in
    let e = emptiness _ _ _ _ _ c.args.chain _ _ c.self.invariant h (sym c.index.ensures) c.if-len-eq0.false c.index-else-len-eq0.ensures in
    rw (← c.self.view_is) (λ n. e.0 (none_alike _ _ c.as_ref.ensures.variant n), λ n. none_alike _ _ (sym c.as_ref.ensures.variant) (e.1 n))
