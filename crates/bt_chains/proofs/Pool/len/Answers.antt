use Rattle.std.proofs.Common.{ℕ, sym, ap, ◌∙◌, length, List}
use Rattle.bt_chains.proofs.Walks.{length_walk}
use Rattle.bt_chains.proofs.Moves.{chain_is, chain_within}
use Rattle.bt_chains.proofs.Pool.len.Goals as goal

pub returns : goal.returns
returns c =
    let h = chain_within _ _ c.args.chain (rw (← c.self.view_is) at c.requires) in
    let e = chain_is c.self.inside.links.items c.self.inside.chains.items c.args.chain _ h (sym c.index.ensures) in
    rw (← c.self.view_is) (sym (ap (λ (ys : List ℕ). length ys) e ∙ length_walk c.index.result.now.len c.self.inside.links.items c.index.result.now.first))
