use Rattle.std.proofs.Common.{sym}
use Rattle.bt_chains.proofs.Moves.{chain_within, front_place}
use Rattle.bt_chains.proofs.Pool.first.Goals as goal

pub returns-else-len-eq0 : goal.returns-else-len-eq0
returns-else-len-eq0 c =
    let h = chain_within _ _ c.args.chain (rw (← c.self.view_is) at c.requires) in
    rw (← c.self.view_is) (front_place _ _ c.args.chain _ h (sym c.index.ensures) c.if-len-eq0.false)
