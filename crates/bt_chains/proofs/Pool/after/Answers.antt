use Rattle.bt_chains.proofs.Afters.{after_none, after_no_place, after_some}
use Rattle.bt_chains.proofs.Pool.after.Goals as goal

pub returns-then-is_none : goal.returns-then-is_none
returns-then-is_none c = rw (← c.self.view_is) (after_none _ _ _ _ _ c.args.place _ c.self.invariant (rw (← c.self.view_is) at c.requires) c.index.ensures c.if-is_none.ensures)

pub returns-then-link : goal.returns-then-link
returns-then-link c = rw (← c.self.view_is) (after_no_place _ _ _ _ _ c.args.place _ c.self.invariant (rw (← c.self.view_is) at c.requires) c.index-link.ensures c.if-link.true)

pub returns-else-link : goal.returns-else-link
returns-else-link c =
    rw (← c.self.view_is) (after_some _ _ _ _ _ c.args.place _ _ c.self.invariant (rw (← c.self.view_is) at c.requires) c.index.ensures c.if-is_none.ensures c.index-link.ensures c.if-link.false)
