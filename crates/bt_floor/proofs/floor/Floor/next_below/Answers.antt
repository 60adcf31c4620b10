use Rattle.std.proofs.Common.{sym, ap, subst}
use Rattle.bt_demand.specs.Reached.{Reach}
use Rattle.bt_ledger.specs.Ledger.{part_tree}
use Rattle.bt_leaves.proofs.Reaching.{reached_there}
use Rattle.bt_sound.specs.View.{FloorView}
use Rattle.bt_floor.proofs.floor.Floor.next_below.Goals as goal

pub todo_below-requires-clause-hold : goal.todo_below-requires-clause-hold
todo_below-requires-clause-hold g c =
    let l = ap (λ (v : FloorView _ _ _ _ _). v.ledger) c.self.view_is in
    reached_there c.args.node (part_tree c.self.inside.ledger c.args.slot c.args.part) (subst (λ k. Reach c.args.node (part_tree k c.args.slot c.args.part)) (sym l) c.requires.reach)
