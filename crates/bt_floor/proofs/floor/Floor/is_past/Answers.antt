use Rattle.std.proofs.Common.{◌≡◌, sym, ap, ◌∙◌, subst, None}
use Rattle.bt_ledger.specs.Ledger.{Ledger}
use Rattle.bt_moves.specs.Resting.{Unripe, waited_out}
use Rattle.bt_moves.proofs.Periods.{past_some}
use Rattle.bt_sound.specs.View.{FloorView}
use Rattle.bt_floor.proofs.floor.Floor.is_past.Goals as goal

pub returns : goal.returns
returns g c =
    let l = ap (λ (v : FloorView _ _ _ _ _). v.ledger) c.self.view_is in
    past_some c.self.inside.ledger c.args.node c.args.moment c.ripe.result (subst (λ k. Unripe k c.args.node) (sym l) c.requires.unripe) c.ripe.ensures c.is_some.ensures ∙ ap (λ (k : Ledger). waited_out k c.args.node c.args.moment) l
