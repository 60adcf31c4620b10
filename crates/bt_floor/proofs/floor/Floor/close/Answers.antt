use Rattle.std.proofs.Common.{◌≡◌, sym, ap, subst}
use Rattle.bt_ledger.specs.Ledger.{slot_at, IsGiven, answered_in}
use Rattle.bt_ledger.specs.Due.{unanswered}
use Rattle.bt_sound.specs.View.{FloorView}
use Rattle.bt_sound.proofs.Answered.{sound_close}
use Rattle.bt_floor.proofs.floor.Floor.close.Goals as goal

pub invariant_of-self : goal.invariant_of-self
invariant_of-self g c =
    let l = ap (λ (v : FloorView _ _ _ _ _). v.ledger) c.self.view_is in
    let given : IsGiven c.self.inside.ledger c.args.slot = subst (λ k. IsGiven k c.args.slot) (sym l) c.requires.given in
    let answered : unanswered (answered_in (slot_at c.self.inside.ledger c.args.slot)) ≡ 0 = subst (λ k. unanswered (answered_in (slot_at k c.args.slot)) ≡ 0) (sym l) c.requires.answered in
    rw c.close-routes.ensures.ledger (_, sound_close _ _ _ _ _ _ c.self.invariant.0 c.args.slot c.self.invariant.1 given.0 given.1 answered)
