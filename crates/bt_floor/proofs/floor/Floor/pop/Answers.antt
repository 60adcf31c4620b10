use Rattle.std.proofs.Common.{◌<◌, sym, ap, subst, length}
use Rattle.bt_ledger.specs.Ledger.{Ledger}
use Rattle.bt_moves.specs.Moves.{Popped, PopKeepsLate}
use Rattle.bt_sound.specs.View.{FloorView}
use Rattle.bt_moves.specs.Moves.{RipensNone, BeginsNone}
use Rattle.bt_moves.proofs.Beginning.{fresh_pop}
use Rattle.bt_moves.proofs.Ripening.{calms_pop}
use Rattle.bt_moves.proofs.Lateness.{late_pop}
use Rattle.bt_moves.proofs.Moves.{popped}
use Rattle.bt_sound.proofs.Popping.{sound_pop}
use Rattle.bt_moves.proofs.Popping.{pop_reaches}
use Rattle.bt_moves.specs.Resting.{AllSettled}
use Rattle.bt_moves.proofs.Settling.{pop_settles}
use Rattle.bt_floor.proofs.floor.Floor.pop.Goals as goal

pub invariant_of-self : goal.invariant_of-self
invariant_of-self g c =
    (c.self.invariant.0, sound_pop _ _ _ _ _ _ c.self.invariant.0 c.args.node c.release.result _ c.self.invariant.1 c.booked-booked.ensures.book c.release.ensures.released c.release.ensures.front)

pub returns-clause-popped : goal.returns-clause-popped
returns-clause-popped g c =
    let l = ap (λ (v : FloorView _ _ _ _ _). v.ledger) c.self.view_is in
    let known : c.args.node < length c.self.inside.ledger.policies = subst (λ (k : Ledger). c.args.node < length k.policies) (sym l) c.requires in
    subst (λ k. Popped k c.release.new.self c.release.result) l (popped c.self.inside.ledger _ c.args.node c.release.result c.booked-booked.ensures.book known c.release.ensures.released c.release.ensures.front)

pub returns-clause-late : goal.returns-clause-late
returns-clause-late g c =
    let l = ap (λ (v : FloorView _ _ _ _ _). v.ledger) c.self.view_is in
    subst (λ k. PopKeepsLate c.args.node k c.release.new.self c.release.result) l (late_pop c.self.inside.ledger _ c.args.node c.release.result c.release.ensures.released c.release.ensures.front)

pub returns-clause-reach : goal.returns-clause-reach
returns-clause-reach g c = pop_reaches c.self.inside.ledger _ c.args.node c.release.result c.booked-booked.ensures.book c.release.ensures.released c.release.ensures.front

pub returns-clause-calm : goal.returns-clause-calm
returns-clause-calm g c =
    let l = ap (λ (v : FloorView _ _ _ _ _). v.ledger) c.self.view_is in
    subst (λ k. RipensNone k c.release.new.self) l (calms_pop c.self.inside.ledger c.release.new.self c.args.node c.release.result c.release.ensures.released c.release.ensures.front)

pub returns-clause-fresh : goal.returns-clause-fresh
returns-clause-fresh g c =
    let l = ap (λ (v : FloorView _ _ _ _ _). v.ledger) c.self.view_is in
    subst (λ k. BeginsNone k c.release.new.self) l (fresh_pop c.self.inside.ledger c.release.new.self c.args.node c.release.result c.release.ensures.released c.release.ensures.front)

pub returns-clause-settled : goal.returns-clause-settled
returns-clause-settled g c =
    let l = ap (λ (v : FloorView _ _ _ _ _). v.ledger) c.self.view_is in
    λ h. pop_settles c.self.inside.ledger c.release.new.self c.args.node c.release.result (subst (λ k. AllSettled k) (sym l) h) c.release.ensures.released c.release.ensures.front
