use Rattle.std.proofs.Common.{◌<◌, sym, ap, subst, length}
use Rattle.bt_demand.specs.Parts.{PartsFit, parts_of}
use Rattle.bt_ledger.specs.Calls.{IsOut, Fits}
use Rattle.bt_ledger.specs.Ledger.{slot_at, items_in, number_in}
use Rattle.bt_sound.specs.View.{FloorView}
use Rattle.bt_moves.specs.Moves.{RipensNone}
use Rattle.bt_sound.specs.Transactions.{Derived}
use Rattle.bt_moves.proofs.Giving.{calms_give}
use Rattle.bt_sound.proofs.Taking.{sound_give, fits_any}
use Rattle.bt_demand.specs.declared.routes.HoldPolicy.{HoldPolicy}
use Rattle.std.proofs.Common.{List}
use Rattle.bt_floor.proofs.floor.Floor.give.Goals as goal

pub invariant_of-self : goal.invariant_of-self
invariant_of-self g c =
    rw c.give.ensures (
      c.self.invariant.0,
      sound_give _ _ _ _ _ _ c.self.invariant.0 c.args.slot (parts_of c.args.routes.parts.list) c.self.invariant.1
          (subst (λ (v : FloorView _ _ _ _ _). c.args.slot < length v.ledger.slots) (sym c.self.view_is) c.requires.within)
          (subst (λ (v : FloorView _ _ _ _ _). IsOut (slot_at v.ledger c.args.slot)) (sym c.self.view_is) c.requires.out)
          (subst (λ (v : FloorView _ _ _ _ _). PartsFit (g.D.Derive.sinks v.outside.plan) (length (g.D.Derive.policies v.outside.plan)) (items_in (slot_at v.ledger c.args.slot)) (parts_of c.args.routes.parts.list)) (sym c.self.view_is) c.requires.fits)
          (subst (λ (v : FloorView _ _ _ _ _). Derived g.I.Intake g.C.Clock g.D.Derive v.outside (number_in (slot_at v.ledger c.args.slot)) (parts_of c.args.routes.parts.list)) (sym c.self.view_is) c.requires.derived),
    )

pub give-requires-clause-fits : goal.give-requires-clause-fits
give-requires-clause-fits g c =
    let fit = subst (λ (v : FloorView _ _ _ _ _). PartsFit (g.D.Derive.sinks v.outside.plan) (length (g.D.Derive.policies v.outside.plan)) (items_in (slot_at v.ledger c.args.slot)) (parts_of c.args.routes.parts.list)) (sym c.self.view_is) c.requires.fits in
    subst (λ (ps : List HoldPolicy). Fits (length ps) (items_in (slot_at c.self.inside.ledger c.args.slot)) (parts_of c.args.routes.parts.list)) (sym c.self.invariant.1.policies) (fits_any _ _ _ (parts_of c.args.routes.parts.list) fit)

pub returns-clause-calm : goal.returns-clause-calm
returns-clause-calm g c =
    let l = ap (λ (v : FloorView _ _ _ _ _). v.ledger) c.self.view_is in
    subst (λ k. RipensNone k c.give.new.self) l (rw c.give.ensures (calms_give c.self.inside.ledger c.args.slot _ c.booked-booked.ensures.book (subst (λ k. IsOut (slot_at k c.args.slot)) (sym l) c.requires.out)))
