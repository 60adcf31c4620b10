use Rattle.std.proofs.Common.{◌≡◌, ◌+◌, refl, ap, ◌∙◌, subst, None}
use Rattle.bt_ports.specs.Intake.{stop_of, NextLowers, NextGives}
use Rattle.bt_ports.specs.declared.parts.Txn.{Txn}
use Rattle.bt_sound.specs.View.{FloorView}
use Rattle.bt_sound.proofs.Taking.{sound_take, sound_stop}
use Rattle.bt_floor.proofs.floor.Floor.take.Goals as goal

pub invariant_of-self : goal.invariant_of-self
invariant_of-self g c =
    let e = ap (λ (v : FloorView _ _ _ _ _). v.outside.ending) c.self.view_is in
    let goes : c.self.inside.ending ≡ None = e ∙ c.requires.goes in
    let batch = c.in-Ok.ensures.batch in
    let t : Txn = record { number = c.self.inside.taken + 1; moment = c.now-moment.result; items = c.in-Ok.items } in
    rw (c.admit-slot.ensures.ledger, c.len.ensures) (
      c.self.invariant.0,
      sound_take _ _ _ _ _ _ c.self.invariant.0 c.admit-slot.result c.next.new.self c.now-moment.new.self (record { number = c.self.inside.taken + 1; moment = c.now-moment.result; items = c.in-Ok.items }) c.self.invariant.1 c.admit-slot.ensures.within c.admit-slot.ensures.free goes (record {
        told = c.next.ensures.told;
        batches = c.next.ensures.same;
        gives = λ x. subst (λ r. NextGives r (g.I.Intake.batches c.self.inside.intake) (g.I.Intake.given c.self.inside.intake) (g.I.Intake.given c.next.new.self)) c.in-Ok.ensures.batch (c.next.ensures.gives x);
        lowers = subst (λ r. NextLowers r (g.I.Intake.left c.self.inside.intake) (g.I.Intake.left c.next.new.self)) c.in-Ok.ensures.batch c.next.ensures.lowers;
        stops = c.next.ensures.stops ∙ ap stop_of c.in-Ok.ensures.batch;
        ticks = c.now-moment.ensures.told;
        readings = c.now-moment.ensures.same;
        made = c.now-moment.ensures.counts;
        now = c.now-moment.ensures.reads;
        number = refl;
      }),
    )

pub invariant_of-self-in-Err : goal.invariant_of-self-in-Err
invariant_of-self-in-Err g c = (
  c.self.invariant.0,
  sound_stop _ _ _ _ _ _ c.self.invariant.0 c.next.new.self c.next.result (record {
    told = c.next.ensures.told;
    batches = c.next.ensures.same;
    gives = c.next.ensures.gives;
    lowers = c.next.ensures.lowers;
    stops = c.next.ensures.stops;
    same = c.next.ensures.stays;
    ends = c.next.ensures.ends;
    failed = c.next.ensures.failed;
    ending = c.in-Err.ending;
    is = c.in-Err.ensures.ending;
  }) c.self.invariant.1,
)
