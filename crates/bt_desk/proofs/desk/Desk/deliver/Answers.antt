use Rattle.std.proofs.Common.{[], ◌∷◌, ◌++◌, length, arith, ap, ◌∙◌, refl}
use Rattle.bt_desk.specs.Stands.{Stands}
use Rattle.bt_desk.proofs.Delivering.{stands-after}
use Rattle.bt_desk.proofs.desk.Desk.deliver.Given.{Over}
use Rattle.bt_desk.proofs.desk.Desk.deliver.Goals as goal
use Rattle.bt_desk.proofs.desk.Desk.deliver.Goals.{After-clear}

pub settle-requires-clause-few : goal.settle-requires-clause-few
settle-requires-clause-few g c κs within = omega (arith, c.requires.out.few, ap length c.as_slice.ensures)

pub returns-clause-delivers : goal.returns-clause-delivers
returns-clause-delivers g c =
    let p = c.settle.ensures.settles.1 in
    rw (← c.self.view_is) (
      c.settle.ensures.settles.0,
      record {
        settles = record { items = p.items ∙ c.as_slice.ensures; puts = p.puts; answers = p.answers; report = p.report };
        intake = refl;
        clock = refl;
        out = c.clear.ensures.items;
        finished = refl;
      },
    )

-- the desk stands with the transaction at the end of its history
after : (g : Over) (c : After-clear g) → Stands g.I.Intake g.K.Sink g.A.Answerer g.C.Clock (record {
  intake = c.self.inside.intake;
  sinks = c.settle.new.sinks;
  answerer = c.settle.new.answerer;
  clock = c.self.inside.clock;
  out = c.clear.new.self.items;
  report = c.settle.new.report;
  finished = c.self.inside.finished;
})
after g c =
    let was = c.self.invariant.stands in
    let p = c.settle.ensures.settles.1 in
    let last = rw (← c.self.view_is) at c.requires.out in (
      was.0 ++ c.settle.ensures.settles.0 ∷ [],
      stands-after g.I.Intake g.K.Sink g.A.Answerer g.C.Clock _ was.0 was.1 c.args.txn.number c.args.txn.items.list last.out last.number last.batch c.settle.new.sinks c.settle.new.answerer c.settle.ensures.settles.0
          c.settle.ensures.one_sink (p.items ∙ c.as_slice.ensures) p.puts p.answers c.clear.new.self.items c.settle.new.report c.clear.ensures.items p.report,
    )

pub invariant_of-self : goal.invariant_of-self
invariant_of-self g c = record {
  room = rw c.clear.ensures.capacity c.self.invariant.room;
  stands = after g (goal.at.invariant_of-self g c).After-clear;
}

pub returns-clause-stands : goal.returns-clause-stands
returns-clause-stands g c = after g (goal.at.returns-clause-stands g c).After-clear
