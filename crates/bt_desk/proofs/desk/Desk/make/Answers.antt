use Rattle.std.proofs.Common.{[], false}
use Rattle.bt_desk.specs.Stands.{Stands}
use Rattle.bt_desk.proofs.Beginning.{stands-begun}
use Rattle.bt_desk.proofs.desk.Desk.make.Given.{Over}
use Rattle.bt_desk.proofs.desk.Desk.make.Goals as goal
use Rattle.bt_desk.proofs.desk.Desk.make.Goals.{After-new}

-- the desk stands with an empty history
begun : (g : Over) (c : After-new g) → Stands g.I.Intake g.K.Sink g.A.Answerer g.C.Clock (record {
  intake = c.args.parts.intake;
  sinks = c.args.parts.sinks;
  answerer = c.args.parts.answerer;
  clock = c.args.parts.clock;
  out = c.in-Ok.out.items;
  report = c.new.result;
  finished = false;
})
begun g c = (
  [],
  stands-begun g.I.Intake g.K.Sink g.A.Answerer g.C.Clock c.args.parts.intake c.args.parts.sinks c.args.parts.answerer c.args.parts.clock
      c.requires.one_sink c.requires.goes c.requires.few c.requires.unwritten c.requires.unanswered c.requires.unread c.in-Ok.out.items c.new.result c.in-Ok.ensures.items c.new.ensures,
)

pub invariant_of-result : goal.invariant_of-result
invariant_of-result g c = record {
  room = c.in-Ok.ensures.capacity;
  stands = begun g (goal.at.invariant_of-result g c).After-new;
}

pub returns-in-Ok-clause-stands : goal.returns-in-Ok-clause-stands
returns-in-Ok-clause-stands g c = begun g (goal.at.returns-in-Ok-clause-stands g c).After-new
