-- What a run of a plan leaves.
use Rattle.std.specs.Prelude.{◌≡◌, IsTrue, [], length, None, IsSome}
use Rattle.bt_carry.specs.Account.{Account, AllTell}
use Rattle.bt_carry.specs.Calls.{EndedWith, ReadForEach}
use Rattle.bt_carry.specs.Order.{AllOrdered}
use Rattle.bt_demand.specs.declared.derive.Derive as Derive
use Rattle.bt_floor.specs.Calls.{SameRun}
use Rattle.bt_floor.specs.declared.making.Parts.{Parts}
use Rattle.bt_ports.specs.declared.outside.Answerer as Answerer
use Rattle.bt_ports.specs.declared.outside.Clock as Clock
use Rattle.bt_ports.specs.declared.outside.Intake as Intake
use Rattle.bt_ports.specs.declared.outside.Sink as Sink
use Rattle.bt_runner.specs.declared.run.Ran.{Ran}
use Rattle.bt_sound.specs.Course.{Course}
use Rattle.bt_sound.specs.View.{Outside}

-- the clock was not read yet
abbrev pub Unread : {C : Type 0} → Clock.Ghosts C → C → Type 0
Unread g c = IsTrue (g.tells c) → g.made c ≡ 0

-- a run of this plan at its beginning
abbrev pub beginning : {I K A C D : Type 0} → D → Parts I K A C → Outside I C D
beginning plan p = record { plan = plan; intake = p.intake; clock = p.clock; taken = 0; ending = None; refused_memory = 0 }

-- and at its end, as its report says
abbrev pub ending_as : {I K A C D : Type 0} → D → Ran I K A C → Outside I C D
ending_as plan r = record { plan = plan; intake = r.parts.intake; clock = r.parts.clock; taken = r.report.taken; ending = r.report.ending; refused_memory = r.report.counts.refused_memory }

-- A run of a plan over these parts is over. It is the run of the intake's batches and of the clock's readings that were left;
-- it ended as the intake did; the clock was read once for each transaction; and where all tell, its account holds. Where they
-- tell and the plan has no holds, the records of each sink are in input order, and the answers by transaction and part.
pub record HasRun {I K A C D : Type 0} (gi : Intake.Ghosts I) (gk : Sink.Ghosts K) (ga : Answerer.Ghosts A) (gc : Clock.Ghosts C) (gd : Derive.Ghosts D) (plan : D) (p : Parts I K A C) (r : Ran I K A C) : Type 0 where
  pub ended : IsSome r.report.ending
  pub faults : EndedWith r.report.ending (gi.faults p.intake) (gi.faults r.parts.intake)
  pub run : SameRun gi gc (beginning plan p) (ending_as plan r)
  pub course : Course gi gc (ending_as plan r)
  pub read : ReadForEach gc (ending_as plan r)
  pub sinks : length r.parts.sinks.list ≡ gd.sinks plan
  pub account : AllTell gi gk ga gc (ending_as plan r) r.parts.sinks.list r.parts.answerer → Account gi gk ga gc gd (ending_as plan r) r.parts.sinks.list r.parts.answerer r.report.counts
  pub order : gd.policies plan ≡ [] → AllTell gi gk ga gc (ending_as plan r) r.parts.sinks.list r.parts.answerer → AllOrdered gi gk ga gc gd (ending_as plan r) r.parts.sinks.list r.parts.answerer
