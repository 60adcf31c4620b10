use Rattle.bt_intake.proofs.Batching.{gathers-roomy}
use Rattle.bt_intake.proofs.batches.Batches.step.Goals as goal

pub returns-in-Err-clause-gathers : goal.returns-in-Err-clause-gathers
returns-in-Err-clause-gathers g c = gathers-roomy g.S.Readable.shown c.args.self.now c.make_room.new.self c.make_room.ensures.same
