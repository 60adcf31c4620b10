use Rattle.bt_intake.proofs.Steps.{stands-passed}
use Rattle.bt_intake.proofs.reader.LineReader.pass_source.Goals as goal

pub returns-clause-holds : goal.returns-clause-holds
returns-clause-holds g c = stands-passed g.S.Readable.shown c.args.self.now c.requires.holds c.requires.here c.requires.empty c.requires.ended
