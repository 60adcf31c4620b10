use Rattle.bt_intake.proofs.Steps.{stands-line, gives-line}
use Rattle.bt_intake.proofs.reader.LineReader.give_line.Goals as goal

pub returns-clause-holds : goal.returns-clause-holds
returns-clause-holds g c = rw c.as_slice.ensures (stands-line g.S.Readable.shown c.args.self.now c.requires.holds c.args.n c.requires.first c.requires.short)

pub returns-clause-gives : goal.returns-clause-gives
returns-clause-gives g c = rw c.as_slice.ensures (gives-line g.S.Readable.shown c.args.self.now c.requires.holds c.args.n c.requires.first c.requires.short c.in_ok-item.item c.in_ok-item.ensures)
