use Rattle.std.proofs.Common.{refl}
use Rattle.bt_intake.proofs.Turns.{says-long_line}
use Rattle.bt_intake.proofs.reader.LineReader.cut_line.Goals as goal

pub returns-then-n-gt-LONGEST-clause-answers : goal.returns-then-n-gt-LONGEST-clause-answers
returns-then-n-gt-LONGEST-clause-answers g c =
    let s = c.args.self.now in
    rw c.long_line.ensures (refl, says-long_line g.S.Readable.shown s c.requires.holds c.args.n c.requires.first c.if-n-gt-LONGEST.true)
