use Rattle.std.proofs.Common.{◌<◌, length, refl, arith}
use Rattle.bt_lines.specs.declared.TheConstants.{LONGEST}
use Rattle.bt_intake.specs.Reader.{uncut}
use Rattle.bt_intake.proofs.Steps.{length-uncut}
use Rattle.bt_intake.proofs.Turns.{says-long_last}
use Rattle.bt_intake.proofs.reader.LineReader.end_source.Goals as goal

pub returns-then-left-gt-LONGEST-clause-steps : goal.returns-then-left-gt-LONGEST-clause-steps
returns-then-left-gt-LONGEST-clause-steps g c =
    let s = c.args.self.now in
    let many : LONGEST < length (uncut s) = omega (arith, c.if-left-gt-LONGEST.true, c.len.ensures, s.window.ok.0, length-uncut g.S.Readable.shown s c.requires.holds) in
    rw c.long_line.ensures (refl, says-long_last g.S.Readable.shown s c.requires.holds c.requires.none c.requires.here c.requires.ended many)
