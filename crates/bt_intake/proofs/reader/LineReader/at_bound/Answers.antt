use Rattle.std.proofs.Common.{◌<◌, ◌≤◌, length, refl, arith}
use Rattle.bt_lines.specs.declared.TheConstants.{LONGEST}
use Rattle.bt_intake.specs.Reader.{uncut}
use Rattle.bt_intake.proofs.Steps.{length-uncut}
use Rattle.bt_intake.proofs.Turns.{says-long_full, says-bound}
use Rattle.bt_intake.proofs.reader.LineReader.at_bound.Goals as goal

pub returns-then-len-self-gt-LONGEST : goal.returns-then-len-self-gt-LONGEST
returns-then-len-self-gt-LONGEST g c =
    let s = c.args.self.now in
    let many : LONGEST < length (uncut s) = omega (arith, c.if-len-self-gt-LONGEST.true, c.len.ensures, s.window.ok.0, length-uncut g.S.Readable.shown s c.requires.holds) in
    rw c.long_line.ensures (refl, says-long_full g.S.Readable.shown s c.requires.holds c.requires.none c.requires.full many)

pub returns : goal.returns
returns g c =
    let s = c.args.self.now in
    let few : length (uncut s) ≤ LONGEST = omega (arith, c.if-len-self-gt-LONGEST.false, c.len.ensures, s.window.ok.0, length-uncut g.S.Readable.shown s c.requires.holds) in
    (refl, says-bound g.S.Readable.shown s c.requires.holds c.requires.none c.requires.full few)
