use Rattle.std.proofs.Common.{drop, sym}
use Rattle.bt_lines.specs.Pieces.{NoneIn, FirstAt}
use Rattle.bt_lines.proofs.Pieces.{first-behind, none-behind}
use Rattle.bt_intake.specs.Reader.{uncut}
use Rattle.bt_intake.proofs.Steps.{clear_inside}
use Rattle.bt_intake.proofs.Windows.{tail_behind}
use Rattle.bt_intake.proofs.reader.LineReader.first_delimiter.Goals as goal

pub returns-in-None : goal.returns-in-None
returns-in-None g c =
    let s = c.args.self.now in
    let here : NoneIn s.delimiter (drop s.clear (uncut s)) = rw (sym (tail_behind s.window.items s.from s.clear)) (rw (sym c.as_slice.ensures, sym c.deref.ensures.value) c.in-None.ensures) in
    none-behind s.delimiter (uncut s) s.clear c.requires.clear here

pub returns-in-Some : goal.returns-in-Some
returns-in-Some g c =
    let s = c.args.self.now in
    let here : FirstAt s.delimiter (drop s.clear (uncut s)) c.in-Some.place = rw (sym (tail_behind s.window.items s.from s.clear)) (rw (sym c.as_slice.ensures, sym c.deref.ensures.value) c.in-Some.ensures) in
    first-behind s.delimiter (uncut s) s.clear c.in-Some.place c.requires.clear here (clear_inside g.S.Readable.shown s c.requires)
