use Rattle.std.proofs.Common.{◌≡◌, ◌-◌, length, take, subst, arith}
use Rattle.std.proofs.lemmas.List.{take_all}
use Rattle.bt_intake.specs.Reader.{uncut, MakesItem}
use Rattle.bt_intake.proofs.Steps.{stands-last, gives-last, length-uncut}
use Rattle.bt_intake.proofs.reader.LineReader.give_last.Goals as goal

pub returns-clause-holds : goal.returns-clause-holds
returns-clause-holds g c =
    let s = c.args.self.now in
    let n : c.len-self.result ≡ length s.window.items = omega (arith, c.len-self.ensures, s.window.ok.0) in
    rw n (stands-last g.S.Readable.shown s c.requires.holds c.requires.here c.requires.none c.requires.some c.requires.short c.requires.room c.requires.ended)

pub returns-clause-gives : goal.returns-clause-gives
returns-clause-gives g c =
    let s = c.args.self.now in
    let n : c.len-self.result ≡ length s.window.items = omega (arith, c.len-self.ensures, s.window.ok.0) in
    let whole : take (c.len.result - s.from) (uncut s) ≡ uncut s =
    take_all (c.len.result - s.from) (uncut s) (omega (arith, c.len.ensures, s.window.ok.0, length-uncut g.S.Readable.shown s c.requires.holds)) in
    rw n
    (gives-last g.S.Readable.shown s c.requires.holds c.requires.here c.requires.none c.requires.some c.requires.short c.requires.room c.requires.ended
    c.in_ok-item.item (subst (λ l. MakesItem s l c.in_ok-item.item) whole c.in_ok-item.ensures))
