use Rattle.std.proofs.Common.{Some, ap, ◌∙◌}
use Rattle.bt_intake.proofs.Turns.{goes-still, faults-still}
use Rattle.bt_intake.proofs.reader.LineReader.step.Goals as goal

pub returns-in-Some-clause-goes : goal.returns-in-Some-clause-goes
returns-in-Some-clause-goes g c =
    let e = c.cut_line.ensures.same in
    goes-still g.S.Readable.shown c.args.self.now c.cut_line.new.self (ap (λ u. u.sources) e) (ap (λ u. u.delimiter) e) (ap (λ u. u.bound) e) (ap (λ u. u.taken) e)

pub returns-in-Some-clause-faults : goal.returns-in-Some-clause-faults
returns-in-Some-clause-faults g c =
    let e = c.cut_line.ensures.same in
    faults-still g.S.Readable.shown (Some c.cut_line.result) c.args.self.now c.cut_line.new.self (ap (λ u. u.sources) e) c.cut_line.ensures.answers

pub returns-in-Err-clause-goes : goal.returns-in-Err-clause-goes
returns-in-Err-clause-goes g c =
    let e = c.pass_bytes.ensures.same in
    let f = c.drop_cut.ensures.same in
    goes-still g.S.Readable.shown c.args.self.now c.drop_cut.new.self
    (ap (λ u. u.sources) f ∙ ap (λ u. u.sources) e) (ap (λ u. u.delimiter) f ∙ ap (λ u. u.delimiter) e) (ap (λ u. u.bound) f ∙ ap (λ u. u.bound) e) (ap (λ u. u.taken) f ∙ ap (λ u. u.taken) e)
