use Rattle.std.proofs.Common.{true}
use Rattle.bt_duties.proofs.Admitting.{admits_from, place_unheld, same_unheld}
use Rattle.bt_duties.proofs.desk.Desk.admit.Goals as goal

pub returns-clause-admits : goal.returns-clause-admits
returns-clause-admits g c =
    let made = c.if-not-make_place.false in
    admits_from g.I.Intake g.C.Clock c.args.duty c.take-answer.result c.args.self.now c.make_place.new.self c.take-answer.new.self (record {
      place = c.make_place.ensures.room made;
      same = c.make_place.ensures.same;
      flushed = λ w. c.make_place.ensures.flushed w made;
      outside = c.make_place.ensures.outside;
      duties = c.make_place.ensures.duties;
    }) c.take-answer.ensures.admits

pub returns-clause-unheld : goal.returns-clause-unheld
returns-clause-unheld g c = place_unheld c.args.self.now.floor c.make_place.new.self.floor c.take-answer.new.self.floor c.make_place.ensures.unheld c.take-answer.ensures.unheld

pub returns-then-not-make_place-clause-unheld : goal.returns-then-not-make_place-clause-unheld
returns-then-not-make_place-clause-unheld g c = λ q. same_unheld c.args.self.now.floor c.make_place.new.self.floor (c.make_place.ensures.unheld q)
