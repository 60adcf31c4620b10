use Rattle.std.proofs.Common.{◌≡◌, ◌-◌, ◌+◌, ℕ, List, [], ◌∷◌, ◌++◌, length, ap, ◌∙◌, arith, refl}
use Rattle.bt_ports.specs.Clock.{reading_at}
use Rattle.bt_desk.specs.declared.report.Out.{Out}
use Rattle.bt_desk.proofs.Admitting.{Answered, stands-ended, next_of_run, batch-lowers}
use Rattle.bt_desk.proofs.desk.Desk.admit.Given.{Over}
use Rattle.bt_desk.proofs.desk.Desk.admit.Goals as goal
use Rattle.bt_desk.proofs.desk.Desk.admit.Goals.{After-batch_of, After-push_reserved, After-answer_of}

pub next-requires : goal.next-requires
next-requires g c = c.self.invariant.stands.1.goes (ap (λ b. b.report.ending) c.self.view_is ∙ c.requires.goes)

pub overflow_add-self : goal.overflow_add-self
overflow_add-self g c = omega (arith, c.self.invariant.stands.1.few)

-- what the intake answered
asked : (g : Over) (c : After-batch_of g) → Answered g.I.Intake c.next.result c.self.inside.intake c.next.new.self
asked g c = record {
  counted = c.next.ensures.counted;
  failed = c.next.ensures.failed;
  lowers = c.next.ensures.lowers;
  stops = c.next.ensures.stops;
  told = c.next.ensures.told;
  same = c.next.ensures.same;
  stays = c.next.ensures.stays;
  gives = c.next.ensures.gives;
  ends = c.next.ensures.ends;
}

-- the one transaction that is out
one_out : (g : Over) (c : After-push_reserved g) → c.push_reserved.new.self.items ≡ record { number = c.self.inside.report.taken + 1; items = length c.in-Ok.items.list } ∷ []
one_out g c =
    c.push_reserved.ensures.items
    ∙ ap (λ (o : List Out). o ++ record { number = c.self.inside.report.taken + 1; items = c.len.result } ∷ []) (ap (λ b. b.out) c.self.view_is ∙ c.requires.idle)
    ∙ ap (λ (n : ℕ). record { number = c.self.inside.report.taken + 1; items = n } ∷ []) c.len.ensures

pub invariant_of-self-in-Err : goal.invariant_of-self-in-Err
invariant_of-self-in-Err g c = record {
  room = c.self.invariant.room;
  stands = (c.self.invariant.stands.0, stands-ended g.I.Intake g.K.Sink g.A.Answerer g.C.Clock _ c.next.new.self c.next.result (asked g (goal.at.invariant_of-self-in-Err g c).After-batch_of) _ c.self.invariant.stands.1 c.in-Err.ending c.in-Err.ensures.ending);
}

pub returns-in-Ok-clause-admits : goal.returns-in-Ok-clause-admits
returns-in-Ok-clause-admits g c = rw (← c.self.view_is) (record {
  out = record {
    out = one_out g c;
    number = refl;
    few = (batch-lowers c.next.result c.in-Ok.items _ _ c.in-Ok.ensures.batch c.next.ensures.lowers).1;
    batch = λ t.
        let last : (c.self.inside.report.taken + 1) - 1 ≡ c.self.inside.report.taken = omega arith in
        rw last (next_of_run g.I.Intake g.K.Sink g.A.Answerer g.C.Clock _ c.next.new.self c.next.result (asked g (goal.at.returns-in-Ok-clause-admits g c).After-batch_of) _ c.self.invariant.stands.1 c.in-Ok.items c.in-Ok.ensures.batch t);
  };
  report = refl;
  some = (batch-lowers c.next.result c.in-Ok.items _ _ c.in-Ok.ensures.batch c.next.ensures.lowers).0;
  left = (batch-lowers c.next.result c.in-Ok.items _ _ c.in-Ok.ensures.batch c.next.ensures.lowers).2;
  moment = λ t. c.now-moment.ensures.reads t ∙ ap (reading_at (g.C.Clock.readings c.self.inside.clock)) (c.self.invariant.stands.1.read (c.now-moment.ensures.told t));
})

pub returns-in-Err-clause-stands : goal.returns-in-Err-clause-stands
returns-in-Err-clause-stands g c =
    (c.self.invariant.stands.0, stands-ended g.I.Intake g.K.Sink g.A.Answerer g.C.Clock _ c.next.new.self c.next.result (asked g (goal.at.returns-in-Err-clause-stands g c).After-batch_of) _ c.self.invariant.stands.1 c.in-Err.ending c.in-Err.ensures.ending)
