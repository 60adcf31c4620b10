use Rattle.std.proofs.Common.{◌≡◌, refl, ◌∙◌}
use Rattle.bt_ledger.specs.Ledger.{slot_at, number_in, open_in}
use Rattle.bt_moves.proofs.Moves.{answering_same, answering_joins}
use Rattle.bt_sound.specs.Turns.{CallsDue}
use Rattle.bt_sound.proofs.Turns.{answers_map, answers_same, due_more, DueSoFar}
use Rattle.bt_floor.proofs.floor.Floor.answer_due.Goals as goal

pub loop-item-init : goal.loop-item-init
loop-item-init g c = record {
  answering = answering_same c.args.self.now.ledger c.args.slot c.requires.1;
  outside = refl;
  releases = refl;
  sinks = refl;
  adds = answers_same g.A.Answerer (DueSoFar (open_in (slot_at c.args.self.now.ledger c.args.slot)) (open_in (slot_at c.args.self.now.ledger c.args.slot))) c.args.self.now.answerer ((tt, tt), tt);
  dues = λ i d. d;
}

pub loop-item-preserved : goal.loop-item-preserved
loop-item-preserved g c = record {
  answering = answering_joins c.args.slot c.args.self.now.ledger c.loop-item.self.ledger c.answer.new.self.ledger c.loop-item.invariant.answering c.answer.ensures.answering;
  outside = c.answer.ensures.outside ∙ c.loop-item.invariant.outside;
  releases = c.answer.ensures.releases ∙ c.loop-item.invariant.releases;
  sinks = c.answer.ensures.sinks ∙ c.loop-item.invariant.sinks;
  adds = due_more g.A.Answerer (open_in (slot_at c.args.self.now.ledger c.args.slot)) (open_in (slot_at c.loop-item.self.ledger c.args.slot)) (open_in (slot_at c.answer.new.self.ledger c.args.slot)) (number_in (slot_at c.loop-item.self.ledger c.args.slot)) c.in-Some.item c.args.self.now.answerer c.loop-item.self.answerer c.answer.new.self.answerer c.loop-item.invariant.answering.number (c.loop-item.invariant.dues c.in-Some.item c.in-Some.ensures.0) c.in-Some.ensures.0 c.in-Some.ensures.1 c.answer.ensures.dues c.answer.ensures.done c.loop-item.invariant.adds c.answer.ensures.adds;
  dues = λ i d. c.loop-item.invariant.dues i (c.answer.ensures.dues i d);
}

pub returns-clause-adds : goal.returns-clause-adds
returns-clause-adds g c = answers_map g.A.Answerer (DueSoFar (open_in (slot_at c.args.self.now.ledger c.args.slot)) (open_in (slot_at c.loop-item.self.ledger c.args.slot))) (CallsDue (open_in (slot_at c.args.self.now.ledger c.args.slot))) c.args.self.now.answerer c.loop-item.self.answerer (λ cs h. h.0) c.loop-item.invariant.adds
