use Rattle.std.proofs.Common.{◌<◌, arith, ap, length, subst, sym, ◌∙◌}
use Rattle.bt_moves.specs.Moves.{left_to_do}
use Rattle.bt_moves.proofs.Moves.{closed_left, closed_free}
use Rattle.bt_ledger.specs.Ledger.{held_in, Ledger, slot_at, open_in, is_given}
use Rattle.bt_moves.proofs.Lateness.{late_joins, late_answering, late_close}
use Rattle.bt_moves.proofs.Outs.{outs_joins, outs_answering, outs_close}
use Rattle.bt_moves.proofs.Beginning.{fresh_answering, fresh_close}
use Rattle.bt_moves.proofs.Ripening.{calms_answering, calms_close}
use Rattle.bt_moves.proofs.Settling.{answering_settled, close_settled}
use Rattle.bt_moves.proofs.Periods.{true_false}
use Rattle.bt_sound.specs.Turns.{AnswererAdds, CallsDue}
use Rattle.bt_sound.proofs.Turns.{same_answering}
use Rattle.bt_floor.proofs.floor.Floor.finish_part.Goals as goal

pub returns-then-unanswered-eq0-clause-no_more : goal.returns-then-unanswered-eq0-clause-no_more
returns-then-unanswered-eq0-clause-no_more g c =
    let m = c.answer_due.new.self.ledger in
    let a = c.answer_due.ensures.answering in
    let w = a.work in
    let h = ap held_in a.chains in
    let s = a.slots in
    let within : c.args.slot < length m.slots = (let r = c.requires.given.0 in omega arith) in
    let b = closed_left m c.args.slot within in
    let e = ap left_to_do c.close.ensures.ledger in
    omega arith

pub returns-then-unanswered-eq0-clause-late : goal.returns-then-unanswered-eq0-clause-late
returns-then-unanswered-eq0-clause-late g c = λ n.
    let m = c.answer_due.new.self.ledger in
    let s = c.answer_due.ensures.answering.slots in
    let within : c.args.slot < length m.slots = (let r = c.requires.given.0 in omega arith) in
    late_joins n c.args.self.now.ledger m c.close.new.self.ledger (late_answering n c.args.slot c.args.self.now.ledger m c.answer_due.ensures.answering) (rw c.close.ensures.ledger (late_close n c.args.slot m within))

pub returns-else-unanswered-eq0-clause-late : goal.returns-else-unanswered-eq0-clause-late
returns-else-unanswered-eq0-clause-late g c = λ n. late_answering n c.args.slot c.args.self.now.ledger c.answer_due.new.self.ledger c.answer_due.ensures.answering

pub returns-then-unanswered-eq0-clause-calm : goal.returns-then-unanswered-eq0-clause-calm
returns-then-unanswered-eq0-clause-calm g c =
    let m = c.answer_due.new.self.ledger in
    let s = c.answer_due.ensures.answering.slots in
    let within : c.args.slot < length m.slots = (let r = c.requires.given.0 in omega arith) in
    λ n h. rw c.close.ensures.ledger (calms_close m c.args.slot within n (calms_answering c.args.slot c.args.self.now.ledger m c.answer_due.ensures.answering n h))

pub returns-else-unanswered-eq0-clause-calm : goal.returns-else-unanswered-eq0-clause-calm
returns-else-unanswered-eq0-clause-calm g c = calms_answering c.args.slot c.args.self.now.ledger c.answer_due.new.self.ledger c.answer_due.ensures.answering

pub returns-then-unanswered-eq0-clause-fresh : goal.returns-then-unanswered-eq0-clause-fresh
returns-then-unanswered-eq0-clause-fresh g c =
    let m = c.answer_due.new.self.ledger in
    let s = c.answer_due.ensures.answering.slots in
    let within : c.args.slot < length m.slots = (let r = c.requires.given.0 in omega arith) in
    λ a b h. rw c.close.ensures.ledger (fresh_close m c.args.slot within a b (fresh_answering c.args.slot c.args.self.now.ledger m c.answer_due.ensures.answering a b h))

pub returns-else-unanswered-eq0-clause-fresh : goal.returns-else-unanswered-eq0-clause-fresh
returns-else-unanswered-eq0-clause-fresh g c = fresh_answering c.args.slot c.args.self.now.ledger c.answer_due.new.self.ledger c.answer_due.ensures.answering

pub returns-then-unanswered-eq0-clause-outs : goal.returns-then-unanswered-eq0-clause-outs
returns-then-unanswered-eq0-clause-outs g c =
    let m = c.answer_due.new.self.ledger in
    let s = c.answer_due.ensures.answering.slots in
    let within : c.args.slot < length m.slots = (let r = c.requires.given.0 in omega arith) in
    outs_joins c.args.self.now.ledger m c.close.new.self.ledger (outs_answering c.args.slot c.args.self.now.ledger m c.requires.given.1 c.answer_due.ensures.answering) (rw c.close.ensures.ledger (outs_close m c.args.slot within c.answer_due.ensures.answering.given))

pub returns-else-unanswered-eq0-clause-outs : goal.returns-else-unanswered-eq0-clause-outs
returns-else-unanswered-eq0-clause-outs g c = outs_answering c.args.slot c.args.self.now.ledger c.answer_due.new.self.ledger c.requires.given.1 c.answer_due.ensures.answering

pub returns-then-unanswered-eq0-clause-settled : goal.returns-then-unanswered-eq0-clause-settled
returns-then-unanswered-eq0-clause-settled g c =
    let m = c.answer_due.new.self.ledger in
    let s = c.answer_due.ensures.answering.slots in
    let within : c.args.slot < length m.slots = (let r = c.requires.given.0 in omega arith) in
    λ h. rw c.close.ensures.ledger (close_settled m c.args.slot within (answering_settled c.args.slot c.args.self.now.ledger m c.answer_due.ensures.answering h))

pub returns-else-unanswered-eq0-clause-settled : goal.returns-else-unanswered-eq0-clause-settled
returns-else-unanswered-eq0-clause-settled g c = answering_settled c.args.slot c.args.self.now.ledger c.answer_due.new.self.ledger c.answer_due.ensures.answering

pub returns-then-unanswered-eq0-clause-adds : goal.returns-then-unanswered-eq0-clause-adds
returns-then-unanswered-eq0-clause-adds g c = subst (λ a. AnswererAdds g.A.Answerer (CallsDue (open_in (slot_at c.args.self.now.ledger c.args.slot))) c.args.self.now.answerer a) (sym c.close.ensures.answerer) c.answer_due.ensures.adds

pub returns-then-unanswered-eq0-clause-same : goal.returns-then-unanswered-eq0-clause-same
returns-then-unanswered-eq0-clause-same g c =
    let m = c.answer_due.new.self.ledger in
    let s = c.answer_due.ensures.answering.slots in
    let within : c.args.slot < length m.slots = (let r = c.requires.given.0 in omega arith) in
    λ e. absurd (true_false _ e (ap (λ k. is_given (slot_at k c.args.slot)) c.close.ensures.ledger ∙ closed_free m c.args.slot within))

pub returns-else-unanswered-eq0-clause-same : goal.returns-else-unanswered-eq0-clause-same
returns-else-unanswered-eq0-clause-same g c = λ e. same_answering c.args.slot c.args.self.now.ledger c.answer_due.new.self.ledger c.answer_due.ensures.answering

pub returns-then-unanswered-eq0-clause-policies : goal.returns-then-unanswered-eq0-clause-policies
returns-then-unanswered-eq0-clause-policies g c = ap (λ (k : Ledger). k.policies) c.close.ensures.ledger ∙ c.answer_due.ensures.answering.policies
