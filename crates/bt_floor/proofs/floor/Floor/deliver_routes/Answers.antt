use Rattle.std.proofs.Common.{◌≡◌, arith, sym, ap, ◌∙◌, subst, length, false, length-set, refl, true}
use Rattle.bt_demand.specs.Find.{begun}
use Rattle.bt_demand.specs.Parts.{parts_of}
use Rattle.bt_ledger.specs.Ledger.{Ledger, slot_at, IsGiven, part_tree, parts_in, open_in, is_given}
use Rattle.bt_ledger.specs.Open.{tree_of}
use Rattle.bt_ledger.specs.declared.slot.Slot.TheVariants.{Given}
use Rattle.bt_sound.specs.Transactions.{given_open}
use Rattle.bt_moves.proofs.Giving.{none_behind, after_give, closed_rests, given_here, given_slot}
use Rattle.bt_sound.proofs.Taking.{fresh_at}
use Rattle.bt_moves.specs.Moves.{OutStays}
use Rattle.bt_moves.proofs.Outs.{outs_joins}
use Rattle.bt_moves.specs.Resting.{AllSettled}
use Rattle.bt_moves.proofs.Settling.{give_settled}
use Rattle.bt_moves.proofs.Periods.{true_false}
use Rattle.bt_sound.specs.Turns.{AnswererAdds, CallsDue, SameFrom}
use Rattle.bt_sound.proofs.Turns.{delivered_turn}
use Rattle.bt_floor.proofs.floor.Floor.deliver_routes.Goals as goal

pub finish_part-requires-clause-given : goal.finish_part-requires-clause-given
finish_part-requires-clause-given g c = λ κs within. subst (λ k. IsGiven k c.args.slot) (sym c.give.ensures.ledger) (given_here c.args.self.now.ledger c.args.slot _ c.requires.within)

pub deliver-requires-clause-quiet : goal.deliver-requires-clause-quiet
deliver-requires-clause-quiet g c =
    let m = c.give.new.self.ledger in
    let k = c.finish_part.new.self.ledger in
    let a = after_give c.args.self.now.ledger c.give.new.self.ledger c.finish_part.new.self.ledger c.args.slot (length (parts_in (slot_at c.give.new.self.ledger c.args.slot))) _ c.requires.resting c.give.ensures.ledger c.give.ensures.calm
    (c.finish_part.ensures.others (length (parts_in (slot_at c.give.new.self.ledger c.args.slot))) (none_behind c.give.new.self.ledger c.args.slot)) c.finish_part.ensures.rest c.finish_part.ensures.calm (c.finish_part.ensures.settled (subst (λ k. AllSettled k) (sym c.give.ensures.ledger) (give_settled c.args.self.now.ledger c.args.slot (given_open (slot_at c.args.self.now.ledger c.args.slot) (parts_of c.args.routes.parts.list)) c.requires.within (λ b. fresh_at _ _ _ (parts_of c.args.routes.parts.list) b c.requires.fits) c.requires.resting.settled))) in
    λ κs within. a.quiet

pub deliver-requires-clause-rest : goal.deliver-requires-clause-rest
deliver-requires-clause-rest g c =
    let m = c.give.new.self.ledger in
    let k = c.finish_part.new.self.ledger in
    let a = after_give c.args.self.now.ledger c.give.new.self.ledger c.finish_part.new.self.ledger c.args.slot (length (parts_in (slot_at c.give.new.self.ledger c.args.slot))) _ c.requires.resting c.give.ensures.ledger c.give.ensures.calm
    (c.finish_part.ensures.others (length (parts_in (slot_at c.give.new.self.ledger c.args.slot))) (none_behind c.give.new.self.ledger c.args.slot)) c.finish_part.ensures.rest c.finish_part.ensures.calm (c.finish_part.ensures.settled (subst (λ k. AllSettled k) (sym c.give.ensures.ledger) (give_settled c.args.self.now.ledger c.args.slot (given_open (slot_at c.args.self.now.ledger c.args.slot) (parts_of c.args.routes.parts.list)) c.requires.within (λ b. fresh_at _ _ _ (parts_of c.args.routes.parts.list) b c.requires.fits) c.requires.resting.settled))) in
    λ κs within. a.rest

pub deliver-requires-clause-settled : goal.deliver-requires-clause-settled
deliver-requires-clause-settled g c = λ κs within. c.finish_part.ensures.settled (subst (λ k. AllSettled k) (sym c.give.ensures.ledger) (give_settled c.args.self.now.ledger c.args.slot (given_open (slot_at c.args.self.now.ledger c.args.slot) (parts_of c.args.routes.parts.list)) c.requires.within (λ b. fresh_at _ _ _ (parts_of c.args.routes.parts.list) b c.requires.fits) c.requires.resting.settled))

pub deliver-requires-clause-calm : goal.deliver-requires-clause-calm
deliver-requires-clause-calm g c =
    let m = c.give.new.self.ledger in
    let k = c.finish_part.new.self.ledger in
    let a = after_give c.args.self.now.ledger c.give.new.self.ledger c.finish_part.new.self.ledger c.args.slot (length (parts_in (slot_at c.give.new.self.ledger c.args.slot))) _ c.requires.resting c.give.ensures.ledger c.give.ensures.calm
    (c.finish_part.ensures.others (length (parts_in (slot_at c.give.new.self.ledger c.args.slot))) (none_behind c.give.new.self.ledger c.args.slot)) c.finish_part.ensures.rest c.finish_part.ensures.calm (c.finish_part.ensures.settled (subst (λ k. AllSettled k) (sym c.give.ensures.ledger) (give_settled c.args.self.now.ledger c.args.slot (given_open (slot_at c.args.self.now.ledger c.args.slot) (parts_of c.args.routes.parts.list)) c.requires.within (λ b. fresh_at _ _ _ (parts_of c.args.routes.parts.list) b c.requires.fits) c.requires.resting.settled))) in
    λ κs within. a.calm

pub deliver-requires-clause-fresh : goal.deliver-requires-clause-fresh
deliver-requires-clause-fresh g c = λ κs within b. c.finish_part.ensures.fresh c.args.slot b
    (subst (λ j. begun (part_tree j c.args.slot b) ≡ false) (sym c.give.ensures.ledger)
    (ap (λ x. begun (tree_of (parts_in x) b)) (given_slot c.args.self.now.ledger c.args.slot (given_open (slot_at c.args.self.now.ledger c.args.slot) (parts_of c.args.routes.parts.list)) c.requires.within) ∙ fresh_at _ _ _ (parts_of c.args.routes.parts.list) b c.requires.fits))

pub returns-else-is_given-clause-resting : goal.returns-else-is_given-clause-resting
returns-else-is_given-clause-resting g c =
    let m = c.give.new.self.ledger in
    let k = c.finish_part.new.self.ledger in
    let a = after_give c.args.self.now.ledger c.give.new.self.ledger c.finish_part.new.self.ledger c.args.slot (length (parts_in (slot_at c.give.new.self.ledger c.args.slot))) _ c.requires.resting c.give.ensures.ledger c.give.ensures.calm
    (c.finish_part.ensures.others (length (parts_in (slot_at c.give.new.self.ledger c.args.slot))) (none_behind c.give.new.self.ledger c.args.slot)) c.finish_part.ensures.rest c.finish_part.ensures.calm (c.finish_part.ensures.settled (subst (λ k. AllSettled k) (sym c.give.ensures.ledger) (give_settled c.args.self.now.ledger c.args.slot (given_open (slot_at c.args.self.now.ledger c.args.slot) (parts_of c.args.routes.parts.list)) c.requires.within (λ b. fresh_at _ _ _ (parts_of c.args.routes.parts.list) b c.requires.fits) c.requires.resting.settled))) in
    closed_rests c.args.slot c.finish_part.new.self.ledger a (sym c.is_given.ensures ∙ c.if-is_given.false)

pub is_given-requires-after_bounds : goal.is_given-requires-after_bounds
is_given-requires-after_bounds g c = λ κs within.
    let e = ap (λ (k : Ledger). length k.slots) c.give.ensures.ledger in
    let d = length-set c.args.self.now.ledger.slots c.args.slot (Given (given_open (slot_at c.args.self.now.ledger c.args.slot) (parts_of c.args.routes.parts.list))) in
    let k = (c.finish_part.ensures.others (length (parts_in (slot_at c.give.new.self.ledger c.args.slot))) (none_behind c.give.new.self.ledger c.args.slot)).slots in
    let w = c.requires.within in
    omega arith

pub returns-then-is_given-clause-slots : goal.returns-then-is_given-clause-slots
returns-then-is_given-clause-slots g c =
    let e = ap (λ (k : Ledger). length k.slots) c.give.ensures.ledger in
    let d = length-set c.args.self.now.ledger.slots c.args.slot (Given (given_open (slot_at c.args.self.now.ledger c.args.slot) (parts_of c.args.routes.parts.list))) in
    let k = (c.finish_part.ensures.others (length (parts_in (slot_at c.give.new.self.ledger c.args.slot))) (none_behind c.give.new.self.ledger c.args.slot)).slots in
    c.deliver.ensures.slots ∙ (k ∙ (e ∙ d))

pub returns-else-is_given-clause-slots : goal.returns-else-is_given-clause-slots
returns-else-is_given-clause-slots g c =
    let e = ap (λ (k : Ledger). length k.slots) c.give.ensures.ledger in
    let d = length-set c.args.self.now.ledger.slots c.args.slot (Given (given_open (slot_at c.args.self.now.ledger c.args.slot) (parts_of c.args.routes.parts.list))) in
    let k = (c.finish_part.ensures.others (length (parts_in (slot_at c.give.new.self.ledger c.args.slot))) (none_behind c.give.new.self.ledger c.args.slot)).slots in
    k ∙ (e ∙ d)

pub returns-then-is_given-clause-outs : goal.returns-then-is_given-clause-outs
returns-then-is_given-clause-outs g c = subst (λ (q : Ledger). OutStays q c.deliver.new.self.ledger) c.give.ensures.ledger (outs_joins c.give.new.self.ledger c.finish_part.new.self.ledger c.deliver.new.self.ledger c.finish_part.ensures.outs c.deliver.ensures.outs)

pub returns-else-is_given-clause-outs : goal.returns-else-is_given-clause-outs
returns-else-is_given-clause-outs g c = subst (λ (q : Ledger). OutStays q c.finish_part.new.self.ledger) c.give.ensures.ledger c.finish_part.ensures.outs

pub returns-then-is_given-clause-turn : goal.returns-then-is_given-clause-turn
returns-then-is_given-clause-turn g c = λ q.
    let m = c.finish_part.new.self in
    let e = ap (λ k. slot_at k c.args.slot) c.give.ensures.ledger ∙ given_slot c.args.self.now.ledger c.args.slot (given_open (slot_at c.args.self.now.ledger c.args.slot) (parts_of c.args.routes.parts.list)) c.requires.within in
    let calls = subst (λ a. AnswererAdds g.A.Answerer (CallsDue (given_open (slot_at c.args.self.now.ledger c.args.slot) (parts_of c.args.routes.parts.list))) a m.answerer) c.give.ensures.answerer (subst (λ y. AnswererAdds g.A.Answerer (CallsDue (open_in y)) c.give.new.self.answerer m.answerer) e c.finish_part.ensures.adds) in
    let same : is_given (slot_at m.ledger c.args.slot) ≡ true → SameFrom (Given (given_open (slot_at c.args.self.now.ledger c.args.slot) (parts_of c.args.routes.parts.list))) (slot_at m.ledger c.args.slot) = λ h. subst (λ y. SameFrom y (slot_at m.ledger c.args.slot)) e (c.finish_part.ensures.same h) in
    delivered_turn g.K.Sink g.A.Answerer c.args.slot (slot_at c.args.self.now.ledger c.args.slot) (parts_of c.args.routes.parts.list) c.args.self.now m c.deliver.new.self (c.finish_part.ensures.sinks ∙ c.give.ensures.sinks) calls same
    (λ h. c.deliver.ensures.turn (c.finish_part.ensures.policies ∙ (ap (λ (k : Ledger). k.policies) c.give.ensures.ledger ∙ q)))
    (λ h. absurd (true_false _ (sym c.is_given.ensures ∙ c.if-is_given.true) h))

pub returns-else-is_given-clause-turn : goal.returns-else-is_given-clause-turn
returns-else-is_given-clause-turn g c = λ q.
    let m = c.finish_part.new.self in
    let e = ap (λ k. slot_at k c.args.slot) c.give.ensures.ledger ∙ given_slot c.args.self.now.ledger c.args.slot (given_open (slot_at c.args.self.now.ledger c.args.slot) (parts_of c.args.routes.parts.list)) c.requires.within in
    let calls = subst (λ a. AnswererAdds g.A.Answerer (CallsDue (given_open (slot_at c.args.self.now.ledger c.args.slot) (parts_of c.args.routes.parts.list))) a m.answerer) c.give.ensures.answerer (subst (λ y. AnswererAdds g.A.Answerer (CallsDue (open_in y)) c.give.new.self.answerer m.answerer) e c.finish_part.ensures.adds) in
    let same : is_given (slot_at m.ledger c.args.slot) ≡ true → SameFrom (Given (given_open (slot_at c.args.self.now.ledger c.args.slot) (parts_of c.args.routes.parts.list))) (slot_at m.ledger c.args.slot) = λ h. subst (λ y. SameFrom y (slot_at m.ledger c.args.slot)) e (c.finish_part.ensures.same h) in
    delivered_turn g.K.Sink g.A.Answerer c.args.slot (slot_at c.args.self.now.ledger c.args.slot) (parts_of c.args.routes.parts.list) c.args.self.now m m (c.finish_part.ensures.sinks ∙ c.give.ensures.sinks) calls same
    (λ h. absurd (true_false _ h (sym c.is_given.ensures ∙ c.if-is_given.false)))
    (λ h. refl)
