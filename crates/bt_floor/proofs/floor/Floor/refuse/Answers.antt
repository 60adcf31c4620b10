use Rattle.std.proofs.Common.{◌≡◌, ℕ, ◌+◌, ◌<◌, ◌≤◌, arith, sym, ap, ◌∙◌, subst, length}
use Rattle.bt_ledger.specs.Calls.{IsOut}
use Rattle.bt_ledger.specs.Ledger.{Ledger, slot_at, number_in, items_in}
use Rattle.bt_sound.specs.Answers.{RefusedAll}
use Rattle.bt_ports.specs.Faults.{last_count}
use Rattle.bt_sound.specs.Counting.{capped}
use Rattle.bt_sound.specs.View.{FloorView, Outside}
use Rattle.bt_sound.specs.declared.counts.Counts.{Counts}
use Rattle.bt_sound.specs.Turns.{AnswererAdds, Refusals}
use Rattle.bt_sound.proofs.Refusing.{refusals_counted, sound_refuse}
use Rattle.bt_sound.proofs.Turns.{refused_adds}
use Rattle.bt_floor.proofs.floor.Floor.refuse.Goals as goal

pub invariant_of-self : goal.invariant_of-self
invariant_of-self g c =
    let l = ap (λ (v : FloorView _ _ _ _ _). v.ledger) c.self.view_is in
    let within : c.args.slot < length c.self.inside.ledger.slots = subst (λ (k : Ledger). c.args.slot < length k.slots) (sym l) c.requires.within in
    let out : IsOut (slot_at c.self.inside.ledger c.args.slot) = subst (λ k. IsOut (slot_at k c.args.slot)) (sym l) c.requires.out in
    let items : c.args.items ≡ items_in (slot_at c.self.inside.ledger c.args.slot) = c.requires.items ∙ ap (λ k. items_in (slot_at k c.args.slot)) (sym l) in
    let r = subst (λ i. RefusedAll g.A.Answerer c.self.inside.answerer c.refuse_items.new.answerer c.self.inside.counts c.refuse_items.new.counts (number_in (slot_at c.self.inside.ledger c.args.slot)) i c.refuse_items.ensures.refuses.0) items
    (subst (λ n. RefusedAll g.A.Answerer c.self.inside.answerer c.refuse_items.new.answerer c.self.inside.counts c.refuse_items.new.counts n c.args.items c.refuse_items.ensures.refuses.0) c.number-number.ensures c.refuse_items.ensures.refuses.1) in
    rw c.abandon.ensures (_, sound_refuse _ _ _ _ _ _ c.self.invariant.0 c.args.slot c.refuse_items.new.answerer c.refuse_items.new.counts c.refuse_items.ensures.refuses.0 c.self.invariant.1 within out r)

pub returns-clause-refused : goal.returns-clause-refused
returns-clause-refused g c =
    let v = ap (λ (v : FloorView _ _ _ _ _). v.outside) c.self.view_is in
    let r = c.refuse_items.ensures.refuses.1 in
    let small : c.self.inside.counts.refused_memory ≤ last_count = (let b = c.refuse_items.ensures.small in omega arith) in
    let m = ap (λ (x : Counts). x.refused_memory) r.counted ∙ (refusals_counted c.refuse_items.ensures.refuses.0 _ 0 c.self.inside.counts small r.each ∙ ap (λ (j : ℕ). capped (c.self.inside.counts.refused_memory + j)) r.many) in
    ap (λ (k : ℕ). record { plan = c.self.inside.plan.value; intake = c.self.inside.intake; clock = c.self.inside.clock; taken = c.self.inside.taken; ending = c.self.inside.ending; refused_memory = k }) m ∙ ap (λ (o : Outside _ _ _). record o { refused_memory = capped (o.refused_memory + c.args.items) }) v

pub returns-clause-turn : goal.returns-clause-turn
returns-clause-turn g c =
    let r = subst (λ n. RefusedAll g.A.Answerer c.self.inside.answerer c.refuse_items.new.answerer c.self.inside.counts c.refuse_items.new.counts n c.args.items c.refuse_items.ensures.refuses.0) c.number-number.ensures c.refuse_items.ensures.refuses.1 in
    record {
      sinks = ap (λ (v : FloorView _ _ _ _ _). v.sinks) c.self.view_is;
      answers = subst (λ (v : FloorView _ _ _ _ _). AnswererAdds g.A.Answerer (Refusals (number_in (slot_at v.ledger c.args.slot)) c.args.items) v.answerer c.refuse_items.new.answerer) c.self.view_is
          (refused_adds g.A.Answerer (number_in (slot_at c.self.inside.ledger c.args.slot)) c.args.items c.self.inside.answerer c.refuse_items.new.answerer c.self.inside.counts c.refuse_items.new.counts c.refuse_items.ensures.refuses.0 r);
    }
