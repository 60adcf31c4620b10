use Rattle.std.proofs.Common.{◌≡◌, ℕ, ◌<◌, length, List, not, ◌&&◌, cond, arith, refl, sym, ap, ◌∙◌}
use Rattle.bt_demand.specs.Holding.{booked_in, every_hold, is_open}
use Rattle.bt_demand.specs.Outcomes.{outcome}
use Rattle.bt_demand.specs.Parts.{Part, parts_of}
use Rattle.bt_demand.specs.Tree.{Tree}
use Rattle.bt_demand.specs.View.{tree}
use Rattle.bt_demand.specs.Outcomes.{lost}
use Rattle.bt_ledger.specs.Counted.{lefts, losses, answered_by, lowered, noted}
use Rattle.bt_ledger.specs.Open.{Open, tree_of, from_of}
use Rattle.bt_steps.specs.Stepped.{stepped}
use Rattle.bt_ledger.proofs.OpenSteps.{tree_here, from_here, parts_step, marked_same, marked_ready, marked_settled, answered_same}
use Rattle.bt_ledger.proofs.Seen.{parts_length}
use Rattle.bt_ledger.proofs.open.Open.step.Goals as goal

pub index_mut-routed-requires : goal.index_mut-routed-requires
index_mut-routed-requires c = let v = ap (λ (v : Open). length v.parts) c.self.view_is in let l = parts_length c.self.inside.parts.items in let r = c.requires.within in omega arith

pub take-change-requires : goal.take-change-requires
take-change-requires c =
    let items = c.self.inside.parts.items in
    let within : c.args.part < length items = (let v = ap (λ (v : Open). length v.parts) c.self.view_is in let l = parts_length items in let r = c.requires.within in omega arith) in
    let at = ap every_hold (tree_here items c.args.part c.index_mut-routed.result.now within c.index_mut-routed.ensures.value) in
    let seen = ap (λ (v : Open). every_hold (tree_of v.parts c.args.part)) c.self.view_is in
    let r = c.requires.few in
    record { few = omega arith }

pub settle_part-requires-clause-ready : goal.settle_part-requires-clause-ready
settle_part-requires-clause-ready c =
    let items = c.self.inside.parts.items in
    let within : c.args.part < length items = (let v = ap (λ (v : Open). length v.parts) c.self.view_is in let l = parts_length items in let r = c.requires.within in omega arith) in
    let here : c.args.part < length (parts_of items) = (let l = parts_length items in omega arith) in
    let at = tree_here items c.args.part c.index_mut-routed.result.now within c.index_mut-routed.ensures.value in
    let settles : c.take-change.result.settles ≡ (is_open (outcome (tree_of (parts_of items) c.args.part)) && not (is_open (outcome (stepped c.args.step (tree_of (parts_of items) c.args.part))))) = c.take-change.ensures.settles ∙ ap (λ (t : Tree). is_open (outcome t) && not (is_open (outcome (stepped c.args.step t)))) at in
    let e = parts_step items c.args.part c.index_mut-routed.result.now c.take-change.new.demand c.args.step within c.index_mut-routed.ensures.value c.take-change.ensures.tree in
    let from : c.index_mut-routed.result.now.from ≡ from_of (parts_of items) c.args.part = from_here items c.args.part c.index_mut-routed.result.now within c.index_mut-routed.ensures.value in
    rw from (marked_ready (parts_of items) c.self.inside.counts.items _ _ _ c.args.part c.args.step c.self.invariant here (sym settles ∙ c.if-change.true))

pub invariant_of-self : goal.invariant_of-self
invariant_of-self c =
    let items = c.self.inside.parts.items in
    let within : c.args.part < length items = (let v = ap (λ (v : Open). length v.parts) c.self.view_is in let l = parts_length items in let r = c.requires.within in omega arith) in
    let here : c.args.part < length (parts_of items) = (let l = parts_length items in omega arith) in
    let at = tree_here items c.args.part c.index_mut-routed.result.now within c.index_mut-routed.ensures.value in
    let settles : c.take-change.result.settles ≡ (is_open (outcome (tree_of (parts_of items) c.args.part)) && not (is_open (outcome (stepped c.args.step (tree_of (parts_of items) c.args.part))))) = c.take-change.ensures.settles ∙ ap (λ (t : Tree). is_open (outcome t) && not (is_open (outcome (stepped c.args.step t)))) at in
    let e = parts_step items c.args.part c.index_mut-routed.result.now c.take-change.new.demand c.args.step within c.index_mut-routed.ensures.value c.take-change.ensures.tree in
    let from : c.index_mut-routed.result.now.from ≡ from_of (parts_of items) c.args.part = from_here items c.args.part c.index_mut-routed.result.now within c.index_mut-routed.ensures.value in
    let tree_is : tree c.take-change.new.demand ≡ stepped c.args.step (tree_of (parts_of items) c.args.part) = c.take-change.ensures.tree ∙ ap (stepped c.args.step) at in
    let lefts_are : lefts c.settle_part.new.counts.items ≡ lowered (from_of (parts_of items) c.args.part) (lefts c.self.inside.counts.items) = c.settle_part.ensures.lefts ∙ ap (λ (xs : List ℕ). lowered xs (lefts c.self.inside.counts.items)) from in
    let losses_are : losses c.settle_part.new.counts.items ≡ cond (lost (stepped c.args.step (tree_of (parts_of items) c.args.part))) (noted c.args.part (from_of (parts_of items) c.args.part) (losses c.self.inside.counts.items)) (losses c.self.inside.counts.items) =
    c.settle_part.ensures.losses ∙ ap (λ (t : Tree). cond (lost t) (noted c.args.part c.index_mut-routed.result.now.from (losses c.self.inside.counts.items)) (losses c.self.inside.counts.items)) tree_is
    ∙ ap (λ (xs : List ℕ). cond (lost (stepped c.args.step (tree_of (parts_of items) c.args.part))) (noted c.args.part xs (losses c.self.inside.counts.items)) (losses c.self.inside.counts.items)) from in
    rw e (marked_settled (parts_of items) c.self.inside.counts.items c.settle_part.new.counts.items _ _ _ _ _ c.args.part c.args.step c.self.invariant here (sym settles ∙ c.if-change.true) lefts_are losses_are c.settle_part.ensures.line)

pub invariant_of-self-else-change : goal.invariant_of-self-else-change
invariant_of-self-else-change c =
    let items = c.self.inside.parts.items in
    let within : c.args.part < length items = (let v = ap (λ (v : Open). length v.parts) c.self.view_is in let l = parts_length items in let r = c.requires.within in omega arith) in
    let here : c.args.part < length (parts_of items) = (let l = parts_length items in omega arith) in
    let at = tree_here items c.args.part c.index_mut-routed.result.now within c.index_mut-routed.ensures.value in
    let settles : c.take-change.result.settles ≡ (is_open (outcome (tree_of (parts_of items) c.args.part)) && not (is_open (outcome (stepped c.args.step (tree_of (parts_of items) c.args.part))))) = c.take-change.ensures.settles ∙ ap (λ (t : Tree). is_open (outcome t) && not (is_open (outcome (stepped c.args.step t)))) at in
    let e = parts_step items c.args.part c.index_mut-routed.result.now c.take-change.new.demand c.args.step within c.index_mut-routed.ensures.value c.take-change.ensures.tree in
    rw e (marked_same (parts_of items) c.self.inside.counts.items _ _ _ c.args.part c.args.step c.self.invariant here (sym settles ∙ c.if-change.false))

pub returns-then-change-clause-open : goal.returns-then-change-clause-open
returns-then-change-clause-open c =
    let items = c.self.inside.parts.items in
    let within : c.args.part < length items = (let v = ap (λ (v : Open). length v.parts) c.self.view_is in let l = parts_length items in let r = c.requires.within in omega arith) in
    let here : c.args.part < length (parts_of items) = (let l = parts_length items in omega arith) in
    let at = tree_here items c.args.part c.index_mut-routed.result.now within c.index_mut-routed.ensures.value in
    let settles : c.take-change.result.settles ≡ (is_open (outcome (tree_of (parts_of items) c.args.part)) && not (is_open (outcome (stepped c.args.step (tree_of (parts_of items) c.args.part))))) = c.take-change.ensures.settles ∙ ap (λ (t : Tree). is_open (outcome t) && not (is_open (outcome (stepped c.args.step t)))) at in
    let e = parts_step items c.args.part c.index_mut-routed.result.now c.take-change.new.demand c.args.step within c.index_mut-routed.ensures.value c.take-change.ensures.tree in
    let from : c.index_mut-routed.result.now.from ≡ from_of (parts_of items) c.args.part = from_here items c.args.part c.index_mut-routed.result.now within c.index_mut-routed.ensures.value in
    let lefts_are : lefts c.settle_part.new.counts.items ≡ lowered (from_of (parts_of items) c.args.part) (lefts c.self.inside.counts.items) = c.settle_part.ensures.lefts ∙ ap (λ (xs : List ℕ). lowered xs (lefts c.self.inside.counts.items)) from in
    let answered : answered_by c.settle_part.new.counts.items ≡ answered_by c.self.inside.counts.items = answered_same (parts_of items) c.self.inside.counts.items c.settle_part.new.counts.items _ _ _ c.args.part c.args.step c.self.invariant here (sym settles ∙ c.if-change.true) lefts_are in
    rw (← c.self.view_is) (rw (e, answered) refl)

pub returns-then-change-clause-before : goal.returns-then-change-clause-before
returns-then-change-clause-before c =
    let items = c.self.inside.parts.items in
    let within : c.args.part < length items = (let v = ap (λ (v : Open). length v.parts) c.self.view_is in let l = parts_length items in let r = c.requires.within in omega arith) in
    let here : c.args.part < length (parts_of items) = (let l = parts_length items in omega arith) in
    let at = tree_here items c.args.part c.index_mut-routed.result.now within c.index_mut-routed.ensures.value in
    let settles : c.take-change.result.settles ≡ (is_open (outcome (tree_of (parts_of items) c.args.part)) && not (is_open (outcome (stepped c.args.step (tree_of (parts_of items) c.args.part))))) = c.take-change.ensures.settles ∙ ap (λ (t : Tree). is_open (outcome t) && not (is_open (outcome (stepped c.args.step t)))) at in
    let e = parts_step items c.args.part c.index_mut-routed.result.now c.take-change.new.demand c.args.step within c.index_mut-routed.ensures.value c.take-change.ensures.tree in
    let seen = ap (λ (v : Open). tree_of v.parts c.args.part) c.self.view_is in
    c.take-change.ensures.before ∙ ap booked_in at ∙ ap booked_in seen

pub returns-then-change-clause-after : goal.returns-then-change-clause-after
returns-then-change-clause-after c =
    let items = c.self.inside.parts.items in
    let within : c.args.part < length items = (let v = ap (λ (v : Open). length v.parts) c.self.view_is in let l = parts_length items in let r = c.requires.within in omega arith) in
    let here : c.args.part < length (parts_of items) = (let l = parts_length items in omega arith) in
    let at = tree_here items c.args.part c.index_mut-routed.result.now within c.index_mut-routed.ensures.value in
    let settles : c.take-change.result.settles ≡ (is_open (outcome (tree_of (parts_of items) c.args.part)) && not (is_open (outcome (stepped c.args.step (tree_of (parts_of items) c.args.part))))) = c.take-change.ensures.settles ∙ ap (λ (t : Tree). is_open (outcome t) && not (is_open (outcome (stepped c.args.step t)))) at in
    let e = parts_step items c.args.part c.index_mut-routed.result.now c.take-change.new.demand c.args.step within c.index_mut-routed.ensures.value c.take-change.ensures.tree in
    let seen = ap (λ (v : Open). tree_of v.parts c.args.part) c.self.view_is in
    c.take-change.ensures.after ∙ ap (λ t. booked_in (stepped c.args.step t)) at ∙ ap (λ t. booked_in (stepped c.args.step t)) seen

pub returns-else-change-clause-open : goal.returns-else-change-clause-open
returns-else-change-clause-open c =
    let items = c.self.inside.parts.items in
    let within : c.args.part < length items = (let v = ap (λ (v : Open). length v.parts) c.self.view_is in let l = parts_length items in let r = c.requires.within in omega arith) in
    let here : c.args.part < length (parts_of items) = (let l = parts_length items in omega arith) in
    let at = tree_here items c.args.part c.index_mut-routed.result.now within c.index_mut-routed.ensures.value in
    let settles : c.take-change.result.settles ≡ (is_open (outcome (tree_of (parts_of items) c.args.part)) && not (is_open (outcome (stepped c.args.step (tree_of (parts_of items) c.args.part))))) = c.take-change.ensures.settles ∙ ap (λ (t : Tree). is_open (outcome t) && not (is_open (outcome (stepped c.args.step t)))) at in
    let e = parts_step items c.args.part c.index_mut-routed.result.now c.take-change.new.demand c.args.step within c.index_mut-routed.ensures.value c.take-change.ensures.tree in
    rw (← c.self.view_is) (ap (λ (ps : List Part). record { number = c.self.inside.number; moment = c.self.inside.moment; parts = ps; answered = answered_by c.self.inside.counts.items }) e)

pub returns-else-change-clause-before : goal.returns-else-change-clause-before
returns-else-change-clause-before c =
    let items = c.self.inside.parts.items in
    let within : c.args.part < length items = (let v = ap (λ (v : Open). length v.parts) c.self.view_is in let l = parts_length items in let r = c.requires.within in omega arith) in
    let here : c.args.part < length (parts_of items) = (let l = parts_length items in omega arith) in
    let at = tree_here items c.args.part c.index_mut-routed.result.now within c.index_mut-routed.ensures.value in
    let settles : c.take-change.result.settles ≡ (is_open (outcome (tree_of (parts_of items) c.args.part)) && not (is_open (outcome (stepped c.args.step (tree_of (parts_of items) c.args.part))))) = c.take-change.ensures.settles ∙ ap (λ (t : Tree). is_open (outcome t) && not (is_open (outcome (stepped c.args.step t)))) at in
    let e = parts_step items c.args.part c.index_mut-routed.result.now c.take-change.new.demand c.args.step within c.index_mut-routed.ensures.value c.take-change.ensures.tree in
    let seen = ap (λ (v : Open). tree_of v.parts c.args.part) c.self.view_is in
    c.take-change.ensures.before ∙ ap booked_in at ∙ ap booked_in seen

pub returns-else-change-clause-after : goal.returns-else-change-clause-after
returns-else-change-clause-after c =
    let items = c.self.inside.parts.items in
    let within : c.args.part < length items = (let v = ap (λ (v : Open). length v.parts) c.self.view_is in let l = parts_length items in let r = c.requires.within in omega arith) in
    let here : c.args.part < length (parts_of items) = (let l = parts_length items in omega arith) in
    let at = tree_here items c.args.part c.index_mut-routed.result.now within c.index_mut-routed.ensures.value in
    let settles : c.take-change.result.settles ≡ (is_open (outcome (tree_of (parts_of items) c.args.part)) && not (is_open (outcome (stepped c.args.step (tree_of (parts_of items) c.args.part))))) = c.take-change.ensures.settles ∙ ap (λ (t : Tree). is_open (outcome t) && not (is_open (outcome (stepped c.args.step t)))) at in
    let e = parts_step items c.args.part c.index_mut-routed.result.now c.take-change.new.demand c.args.step within c.index_mut-routed.ensures.value c.take-change.ensures.tree in
    let seen = ap (λ (v : Open). tree_of v.parts c.args.part) c.self.view_is in
    c.take-change.ensures.after ∙ ap (λ t. booked_in (stepped c.args.step t)) at ∙ ap (λ t. booked_in (stepped c.args.step t)) seen
