use Rattle.std.proofs.Common.{◌≡◌, arith, ap, sym, ◌∙◌, length, ◌<◌, ◌≤◌, get_or, eqb, true, Some}
use Rattle.bt_demand.specs.declared.routes.Count.{Count}
use Rattle.bt_ledger.specs.Counted.{lefts}
use Rattle.bt_ledger.proofs.CountSeen.{field_at, lefts_length, counts_inside}
use Rattle.bt_demand.specs.Reasons.{least, refused_leaves}
use Rattle.bt_demand.specs.Tree.{Tree}
use Rattle.bt_ledger.specs.Due.{open_parts}
use Rattle.bt_ledger.specs.Open.{Open, tree_of}
use Rattle.bt_ledger.specs.Verdicts.{refusal}
use Rattle.bt_ledger.proofs.Answering.{settled_count}
use Rattle.bt_ledger.proofs.OpenSteps.{tree_here}
use Rattle.bt_ledger.proofs.Seen.{parts_length}
use Rattle.bt_ledger.proofs.open.Open.verdict_of.Goals as goal

pub index-requires-in-Some : goal.index-requires-in-Some
index-requires-in-Some c = let l = parts_length c.self.inside.parts.items in let v = ap (λ (v : Open). length v.parts) c.self.view_is in let w = c.in-Some.ensures.within in omega arith

pub returns-in-Some : goal.returns-in-Some
returns-in-Some c =
    let items = c.self.inside.parts.items in
    let within : c.in-Some.part < length items = (let l = parts_length items in let v = ap (λ (v : Open). length v.parts) c.self.view_is in let w = c.in-Some.ensures.within in omega arith) in
    let inside : c.args.item < length c.self.inside.counts.items = counts_inside c.self.inside.counts.items c.args.item (let v = ap (λ (v : Open). length v.answered) c.self.view_is in let r = c.requires in omega arith) in
    let left : c.index.result.now.left ≡ get_or (lefts c.self.inside.counts.items) c.args.item 0 = field_at (λ (y : Count). y.left) c.self.inside.counts.items c.args.item c.index.result.now 0 inside c.index.ensures in
    let long = lefts_length c.self.inside.counts.items in
    let count : get_or (lefts c.self.inside.counts.items) c.args.item 0 ≤ 1 = (let f = c.if-index-gt1.false in omega arith) in
    let z : eqb (open_parts c.args.item c.args.self.now.parts) 0 ≡ true = ap (λ (v : Open). eqb (open_parts c.args.item v.parts) 0) (sym c.self.view_is) ∙ settled_count _ c.self.inside.counts.items _ _ _ c.args.item c.self.invariant (omega arith) count in
    let at = tree_here items c.in-Some.part c.index-in-Some.result.now within c.index-in-Some.ensures ∙ ap (λ (v : Open). tree_of v.parts c.in-Some.part) c.self.view_is in
    let a = c.cause.ensures ∙ ap (λ (t : Tree). refusal c.in-Some.part (least (refused_leaves t))) at in
    rw (z, ← c.in-Some.ensures.part) (ap Some a)
