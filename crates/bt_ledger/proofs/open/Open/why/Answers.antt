use Rattle.std.proofs.Common.{arith, ap, ◌∙◌, length, ◌<◌}
use Rattle.bt_demand.specs.Reasons.{least, refused_leaves}
use Rattle.bt_demand.specs.Tree.{Tree}
use Rattle.bt_ledger.specs.Open.{Open, tree_of}
use Rattle.bt_ledger.specs.Verdicts.{why_unless}
use Rattle.bt_ledger.proofs.OpenSteps.{tree_here}
use Rattle.bt_ledger.proofs.Seen.{parts_length}
use Rattle.bt_ledger.proofs.open.Open.why.Goals as goal

pub index-requires : goal.index-requires
index-requires c = let l = parts_length c.self.inside.parts.items in let v = ap (λ (v : Open). length v.parts) c.self.view_is in let w = c.in-Some.ensures.within in omega arith

pub returns-in-Some : goal.returns-in-Some
returns-in-Some c =
    let items = c.self.inside.parts.items in
    let within : c.in-Some.part < length items = (let l = parts_length items in let v = ap (λ (v : Open). length v.parts) c.self.view_is in let w = c.in-Some.ensures.within in omega arith) in
    let at = tree_here items c.in-Some.part c.index.result.now within c.index.ensures ∙ ap (λ (v : Open). tree_of v.parts c.in-Some.part) c.self.view_is in
    rw (← c.in-Some.ensures.part) (c.text.ensures ∙ ap (λ (t : Tree). why_unless t (least (refused_leaves t))) at)
