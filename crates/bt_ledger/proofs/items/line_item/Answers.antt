use Rattle.std.proofs.Common.{arith, sym, ◌∙◌, ◌≡◌, get_or}
use Rattle.std.proofs.lemmas.List.{length-map}
use Rattle.bt_demand.specs.declared.routes.Count.{Count}
use Rattle.bt_ledger.specs.Counted.{lefts, nexts}
use Rattle.bt_ledger.proofs.CountSeen.{field_at}
use Rattle.bt_ledger.proofs.Lines.{from_more, from_same}
use Rattle.bt_ledger.proofs.items.line_item.Goals as goal

pub returns-then-index-eq1-clause-line : goal.returns-then-index-eq1-clause-line
returns-then-index-eq1-clause-line c =
    let cs = c.args.counts.now.items in
    let at : c.index.result.now.left ≡ get_or (lefts cs) c.args.item 0 = field_at (λ (x : Count). x.left) cs c.args.item c.index.result.now 0 c.requires.within c.index.ensures in
    let len = length-map cs (λ (x : Count). x.next) in
    rw (c.push_front.ensures.lefts, c.push_front.ensures.nexts, c.push_front.ensures.first, c.push_front.ensures.last, ← len)
    (from_more (lefts cs) (nexts cs) c.args.line.now.first c.args.line.now.last c.args.item c.requires.line (let r = c.requires.within in omega arith) (sym at ∙ c.if-index-eq1.true))

pub returns-else-index-eq1-clause-line : goal.returns-else-index-eq1-clause-line
returns-else-index-eq1-clause-line c =
    let cs = c.args.counts.now.items in
    let at : c.index.result.now.left ≡ get_or (lefts cs) c.args.item 0 = field_at (λ (x : Count). x.left) cs c.args.item c.index.result.now 0 c.requires.within c.index.ensures in
    from_same (lefts cs) (nexts cs) c.args.line.now.first c.args.line.now.last c.args.item c.requires.line (λ e. c.if-index-eq1.false (at ∙ e))
