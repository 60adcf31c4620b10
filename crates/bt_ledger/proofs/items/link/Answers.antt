use Rattle.std.proofs.Common.{◌≡◌, ◌-◌, ◌<◌, arith, get_or}
use Rattle.std.proofs.lemmas.List.{length-map}
use Rattle.bt_demand.specs.declared.routes.Count.{Count}
use Rattle.bt_ledger.specs.Counted.{lefts, nexts}
use Rattle.bt_ledger.proofs.CountSeen.{field_at}
use Rattle.bt_ledger.proofs.Lines.{front_waits, behind_waits, other_waits}
use Rattle.bt_ledger.proofs.items.link.Goals as goal

pub returns-then-index-gt2-clause-line : goal.returns-then-index-gt2-clause-line
returns-then-index-gt2-clause-line c =
    let cs = c.args.counts.now.items in
    let at : c.index.result.now.left ≡ get_or (lefts cs) c.args.item 0 = field_at (λ (y : Count). y.left) cs c.args.item c.index.result.now 0 c.requires.within c.index.ensures in
    let a = length-map cs (λ (y : Count). y.left) in
    let more : 2 < get_or (lefts cs) c.args.item 0 = (let t = c.if-index-gt2.true in omega arith) in
    other_waits (lefts cs) (nexts cs) c.args.line.now.first c.args.line.now.last c.args.item (get_or (lefts cs) c.args.item 0 - 1) c.requires.line (let r = c.requires.within in omega arith) (λ e. omega arith) (λ e. omega arith)

pub returns-then-item-line-clause-line : goal.returns-then-item-line-clause-line
returns-then-item-line-clause-line c =
    let cs = c.args.counts.now.items in
    let at : c.index.result.now.left ≡ get_or (lefts cs) c.args.item 0 = field_at (λ (y : Count). y.left) cs c.args.item c.index.result.now 0 c.requires.within c.index.ensures in
    let a = length-map cs (λ (y : Count). y.left) in
    let b = length-map cs (λ (y : Count). y.next) in
    let one : get_or (lefts cs) c.args.item 0 - 1 ≡ 1 = (let f = c.if-index-gt2.false in let r = c.requires.ready in omega arith) in
    rw (one, c.push_front.ensures.nexts, c.push_front.ensures.first, c.push_front.ensures.last, ← b)
    (front_waits (lefts cs) (nexts cs) c.args.line.now.first c.args.line.now.last c.args.item c.requires.line c.if-item-line.true (let r = c.requires.within in omega arith) (λ e. omega arith))

pub returns-else-item-line-clause-line : goal.returns-else-item-line-clause-line
returns-else-item-line-clause-line c =
    let cs = c.args.counts.now.items in
    let at : c.index.result.now.left ≡ get_or (lefts cs) c.args.item 0 = field_at (λ (y : Count). y.left) cs c.args.item c.index.result.now 0 c.requires.within c.index.ensures in
    let a = length-map cs (λ (y : Count). y.left) in
    let b = length-map cs (λ (y : Count). y.next) in
    let one : get_or (lefts cs) c.args.item 0 - 1 ≡ 1 = (let f = c.if-index-gt2.false in let r = c.requires.ready in omega arith) in
    rw (one, c.push_behind.ensures.nexts, c.max-line.ensures)
    (behind_waits (lefts cs) (nexts cs) c.args.line.now.first c.args.line.now.last c.before-before.result c.args.item c.requires.line c.before-before.ensures.waits c.before-before.ensures.below c.before-before.ensures.next (let r = c.requires.within in omega arith) (let r = c.requires.within in omega arith) (λ e. omega arith))
