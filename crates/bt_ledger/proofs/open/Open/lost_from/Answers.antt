use Rattle.std.proofs.Common.{◌≡◌, ◌<◌, arith, length, ap, ◌∙◌, None}
use Rattle.bt_demand.specs.declared.routes.Count.{Count}
use Rattle.bt_ledger.specs.Open.{Open}
use Rattle.bt_ledger.specs.Verdicts.{lost_from}
use Rattle.bt_ledger.proofs.CountSeen.{field_at, counts_inside}
use Rattle.bt_ledger.proofs.Losses.{lost_inside}
use Rattle.bt_ledger.proofs.open.Open.lost_from.Goals as goal

pub returns-clause-part : goal.returns-clause-part
returns-clause-part c =
    let cs = c.self.inside.counts.items in
    let inside : c.args.item < length cs = counts_inside cs c.args.item (let v = ap (λ (v : Open). length v.answered) c.self.view_is in let r = c.requires in omega arith) in
    field_at (λ (y : Count). y.lost) cs c.args.item c.index.result.now None inside c.index.ensures ∙ c.self.invariant.lost c.args.item inside ∙ ap (λ (v : Open). lost_from c.args.item 0 v.parts) c.self.view_is

pub returns-clause-within : goal.returns-clause-within
returns-clause-within c =
    let cs = c.self.inside.counts.items in
    let inside : c.args.item < length cs = counts_inside cs c.args.item (let v = ap (λ (v : Open). length v.answered) c.self.view_is in let r = c.requires in omega arith) in
    let e : c.index.result.now.lost ≡ lost_from c.args.item 0 c.args.self.now.parts = field_at (λ (y : Count). y.lost) cs c.args.item c.index.result.now None inside c.index.ensures ∙ c.self.invariant.lost c.args.item inside ∙ ap (λ (v : Open). lost_from c.args.item 0 v.parts) c.self.view_is in
    lost_inside c.args.item c.args.self.now.parts c.index.result.now.lost e
