use Rattle.std.proofs.Common.{refl, ap, ◌∙◌, ◌≡◌, ℕ, get_or, set, List}
use Rattle.std.proofs.lemmas.List.{map-set}
use Rattle.bt_demand.specs.declared.routes.Count.{Count}
use Rattle.bt_ledger.specs.Counted.{nexts}
use Rattle.bt_ledger.proofs.CountSeen.{field_kept, field_at}
use Rattle.bt_ledger.proofs.items.push_behind.Goals as goal

pub returns-clause-lefts : goal.returns-clause-lefts
returns-clause-lefts c =
    field_kept (λ (x : Count). x.left) _ c.args.before _ _ c.index-count-2.ensures refl
    ∙ field_kept (λ (x : Count). x.left) c.args.counts.now.items c.args.item c.index-count.result.now _ c.index-count.ensures refl

pub returns-clause-losses : goal.returns-clause-losses
returns-clause-losses c =
    field_kept (λ (x : Count). x.lost) _ c.args.before _ _ c.index-count-2.ensures refl
    ∙ field_kept (λ (x : Count). x.lost) c.args.counts.now.items c.args.item c.index-count.result.now _ c.index-count.ensures refl

pub returns-clause-nexts : goal.returns-clause-nexts
returns-clause-nexts c =
    let cs = c.args.counts.now.items in
    let at : c.index.result.now.next ≡ get_or (nexts cs) c.args.before 0 = field_at (λ (x : Count). x.next) cs c.args.before c.index.result.now 0 c.requires.before c.index.ensures in
    map-set (λ (x : Count). x.next) _ c.args.before _
    ∙ ap (λ (ns : List ℕ). set ns c.args.before c.args.item) (map-set (λ (x : Count). x.next) cs c.args.item _ ∙ ap (set (nexts cs) c.args.item) at)
