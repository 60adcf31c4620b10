use Rattle.std.proofs.Common.{refl}
use Rattle.std.proofs.lemmas.List.{map-set}
use Rattle.bt_demand.specs.declared.routes.Count.{Count}
use Rattle.bt_ledger.proofs.CountSeen.{field_kept}
use Rattle.bt_ledger.proofs.items.push_front.Goals as goal

pub returns-clause-lefts : goal.returns-clause-lefts
returns-clause-lefts c = field_kept (λ (x : Count). x.left) c.args.counts.now.items c.args.item c.index-count.result.now _ c.index-count.ensures refl

pub returns-clause-losses : goal.returns-clause-losses
returns-clause-losses c = field_kept (λ (x : Count). x.lost) c.args.counts.now.items c.args.item c.index-count.result.now _ c.index-count.ensures refl

pub returns-clause-nexts : goal.returns-clause-nexts
returns-clause-nexts c = map-set (λ (x : Count). x.next) c.args.counts.now.items c.args.item _
