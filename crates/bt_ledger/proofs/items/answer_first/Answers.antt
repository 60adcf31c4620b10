use Rattle.std.proofs.Common.{arith, refl, ◌≡◌, get_or, set}
use Rattle.std.proofs.lemmas.List.{map-set, length-map}
use Rattle.bt_demand.specs.declared.routes.Count.{Count}
use Rattle.bt_ledger.specs.Counted.{lefts, nexts}
use Rattle.bt_ledger.proofs.CountSeen.{field_kept, field_at}
use Rattle.bt_ledger.proofs.Lines.{leave_waits}
use Rattle.bt_ledger.proofs.items.answer_first.Goals as goal

pub returns-clause-lefts : goal.returns-clause-lefts
returns-clause-lefts c = map-set (λ (x : Count). x.left) c.args.counts.now.items c.args.line.now.first _

pub returns-clause-losses : goal.returns-clause-losses
returns-clause-losses c = field_kept (λ (x : Count). x.lost) c.args.counts.now.items c.args.line.now.first c.index-count.result.now _ c.index-count.ensures refl

pub returns-clause-line : goal.returns-clause-line
returns-clause-line c =
    let cs = c.args.counts.now.items in
    let f = c.args.line.now.first in
    let ns : nexts (set cs f (record { left = 0; lost = c.index-count.result.now.lost; next = c.index-count.result.now.next })) ≡ nexts cs = field_kept (λ (x : Count). x.next) cs f c.index-count.result.now _ c.index-count.ensures refl in
    let os = map-set (λ (x : Count). x.left) cs f (record { left = 0; lost = c.index-count.result.now.lost; next = c.index-count.result.now.next }) in
    let at : c.index-count.result.now.next ≡ get_or (nexts cs) f 0 = field_at (λ (x : Count). x.next) cs f c.index-count.result.now 0 c.requires.found c.index-count.ensures in
    let a = length-map cs (λ (x : Count). x.left) in let b = length-map cs (λ (x : Count). x.next) in
    rw (os, ns, at) (leave_waits (lefts cs) (nexts cs) f c.args.line.now.last c.requires.line (let r = c.requires.found in omega arith) (let r = c.requires.found in omega arith))
