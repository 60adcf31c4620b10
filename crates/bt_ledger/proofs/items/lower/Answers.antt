use Rattle.std.proofs.Common.{◌≡◌, ◌-◌, refl, ap, ◌∙◌, get_or, set}
use Rattle.std.proofs.lemmas.List.{map-set}
use Rattle.bt_demand.specs.declared.routes.Count.{Count}
use Rattle.bt_ledger.specs.Counted.{lefts, nexts}
use Rattle.bt_ledger.proofs.CountSeen.{field_at, field_kept, lefts_long}
use Rattle.bt_ledger.proofs.items.lower.Goals as goal

pub returns-clause-lefts : goal.returns-clause-lefts
returns-clause-lefts c =
    let ds = c.link.new.counts.items in
    let within = lefts_long c.args.counts.now.items ds c.args.item c.link.ensures.lefts c.requires.within in
    let at : c.index-count.result.now.left ≡ get_or (lefts ds) c.args.item 0 = field_at (λ (y : Count). y.left) ds c.args.item c.index-count.result.now 0 within c.index-count.ensures in
    map-set (λ (y : Count). y.left) ds c.args.item _ ∙ ap (λ ns. set ns c.args.item (c.index-count.result.now.left - 1)) c.link.ensures.lefts
    ∙ ap (λ n. set (lefts c.args.counts.now.items) c.args.item (n - 1)) (at ∙ ap (λ ns. get_or ns c.args.item 0) c.link.ensures.lefts)

pub returns-clause-losses : goal.returns-clause-losses
returns-clause-losses c = field_kept (λ (y : Count). y.lost) c.link.new.counts.items c.args.item c.index-count.result.now _ c.index-count.ensures refl ∙ c.link.ensures.losses

pub returns-clause-line : goal.returns-clause-line
returns-clause-line c =
    let ds = c.link.new.counts.items in
    let within = lefts_long c.args.counts.now.items ds c.args.item c.link.ensures.lefts c.requires.within in
    let at : c.index-count.result.now.left ≡ get_or (lefts ds) c.args.item 0 = field_at (λ (y : Count). y.left) ds c.args.item c.index-count.result.now 0 within c.index-count.ensures in
    let r : Count = record { left = c.index-count.result.now.left - 1; lost = c.index-count.result.now.lost; next = c.index-count.result.now.next } in
    let os : lefts (set ds c.args.item (record { left = c.index-count.result.now.left - 1; lost = c.index-count.result.now.lost; next = c.index-count.result.now.next })) ≡ set (lefts c.args.counts.now.items) c.args.item (get_or (lefts c.args.counts.now.items) c.args.item 0 - 1) =
    map-set (λ (y : Count). y.left) ds c.args.item r ∙ ap (λ ns. set ns c.args.item (c.index-count.result.now.left - 1)) c.link.ensures.lefts
    ∙ ap (λ n. set (lefts c.args.counts.now.items) c.args.item (n - 1)) (at ∙ ap (λ ns. get_or ns c.args.item 0) c.link.ensures.lefts) in
    let ns : nexts (set ds c.args.item (record { left = c.index-count.result.now.left - 1; lost = c.index-count.result.now.lost; next = c.index-count.result.now.next })) ≡ nexts ds = field_kept (λ (y : Count). y.next) ds c.args.item c.index-count.result.now r c.index-count.ensures refl in
    rw (os, ns) c.link.ensures.line
