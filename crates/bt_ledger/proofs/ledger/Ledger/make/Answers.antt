use Rattle.std.proofs.Common.{◌≡◌, ◌<◌, ◌^◌, arith, sym, ap, ◌∙◌, List, length, replicate}
use Rattle.bt_demand.specs.declared.routes.HoldPolicy.{HoldPolicy}
use Rattle.bt_ledger.specs.Kept.{empty_ledger, no_tally}
use Rattle.bt_ledger.specs.Pooled.{ledger_of}
use Rattle.bt_ledger.specs.declared.slot.Slot.{Slot}
use Rattle.bt_ledger.proofs.Making.{empty_is, kept_empty, places_free}
use Rattle.bt_ledger.proofs.ledger.Ledger.make.Goals as goal

pub invariant_of-result : goal.invariant_of-result
invariant_of-result c =
    let s = c.in-Ok.ensures.slots in
    let p = c.in-Ok.ensures.policies in
    let len : length c.args.pool.chains ≡ length c.in-Ok.room.policies.items = c.requires.chains ∙ ap (λ (x : List HoldPolicy). length x) (sym p) in
    let e : ledger_of c.in-Ok.room.slots.items c.in-Ok.room.policies.items c.args.pool ≡ empty_ledger c.args.window c.in-Ok.room.policies.items (length c.args.pool.entries) = ap (λ (x : List Slot). ledger_of x c.in-Ok.room.policies.items c.args.pool) s ∙ empty_is c.args.window c.in-Ok.room.policies.items c.args.pool c.requires.empty len in
    let t = c.in-Ok.ensures.tallies ∙ ap (λ (x : List HoldPolicy). replicate (length x) no_tally) (sym p) in
    let few : length c.args.pool.entries < 2 ^ 32 = (let a = places_free c.args.pool c.free-places.ensures.sound c.requires.empty in let b = c.free-places.ensures.value in omega (arith, c.free-places.type_inv)) in
    rw (e, c.in-Ok.ensures.vacant, t) (kept_empty c.args.window (length c.args.pool.entries) c.in-Ok.room.policies.items _ c.in-Ok.ensures.room (omega (arith, c.ranges.window)) few)

pub returns-in-Ok-clause-ok : goal.returns-in-Ok-clause-ok
returns-in-Ok-clause-ok c =
    let s = c.in-Ok.ensures.slots in
    let p = c.in-Ok.ensures.policies in
    let len : length c.args.pool.chains ≡ length c.in-Ok.room.policies.items = c.requires.chains ∙ ap (λ (x : List HoldPolicy). length x) (sym p) in
    let e : ledger_of c.in-Ok.room.slots.items c.in-Ok.room.policies.items c.args.pool ≡ empty_ledger c.args.window c.in-Ok.room.policies.items (length c.args.pool.entries) = ap (λ (x : List Slot). ledger_of x c.in-Ok.room.policies.items c.args.pool) s ∙ empty_is c.args.window c.in-Ok.room.policies.items c.args.pool c.requires.empty len in
    e ∙ ap (λ (x : List HoldPolicy). empty_ledger c.args.window x (length c.args.pool.entries)) p
