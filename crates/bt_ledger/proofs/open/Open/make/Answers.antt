use Rattle.std.proofs.Common.{◌≡◌, ℕ, ◌<◌, ◌^◌, arith, refl, ap, ◌∙◌, List, map, eqb, length, get_or, replicate, false, Option, None}
use Rattle.bt_demand.specs.Parts.{Part, parts_of}
use Rattle.bt_demand.specs.declared.routes.Count.{Count}
use Rattle.bt_ledger.specs.Counted.{lefts, losses, counted_of, answered_by}
use Rattle.bt_ledger.specs.Verdicts.{lost_from}
use Rattle.bt_ledger.proofs.CountSeen.{fresh_lefts, fresh_losses}
use Rattle.bt_ledger.proofs.Raising.{marked_new, answered_none, units, ones_small}
use Rattle.bt_ledger.proofs.Seen.{parts_length}
use Rattle.bt_ledger.proofs.open.Open.make.Goals as goal

pub count_parts-requires-clause-small : goal.count_parts-requires-clause-small
count_parts-requires-clause-small c = λ i.
    let e : lefts c.fill.new.counts.items ≡ units c.args.items = ap lefts c.fill.ensures ∙ fresh_lefts c.args.items in
    let a = ap (λ (ns : List ℕ). get_or ns i 0) e in let b = ones_small c.args.items i in omega arith

pub count_parts-requires-clause-none : goal.count_parts-requires-clause-none
count_parts-requires-clause-none c = λ i. ap (λ (cs : List Count). get_or (losses cs) i None) c.fill.ensures ∙ fresh_losses c.args.items i

pub invariant_of-result : goal.invariant_of-result
invariant_of-result c =
    let ps = ap parts_of c.into_vec-parts.ensures.items in
    let counts : lefts c.line_up-line.new.counts.items ≡ counted_of (parts_of c.args.routes.parts.list) (units c.args.items) =
    c.line_up-line.ensures.lefts ∙ c.count_parts.ensures.lefts ∙ ap (λ (cs : List Count). counted_of (parts_of c.into_vec-parts.result.items) (lefts cs)) c.fill.ensures ∙ ap (counted_of (parts_of c.into_vec-parts.result.items)) (fresh_lefts c.args.items) ∙ ap (λ (qs : List Part). counted_of qs (units c.args.items)) ps in
    let few : length (parts_of c.args.routes.parts.list) < 2 ^ 32 = (let a = parts_length c.args.routes.parts.list in let b = c.requires.few in omega arith) in
    rw ps (marked_new (parts_of c.args.routes.parts.list) c.line_up-line.new.counts.items c.args.items _ _ c.requires.below c.requires.some few counts
    (λ i. ap (λ (ls : List (Option ℕ)). get_or ls i None) c.line_up-line.ensures.losses ∙ c.count_parts.ensures.lost i ∙ ap (lost_from i 0) ps) c.line_up-line.ensures.line)

pub returns : goal.returns
returns c =
    let ps = ap parts_of c.into_vec-parts.ensures.items in
    let counts : lefts c.line_up-line.new.counts.items ≡ counted_of (parts_of c.args.routes.parts.list) (units c.args.items) =
    c.line_up-line.ensures.lefts ∙ c.count_parts.ensures.lefts ∙ ap (λ (cs : List Count). counted_of (parts_of c.into_vec-parts.result.items) (lefts cs)) c.fill.ensures ∙ ap (counted_of (parts_of c.into_vec-parts.result.items)) (fresh_lefts c.args.items) ∙ ap (λ (qs : List Part). counted_of qs (units c.args.items)) ps in
    let a : answered_by c.line_up-line.new.counts.items ≡ replicate c.args.items false = ap (map (λ n. eqb n 0)) counts ∙ answered_none (parts_of c.args.routes.parts.list) c.args.items c.requires.below in
    rw (ps, a) refl
