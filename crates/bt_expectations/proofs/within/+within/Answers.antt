use Rattle.std.proofs.Common.{◌≡◌, ◌∙◌, List, map, true, false, ap, sym, arith, rules}
use Rattle.bt_value.specs.declared.val.Val.{Val}
use Rattle.bt_expectations.specs.Within.{is_within, items_within}
use Rattle.bt_expectations.proofs.Places.{next, stop}
use Rattle.bt_expectations.proofs.within.+within.Goals as goal

pub items_within-returns-then-not-is_item_within : goal.items_within-returns-then-not-is_item_within
items_within-returns-then-not-is_item_within t c =
    let fails : c.is_item_within.result ≡ false = search rules in
    stop c.as_slice-item-items.result.now c.args.found.now c.loop-i.i c.item-item.result c.is_item_within.result
    (items_within (map is_within c.as_slice-item-items.result.now) c.args.found.now) c.loop-i-test.true c.item-item.is c.is_item_within.ensures fails c.loop-i.invariant
    ∙ ap (λ (vs : List Val). items_within (map is_within vs) c.args.found.now) c.as_slice-item-items.ensures

pub items_within-loop-i-preserved : goal.items_within-loop-i-preserved
items_within-loop-i-preserved t c =
    let passes : c.is_item_within.result ≡ true = search rules in
    next c.as_slice-item-items.result.now c.args.found.now c.loop-i.i c.item-item.result c.is_item_within.result
    (items_within (map is_within c.as_slice-item-items.result.now) c.args.found.now) c.loop-i-test.true c.item-item.is c.is_item_within.ensures passes c.loop-i.invariant
