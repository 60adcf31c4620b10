use Rattle.std.proofs.Common.{◌≡◌, drop}
use Rattle.std.specs.List.{list_any}
use Rattle.bt_value.specs.Order as operators
use Rattle.bt_lists.proofs.slices.has_element.Given as goal

abbrev pub invariant-loop-item : goal.invariant-loop-item
invariant-loop-item l = list_any (λ x. operators.equals x l.v) l.item-items ≡ list_any (λ x. operators.equals x l.v) (drop l.item-index l.item-items)
