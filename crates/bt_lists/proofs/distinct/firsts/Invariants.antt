use Rattle.std.proofs.Common.{◌≡◌, ◌++◌, [], take, drop}
use Rattle.std.specs.List.{list_any}
use Rattle.std.specs.Ordering.{on}
use Rattle.std.specs.BTreeSet.{contains}
use Rattle.bt_value.specs.Order.{compare}
use Rattle.bt_lists.specs.Distinct as spec
use Rattle.bt_lists.specs.declared.distinct.Ranked.{Ranked}
use Rattle.bt_lists.proofs.distinct.firsts.Given as goal

abbrev pub invariant-loop-item : goal.invariant-loop-item
invariant-loop-item l = record {
  seen : (q : Ranked) → contains (on (λ r. r.value.now) compare) l.seen q ≡ list_any (λ y. spec.are_equal y q.value.now) (take l.item-index l.items);
  so_far : spec.firsts_behind [] l.items ≡ l.marks.items ++ spec.firsts_behind (take l.item-index l.items) (drop l.item-index l.items);
}
