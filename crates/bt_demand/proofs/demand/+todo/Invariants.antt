use Rattle.std.proofs.Common.{◌≡◌, drop, false}
use Rattle.bt_demand.specs.View.{trees}
use Rattle.bt_demand.specs.Next.{todo_of_all, todo_of_first, both, starts}
use Rattle.bt_demand.proofs.demand.+todo.Given as goal

abbrev pub invariant-Demands::todo_of_all-loop-d : goal.invariant-Demands::todo_of_all-loop-d
invariant-Demands::todo_of_all-loop-d l = record {
  rest : both l.sum (todo_of_all (trees (drop l.d-index l.self.list.items))) ≡ todo_of_all (trees l.self.list.items);
  quiet : starts l.sum ≡ false;
}

abbrev pub invariant-Demands::todo_of_first-loop-d : goal.invariant-Demands::todo_of_first-loop-d
invariant-Demands::todo_of_first-loop-d l =
    todo_of_first (trees (drop l.d-index l.self.list.items)) ≡ todo_of_first (trees l.self.list.items)
