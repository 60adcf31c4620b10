use Rattle.std.proofs.Common.{◌≡◌, ◌≤◌, [], length}
use Rattle.bt_demand.specs.Parts.{parts_of}
use Rattle.bt_ledger.specs.Calls.{Fits}
use Rattle.bt_ledger_cases.proofs.shapes.routes.Given as goal

abbrev pub invariant-loop-part : goal.invariant-loop-part
invariant-loop-part l = record {
  fits : Fits 3 l.items (parts_of l.routes.parts.list);
  len : length l.routes.parts.list ≡ l.part-index;
  none : l.routes.counts.list ≡ [];
  room : l.items ≤ l.routes.counts.spare;
}
