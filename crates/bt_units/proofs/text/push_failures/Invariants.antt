use Rattle.std.proofs.Common.{◌≡◌, ◌++◌, drop, map}
use Rattle.bt_units.specs.Text.{failure_line}
use Rattle.bt_units.proofs.text.push_failures.Given as goal

abbrev pub invariant-loop-failure : goal.invariant-loop-failure
invariant-loop-failure l =
    l.lines ++ map failure_line (drop l.failure-index l.failures) ≡ l.initial.lines ++ map failure_line l.failures
