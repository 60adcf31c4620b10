use Rattle.std.proofs.Common.{◌≡◌, map, take}
use Rattle.bt_lint.specs.Report.{lint_print}
use Rattle.bt_lint.proofs.report.lint_lines.Given as goal

abbrev pub invariant-loop-lint : goal.invariant-loop-lint
invariant-loop-lint l = l.lines ≡ map lint_print (take l.lint-index l.lints)
