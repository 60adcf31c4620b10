use Rattle.std.proofs.Common.{◌≡◌, ◌++◌, drop, map}
use Rattle.bt_schema.specs.declared.lints.LintKind.TheVariants as kind
use Rattle.bt_config.specs.Violations.{lint_at}
use Rattle.bt_config.proofs.lints.push_faults.Given as goal

abbrev pub invariant-loop-text : goal.invariant-loop-text
invariant-loop-text l = l.lints ++ map (lint_at l.at) (map kind.Fault (drop l.text-index l.texts)) ≡ l.initial.lints ++ map (lint_at l.at) (map kind.Fault l.texts)
