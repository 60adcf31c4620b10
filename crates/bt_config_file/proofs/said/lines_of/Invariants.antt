use Rattle.std.proofs.Common.{◌≡◌, map, take}
use Rattle.bt_schema.specs.Lines.{line}
use Rattle.bt_config_file.proofs.said.lines_of.Given as goal

abbrev pub invariant-loop-lint : goal.invariant-loop-lint
invariant-loop-lint l = l.lines ≡ map line (take l.lint-index l.lints)
