use Rattle.std.proofs.Common.{◌≡◌, map, take}
use Rattle.bt_text_lints.specs.Verdicts.{printed_lint}
use Rattle.bt_text_lints.proofs.judged.printed_lints.Given as goal

abbrev pub invariant-loop-lint : goal.invariant-loop-lint
invariant-loop-lint l = l.lints ≡ map (printed_lint l.text) (take l.lint-index l.found)
