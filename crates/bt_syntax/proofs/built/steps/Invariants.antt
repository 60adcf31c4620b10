use Rattle.std.proofs.Common.{◌≡◌, length}
use Rattle.std.specs.List.{AllByRecursion}
use Rattle.bt_lexer.specs.Spans.{IsSpan}
use Rattle.bt_syntax.specs.BuiltTokens.{steps_of}
use Rattle.bt_syntax.proofs.BuiltLemmas.{behind}
use Rattle.bt_syntax.proofs.built.steps.Given as goal

abbrev pub decreases-loop-rest : goal.decreases-loop-rest
decreases-loop-rest l = length l.rest

abbrev pub invariant-loop-rest : goal.invariant-loop-rest
invariant-loop-rest l = record {
  spans : AllByRecursion (IsSpan l.text) l.rest;
  same : steps_of l.text l.fn.tokens ≡ behind l.steps (steps_of l.text l.rest);
}
