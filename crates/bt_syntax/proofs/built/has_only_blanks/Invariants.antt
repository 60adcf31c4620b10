use Rattle.std.proofs.Common.{◌≡◌, drop}
use Rattle.bt_lexer.specs.Spans.{AreSpans}
use Rattle.bt_syntax.specs.Built as spec
use Rattle.bt_syntax.proofs.built.has_only_blanks.Given as goal

abbrev pub invariant-loop-token : goal.invariant-loop-token
invariant-loop-token l = record {
  spans : AreSpans l.text l.at (drop l.token-index l.tokens);
  same : spec.has_only_blanks l.text 0 l.tokens ≡ spec.has_only_blanks l.text l.at (drop l.token-index l.tokens);
}
