use Rattle.std.proofs.Common.{◌≡◌, ◌≤◌, take}
use Rattle.bt_lexer.specs.Tokens.{int_value}
use Rattle.bt_lexer.proofs.words.is_too_large.Given as goal

abbrev pub invariant-loop-c : goal.invariant-loop-c
invariant-loop-c l = record {
  value : l.value ≡ int_value (take l.c-index l.digits);
  small : l.value ≤ 9223372036854775807;
}
