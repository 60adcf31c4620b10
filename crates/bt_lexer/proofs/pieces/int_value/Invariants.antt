use Rattle.std.proofs.Common.{◌≡◌, take}
use Rattle.bt_lexer.specs.Tokens.{int_value}
use Rattle.bt_lexer.proofs.pieces.int_value.Given as goal

abbrev pub invariant-loop-c : goal.invariant-loop-c
invariant-loop-c l = l.value ≡ int_value (take l.c-index l.c-items)
