use Rattle.std.proofs.Common.{◌≡◌, drop}
use Rattle.bt_lexer.proofs.StringLemmas.{tripled_place}
use Rattle.bt_lexer.proofs.strings.tripled_len.Given as goal

-- the rest leads to the place that the whole leads to
abbrev pub invariant-loop-at : goal.invariant-loop-at
invariant-loop-at l = tripled_place (drop l.at l.s) l.at ≡ tripled_place (drop 3 l.s) 3
