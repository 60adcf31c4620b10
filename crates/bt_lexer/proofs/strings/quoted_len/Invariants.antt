use Rattle.std.proofs.Common.{◌≡◌, ◌≤◌, ◌-◌, drop, length}
use Rattle.bt_lexer.proofs.StringLemmas.{quoted_end}
use Rattle.bt_lexer.proofs.strings.quoted_len.Given as goal

-- the rest leads to the place that the whole leads to
abbrev pub invariant-loop-at : goal.invariant-loop-at
invariant-loop-at l = record {
  within : l.at ≤ length l.s;
  same : quoted_end (drop l.at l.s) 0 l.at ≡ quoted_end (drop 1 l.s) 0 1;
}

abbrev pub decreases-loop-at : goal.decreases-loop-at
decreases-loop-at l = length l.s - l.at
