use Rattle.std.proofs.Common.{◌≡◌, ◌≤◌, ◌-◌, ◌++◌, drop, length, true}
use Rattle.std.specs.Str.{IsCharBoundary}
use Rattle.bt_lexer.specs.Strings.{is_closed, parts_value}
use Rattle.bt_lexer.proofs.values.quoted_value.Given as goal

-- what was made and what the rest stands for are the value
abbrev pub invariant-parts : goal.invariant-parts
invariant-parts l = record {
  within : l.at ≤ length l.bytes;
  cut : IsCharBoundary l.bytes l.at;
  closed : is_closed (drop l.at l.bytes) 0 ≡ true;
  same : l.value ++ parts_value (drop l.at l.bytes) 0 ≡ parts_value (drop 1 l.bytes) 0;
}

abbrev pub decreases-parts : goal.decreases-parts
decreases-parts l = length l.bytes - l.at
