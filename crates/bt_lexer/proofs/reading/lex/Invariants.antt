use Rattle.std.proofs.Common.{◌≤◌, ◌-◌, List, drop, length, Ok, Err}
use Rattle.bt_lexer.specs.declared.token.Token.{Token}
use Rattle.bt_lexer.specs.declared.token.LexFault.{LexFault}
use Rattle.bt_lexer.specs.Tokens.{Reads}
use Rattle.bt_lexer.specs.Lines.{HasTokens, HasFault}
use Rattle.bt_lexer.specs.Collected.{completed}
use Rattle.bt_lexer.proofs.reading.lex.Given as goal

-- what the rest of the text is read as completes what was found, and its fault is the text's
abbrev pub invariant-loop-at : goal.invariant-loop-at
invariant-loop-at l = record {
  within : l.at ≤ length l.bytes;
  good : (us : List Token) → Reads l.at l.after_dot (drop l.at l.bytes) (Ok us) → HasTokens l.bytes (completed l.bytes l.found.list l.behind us);
  bad : (f : LexFault) → Reads l.at l.after_dot (drop l.at l.bytes) (Err f) → HasFault l.bytes f;
}

abbrev pub decreases-loop-at : goal.decreases-loop-at
decreases-loop-at l = length l.bytes - l.at
