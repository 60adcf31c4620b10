use Rattle.std.proofs.Common.{sym, subst}
use Rattle.bt_syntax.specs.Grammar.{ReadsCheck, ReadsMapping}
use Rattle.bt_mapping_text.specs.Faults.{IsUnread}
use Rattle.bt_mapping_text.proofs.Within.{lexed-unread}
use Rattle.bt_mapping_text.proofs.reading.tokens_of.Goals as goal

pub returns-in-Err-clause-mapping : goal.returns-in-Err-clause-mapping
returns-in-Err-clause-mapping c =
    subst (IsUnread ReadsMapping c.args.text.now) (sym c.lexer_fault.ensures) (lexed-unread ReadsMapping c.args.text.now c.in-Err.found c.in-Err.ensures.fault c.in-Err.ensures.place)

pub returns-in-Err-clause-check : goal.returns-in-Err-clause-check
returns-in-Err-clause-check c =
    subst (IsUnread ReadsCheck c.args.text.now) (sym c.lexer_fault.ensures) (lexed-unread ReadsCheck c.args.text.now c.in-Err.found c.in-Err.ensures.fault c.in-Err.ensures.place)
