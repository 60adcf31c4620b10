use Rattle.std.proofs.Common.{sym, subst}
use Rattle.bt_syntax.specs.Grammar.{ReadsCheck}
use Rattle.bt_mapping_text.specs.Faults.{IsUnread}
use Rattle.bt_mapping_text.proofs.Within.{parsed-unread}
use Rattle.bt_mapping_text.proofs.reading.check_of.Goals as goal

pub returns-in-Err-clause-unread : goal.returns-in-Err-clause-unread
returns-in-Err-clause-unread c =
    subst (IsUnread ReadsCheck c.args.text.now) (sym c.parser_fault.ensures)
    (parsed-unread ReadsCheck c.args.text.now c.args.tokens.now.list c.in-Err.found c.requires (c.spans_rise.ensures.tokens _ _ c.requires) c.in-Err.ensures.refused)
