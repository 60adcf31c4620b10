use Rattle.std.proofs.Common.{sym, subst}
use Rattle.bt_blobl.specs.Inside.{RefusalSays}
use Rattle.bt_blobl.specs.declared.course.Halt.{Halt}
use Rattle.bt_blobl.proofs.MappingFaults.{says-lexed}
use Rattle.bt_blobl.proofs.Readiness.{says-of_tokens, unread-of_tokens, within-of_tokens}
use Rattle.bt_blobl.proofs.command.read_mapping.Goals as goal

pub returns-in-Err-clause-says : goal.returns-in-Err-clause-says
returns-in-Err-clause-says c =
    subst (λ (h : Halt). RefusalSays h c.args.text.now) (sym c.lexer_halt.ensures) (says-lexed c.args.text.now c.in-Err.fault c.in-Err.ensures.fault)

pub returns-in-Ok-clause-says : goal.returns-in-Ok-clause-says
returns-in-Ok-clause-says c = says-of_tokens c.args.text.now c.read_tokens.result c.read_tokens.ensures.says

pub returns-in-Ok-clause-unread : goal.returns-in-Ok-clause-unread
returns-in-Ok-clause-unread c = unread-of_tokens c.args.text.now c.read_tokens.result c.read_tokens.ensures.says

pub returns-in-Ok-clause-within : goal.returns-in-Ok-clause-within
returns-in-Ok-clause-within c = within-of_tokens c.args.text.now c.read_tokens.result c.read_tokens.ensures.says
