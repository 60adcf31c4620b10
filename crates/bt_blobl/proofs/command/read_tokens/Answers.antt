use Rattle.std.proofs.Common.{sym, subst}
use Rattle.bt_blobl.specs.Inside.{TokensSay}
use Rattle.bt_blobl.specs.declared.course.Halt.{Halt}
use Rattle.bt_blobl.proofs.MappingFaults.{says-refused}
use Rattle.bt_blobl.proofs.Readiness.{runs-ready, says-ready}
use Rattle.bt_blobl.proofs.command.read_tokens.Goals as goal

pub returns-in-Ok-clause-runs : goal.returns-in-Ok-clause-runs
returns-in-Ok-clause-runs c =
    runs-ready c.args.text.now c.in-Ok.mapping c.made_ready.result (c.args.tokens.now.list, c.requires, c.in-Ok.ensures.shallow, c.in-Ok.ensures.read) c.made_ready.ensures.kept c.made_ready.ensures.no_lints c.made_ready.ensures.read

pub returns-in-Ok-clause-says : goal.returns-in-Ok-clause-says
returns-in-Ok-clause-says c =
    says-ready c.args.text.now c.in-Ok.mapping c.made_ready.result (c.args.tokens.now.list, c.requires, c.in-Ok.ensures.shallow, c.in-Ok.ensures.read) c.made_ready.ensures.says

pub returns-in-Err-clause-says : goal.returns-in-Err-clause-says
returns-in-Err-clause-says c =
    subst (λ (h : Halt). TokensSay h c.args.text.now) (sym c.parser_halt.ensures)
    (says-refused c.args.text.now c.args.tokens.now.list _ c.requires (c.spans_rise.ensures.tokens _ _ c.requires) c.in-Err.ensures.refused)
