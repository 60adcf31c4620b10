use Rattle.bt_lints.specs.declared.lint.Use.TheVariants as usage
use Rattle.bt_syntax.specs.Grammar.{ReadsMapping}
use Rattle.bt_text_lints.proofs.Judging.{read-judged}
use Rattle.bt_text_lints.proofs.judged.mapping_verdict.Goals as goal

pub returns-in-Ok : goal.returns-in-Ok
returns-in-Ok c = read-judged ReadsMapping usage.Mapping c.args.text.now c.in-Ok.mapping c.linted.result c.in-Ok.ensures.read c.linted.ensures
