use Rattle.std.proofs.Common.{[], ◌∷◌, codes, ap, sym, ◌∙◌}
use Rattle.bt_lexer.specs.declared.token.Kind.TheVariants as k
use Rattle.bt_words.specs.Printing as print
use Rattle.bt_print.specs.Steps.{after, listed}
use Rattle.bt_print.proofs.StepLemmas.{on_ok, between_is}
use Rattle.bt_print.proofs.printer.Printer.mapping.Goals as goal

pub returns-in-Statements : goal.returns-in-Statements
returns-in-Statements g c =
    on_ok c.stmts.result
    (λ h. h ∙ ap (listed print.stmt (codes "\n") c.args.out.now) c.as_slice.ensures
    ∙ between_is print.stmt (print.mark k.Nl ∷ []) c.args.out.now c.in-Statements.stmts
    ∙ ap (λ x. after c.args.out.now (print.mapping x)) (sym c.in-Statements.is)) c.stmts.ensures
