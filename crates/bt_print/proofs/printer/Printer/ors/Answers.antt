use Rattle.std.proofs.Common.{map, ◌∙◌}
use Rattle.bt_lexer.specs.declared.token.Kind.TheVariants as k
use Rattle.bt_words.specs.Printing as print
use Rattle.bt_print.proofs.StepLemmas.{on_ok, two, or_is}
use Rattle.bt_print.proofs.printer.Printer.ors.Goals as goal

pub returns : goal.returns
returns g c =
    on_ok c.operands.result
    (λ h. two c.args.out.now c.query.new.out c.operands.new.out (print.query c.args.first.now) (print.behind_each (print.spaced k.Or) (map print.query c.args.qs.now))
    c.in_ok-query.ensures (h ∙ or_is c.query.new.out c.args.qs.now)) c.operands.ensures
