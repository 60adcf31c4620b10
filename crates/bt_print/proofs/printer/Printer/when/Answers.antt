use Rattle.bt_lexer.specs.declared.token.Kind.TheVariants as k
use Rattle.bt_words.specs.Printing as print
use Rattle.bt_print.proofs.StepLemmas.{on_ok, three}
use Rattle.bt_print.proofs.printer.Printer.when.Goals as goal

pub returns : goal.returns
returns g c =
    on_ok c.query-2.result
    (three c.args.out.now c.query.new.out c.push_str.new.self c.query-2.new.out (print.query c.args.test.now) (print.spaced k.FatArrow) (print.query c.args.gives.now)
    c.in_ok-query.ensures c.in_ok-push_str.ensures.ok) c.query-2.ensures
