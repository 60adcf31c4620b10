use Rattle.bt_lexer.specs.declared.token.Kind.TheVariants as k
use Rattle.bt_words.specs.Printing as print
use Rattle.bt_print.proofs.StepLemmas.{on_ok, enclosed}
use Rattle.bt_print.proofs.printer.Printer.paren.Goals as goal

pub returns : goal.returns
returns g c =
    on_ok c.push_str-2.result
    (enclosed c.args.out.now c.push_str.new.self c.query.new.out c.push_str-2.new.self k.LeftParen k.RightParen (print.query c.args.q.now)
    c.in_ok-push_str.ensures.ok c.in_ok-query.ensures) c.push_str-2.ensures.ok
