use Rattle.bt_lexer.specs.declared.token.Kind.TheVariants as k
use Rattle.bt_print.specs.Parts as parts
use Rattle.bt_print.proofs.StepLemmas.{on_ok, enclosed}
use Rattle.bt_print.proofs.printer.Printer.within.Goals as goal

pub returns : goal.returns
returns g c =
    on_ok c.push_str-2.result
    (enclosed c.args.out.now c.push_str.new.self c.arg.new.out c.push_str-2.new.self k.LeftParen k.RightParen (parts.arg c.args.arg.now)
    c.in_ok-push_str.ensures.ok c.in_ok-arg.ensures) c.push_str-2.ensures.ok
