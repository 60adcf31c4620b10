use Rattle.std.proofs.Common.{map, ◌∙◌}
use Rattle.bt_lexer.specs.declared.token.Kind.TheVariants as k
use Rattle.bt_words.specs.Printing as print
use Rattle.bt_print.specs.Parts as parts
use Rattle.bt_print.proofs.StepLemmas.{on_ok, enclosed, comma_is}
use Rattle.bt_print.proofs.printer.Printer.args.Goals as goal

pub returns : goal.returns
returns g c =
    on_ok c.push_str-2.result
    (enclosed c.args.out.now c.push_str.new.self c.args_inside.new.out c.push_str-2.new.self k.LeftParen k.RightParen (print.between print.comma (map parts.arg c.args.args.now))
    c.in_ok-push_str.ensures.ok (c.in_ok-args_inside.ensures ∙ comma_is parts.arg c.push_str.new.self c.args.args.now)) c.push_str-2.ensures.ok
