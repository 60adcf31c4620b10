use Rattle.std.proofs.Common.{map, ◌∙◌}
use Rattle.bt_lexer.specs.declared.token.Kind.TheVariants as k
use Rattle.bt_words.specs.Printing as print
use Rattle.bt_print.proofs.StepLemmas.{on_ok, enclosed, comma_is}
use Rattle.bt_print.proofs.printer.Printer.list.Goals as goal

pub returns : goal.returns
returns g c =
    on_ok c.push_str-2.result
    (enclosed c.args.out.now c.push_str.new.self c.queries.new.out c.push_str-2.new.self k.LeftBracket k.RightBracket (print.between print.comma (map print.query c.args.qs.now))
    c.in_ok-push_str.ensures.ok (c.in_ok-queries.ensures ∙ comma_is print.query c.push_str.new.self c.args.qs.now)) c.push_str-2.ensures.ok
