use Rattle.std.proofs.Common.{[], ◌∷◌, map, ◌∙◌}
use Rattle.bt_lexer.specs.declared.token.Kind.TheVariants as k
use Rattle.bt_words.specs.Printing as print
use Rattle.bt_print.proofs.StepLemmas.{on_ok, between_is, definition_is}
use Rattle.bt_print.proofs.printer.Printer.definition.Goals as goal

pub returns : goal.returns
returns g c =
    let mark = print.mark k.Nl ∷ print.Space ∷ print.Space ∷ [] in
    on_ok c.push_str-4.result
    (definition_is c.args.out.now c.push_str.new.self c.push_str-2.new.self c.push_str-3.new.self c.body.new.out c.push_str-4.new.self c.args.name.now
    (print.between mark (map print.map_stmt c.args.body.now)) c.in_ok-push_str.ensures.ok c.in_ok-push_str-2.ensures.ok c.in_ok-push_str-3.ensures.ok
    (c.in_ok-body.ensures ∙ between_is print.map_stmt mark c.push_str-3.new.self c.args.body.now)) c.push_str-4.ensures.ok
