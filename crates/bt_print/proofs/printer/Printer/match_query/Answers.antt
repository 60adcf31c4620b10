use Rattle.std.proofs.Common.{[], ◌∷◌, map, ◌∙◌}
use Rattle.bt_syntax.specs.declared.keywords.Keyword.TheVariants as w
use Rattle.bt_tree.specs.Parts.{in_option}
use Rattle.bt_words.specs.Printing as print
use Rattle.bt_print.specs.Parts as parts
use Rattle.bt_print.proofs.StepLemmas.{on_ok, three, in_block, comma_is}
use Rattle.bt_print.proofs.printer.Printer.match_query.Goals as goal

pub returns : goal.returns
returns g c =
    let cases = print.between print.comma (map parts.one_case c.args.cases.now) in
    on_ok c.push_str-3.result
    (λ h. three c.args.out.now c.push_str.new.self c.subject.new.out c.push_str-3.new.self (print.keyword w.Match ∷ []) (print.subject (in_option print.query c.args.subject.now))
    (print.block cases) c.in_ok-push_str.ensures.ok c.in_ok-subject.ensures
    (in_block c.subject.new.out c.push_str-2.new.self c.cases.new.out c.push_str-3.new.self cases c.in_ok-push_str-2.ensures.ok
    (c.in_ok-cases.ensures ∙ comma_is parts.one_case c.push_str-2.new.self c.args.cases.now) h)) c.push_str-3.ensures.ok
