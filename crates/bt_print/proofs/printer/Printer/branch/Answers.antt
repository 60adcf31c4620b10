use Rattle.std.proofs.Common.{[], ◌∷◌}
use Rattle.bt_syntax.specs.declared.keywords.Keyword.TheVariants as w
use Rattle.bt_words.specs.Printing as print
use Rattle.bt_print.proofs.StepLemmas.{on_ok, three}
use Rattle.bt_print.proofs.printer.Printer.branch.Goals as goal

pub returns : goal.returns
returns g c =
    on_ok c.block.result
    (three c.args.out.now c.push_str.new.self c.query.new.out c.block.new.out (print.keyword w.If ∷ print.Space ∷ []) (print.query c.args.branch.now.test)
    (print.block (print.query c.args.branch.now.gives)) c.in_ok-push_str.ensures.ok c.in_ok-query.ensures) c.block.ensures
