use Rattle.std.proofs.Common.{map, ◌∙◌}
use Rattle.bt_words.specs.Printing as print
use Rattle.bt_print.specs.Parts as parts
use Rattle.bt_print.proofs.StepLemmas.{on_ok, two, all_after_is}
use Rattle.bt_print.proofs.printer.Printer.numeric.Goals as goal

pub returns : goal.returns
returns g c =
    on_ok c.terms.result
    (λ h. two c.args.out.now c.query.new.out c.terms.new.out (print.query c.args.first.now) (print.all_of (map parts.term c.args.terms.now))
    c.in_ok-query.ensures (h ∙ all_after_is parts.term c.query.new.out c.args.terms.now)) c.terms.ensures
