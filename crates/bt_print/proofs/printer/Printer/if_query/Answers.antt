use Rattle.std.proofs.Common.{ap, ◌∙◌}
use Rattle.bt_tree.specs.Parts.{in_option}
use Rattle.bt_words.specs.Printing as print
use Rattle.bt_print.specs.Steps.{after}
use Rattle.bt_print.proofs.StepLemmas.{on_ok, branches_are}
use Rattle.bt_print.proofs.printer.Printer.if_query.Goals as goal

pub returns : goal.returns
returns g c =
    on_ok c.last.result
    (λ h. h ∙ ap (λ u. after u (print.last_branch (in_option print.query c.args.last.now))) c.in_ok-branches.ensures
    ∙ branches_are c.args.out.now c.args.branches.now (in_option print.query c.args.last.now)) c.last.ensures
