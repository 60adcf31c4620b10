use Rattle.std.proofs.Common.{[], ◌∷◌, refl, ◌∙◌}
use Rattle.bt_syntax.specs.declared.keywords.Keyword.TheVariants as w
use Rattle.bt_words.specs.Printing as print
use Rattle.bt_print.specs.Steps.{after}
use Rattle.bt_print.proofs.StepLemmas.{on_ok, three, keys_are}
use Rattle.bt_print.proofs.printer.Printer.root.Goals as goal

pub returns : goal.returns
returns g c =
    let root = print.keyword w.Root ∷ [] in
    on_ok c.assigned.result
    (three c.args.out.now (after c.args.out.now root) c.target.new.out c.assigned.new.out root (print.keys c.args.path.now) (print.assigned c.args.q.now) refl
    (c.in_ok-target.ensures ∙ keys_are (after c.args.out.now root) c.args.path.now)) c.assigned.ensures
