use Rattle.std.proofs.Common.{[], ◌∷◌, ap, sym, ◌∙◌}
use Rattle.bt_lexer.specs.declared.token.Kind.TheVariants as k
use Rattle.bt_words.specs.Printing as print
use Rattle.bt_words.proofs.PrintedLayers.{of_args, args_fused}
use Rattle.bt_print.specs.Parts as parts
use Rattle.bt_print.specs.Steps.{after}
use Rattle.bt_print.proofs.StepLemmas.{on_ok, two}
use Rattle.bt_print.proofs.printer.Printer.suffix.Goals as goal

pub returns-in-Method : goal.returns-in-Method
returns-in-Method g c =
    let name = print.name c.in-Method.name.text in
    on_ok c.call.result
    (λ h. two c.args.out.now c.push_str.new.self c.call.new.out (print.mark k.Dot ∷ []) (name ∷ of_args c.in-Method.args) c.in_ok-push_str.ensures.ok
    (h ∙ ap (λ xs. after c.push_str.new.self (name ∷ of_args xs)) c.as_slice.ensures)
    ∙ ap (λ p. after c.args.out.now (print.mark k.Dot ∷ name ∷ p)) (sym (args_fused c.in-Method.args))
    ∙ ap (λ x. after c.args.out.now (parts.suffix x)) (sym c.in-Method.is)) c.call.ensures
