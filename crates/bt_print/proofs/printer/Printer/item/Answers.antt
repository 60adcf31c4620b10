use Rattle.std.proofs.Common.{ℕ, List, length, map, ap, ◌∙◌}
use Rattle.bt_tree.specs.Parts.{in_suffix}
use Rattle.bt_words.specs.Printing as print
use Rattle.bt_words.specs.Printing.{Pieces}
use Rattle.bt_print.specs.Parts as parts
use Rattle.bt_print.specs.Steps.{after}
use Rattle.bt_print.proofs.StepLemmas.{on_ok, three, all_after_is, head_behind}
use Rattle.bt_print.proofs.printer.Printer.item.Goals as goal

pub returns : goal.returns
returns g c =
    let head = print.query c.args.head.now in
    let gap = λ (u : List ℕ). print.gap_between (print.begins_with_digit u) (print.begins_with_int (map (in_suffix print.query) c.args.suffixes.now)) in
    let behind = head_behind c.args.out.now c.query.new.out head (length c.as_str-from.result.now) c.in_ok-query.ensures (ap length c.as_str-from.ensures) in
    on_ok c.suffixes.result
    (λ h. three c.args.out.now c.query.new.out c.gap.new.out c.suffixes.new.out head (gap (print.text_of head)) (print.all_of (map parts.suffix c.args.suffixes.now))
    c.in_ok-query.ensures (c.in_ok-gap.ensures ∙ ap (λ u. after c.query.new.out (gap u)) behind) (h ∙ all_after_is parts.suffix c.gap.new.out c.args.suffixes.now)) c.suffixes.ensures
