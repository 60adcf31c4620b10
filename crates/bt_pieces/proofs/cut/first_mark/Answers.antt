use Rattle.std.proofs.Common.{◌+◌, ℕ, Some, option_map, ap, sym, ◌∙◌}
use Rattle.bt_pieces.proofs.CutLemmas.{mark_behind}
use Rattle.bt_pieces.proofs.cut.first_mark.Goals as goal

pub returns-in_err-find : goal.returns-in_err-find
returns-in_err-find c =
    mark_behind c.args.s.now c.from_place.result.now c.args.from c.find.result c.from_residual.result c.requires c.from_place.ensures c.find.ensures
    (c.from_residual.ensures ∙ sym (ap (option_map (λ (i : ℕ). c.args.from + i)) (c.in_err-find.was)))

pub returns : goal.returns
returns c =
    mark_behind c.args.s.now c.from_place.result.now c.args.from c.find.result (Some (c.args.from + c.in_ok-find.field-0)) c.requires c.from_place.ensures c.find.ensures
    (sym (ap (option_map (λ (i : ℕ). c.args.from + i)) (c.in_ok-find.was)))
