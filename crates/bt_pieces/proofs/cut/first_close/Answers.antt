use Rattle.std.proofs.Common.{◌+◌, ℕ, Some, option_map, ap, sym, ◌∙◌}
use Rattle.bt_pieces.proofs.CutLemmas.{close_behind}
use Rattle.bt_pieces.proofs.cut.first_close.Goals as goal

pub returns-in_err-memchr : goal.returns-in_err-memchr
returns-in_err-memchr c =
    close_behind c.args.s.now c.from_place.result.now c.args.from c.memchr.result c.from_residual.result c.requires c.from_place.ensures c.memchr.ensures
    (c.from_residual.ensures ∙ sym (ap (option_map (λ (i : ℕ). c.args.from + i)) (c.in_err-memchr.was)))

pub returns : goal.returns
returns c =
    close_behind c.args.s.now c.from_place.result.now c.args.from c.memchr.result (Some (c.args.from + c.in_ok-memchr.field-0)) c.requires c.from_place.ensures c.memchr.ensures
    (sym (ap (option_map (λ (i : ℕ). c.args.from + i)) (c.in_ok-memchr.was)))
