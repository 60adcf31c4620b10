use Rattle.std.proofs.Common.{false, ◌∙◌, ap, sym, [], ◌∷◌, append_assoc, string_bytes}
use Rattle.bt_time.specs.Format.{shown_by, pieces_behind}
use Rattle.bt_time.proofs.FormatLemmas.{plain_behind}
use Rattle.bt_time.proofs.format.push_behind_percent.Goals as goal

pub returns-in-None-clause-shown : goal.returns-in-None-clause-shown
returns-in-None-clause-shown c =
    let none = c.in_default.ensures in
    let letter = c.in-None.ensures in
    let plain = plain_behind c.args.behind.now (λ b bs same. (none b bs same, λ is. letter bs (same ∙ ap (λ x. x ∷ bs) is))) in
    rw (plain, c.in_ok-push_ascii.ensures)
    (sym (append_assoc (string_bytes c.args.text.now) (37 ∷ []) (shown_by c.args.civil.now (pieces_behind false c.args.behind.now))))
