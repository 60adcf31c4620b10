use Rattle.std.proofs.Common.{sym, ap, ◌∙◌}
use Rattle.bt_value.proofs.Bounds.{reading_nests}
use Rattle.bt_value.proofs.Marks.{unless, reading_settled, some_read}
use Rattle.bt_value.proofs.read.read_text.Goals as goal

pub returns-then-has_bytes-clause-out_of_profile : goal.returns-then-has_bytes-clause-out_of_profile
returns-then-has_bytes-clause-out_of_profile c =
    let m = c.in_ok-value.ensures.ok in
    let text = c.args.text.now in
    let v = c.in_ok-value.value in
    λ _. (some_read text m.0 m.2, reading_settled text m.0 v m.2 m.1 ∙ ap (λ b. unless b v) (sym c.has_bytes.ensures ∙ c.if-has_bytes.true))

pub returns-clause-ok : goal.returns-clause-ok
returns-clause-ok c =
    let m = c.in_ok-value.ensures.ok in
    let v = c.in_ok-value.value in
    reading_settled c.args.text.now m.0 v m.2 m.1 ∙ ap (λ b. unless b v) (sym c.has_bytes.ensures ∙ c.if-has_bytes.false)

pub returns-clause-nests : goal.returns-clause-nests
returns-clause-nests c =
    let m = c.in_ok-value.ensures.ok in
    let v = c.in_ok-value.value in
    reading_nests c.args.text.now v (reading_settled c.args.text.now m.0 v m.2 m.1 ∙ ap (λ b. unless b v) (sym c.has_bytes.ensures ∙ c.if-has_bytes.false))
