use Rattle.std.proofs.Common.{true, ◌∙◌, ap, sym, ◌++◌, append_assoc, string_bytes}
use Rattle.bt_time.specs.Format.{shown_by, pieces_behind}
use Rattle.bt_time.proofs.FormatLemmas.{plain_before}
use Rattle.bt_time.proofs.format.show.Goals as goal

pub loop-plain-preserved : goal.loop-plain-preserved
loop-plain-preserved c =
    let first = c.in-Some.ensures in
    let pushed = c.in_ok-push_str.ensures.bytes in
    let left = shown_by c.args.civil.now (pieces_behind true c.in-Some.behind.now) in
    let here = plain_before c.args.civil.now c.loop-plain.rest.now first.0 in (
      c.loop-plain.invariant.0
          ∙ ap (λ u. string_bytes c.loop-plain.text ++ u) (rw (first.1, first.2) here)
          ∙ sym (append_assoc (string_bytes c.loop-plain.text) c.in-Some.plain.now left)
          ∙ ap (λ u. u ++ left) (sym pushed)
          ∙ c.in_ok-rest.ensures.shown,
      c.in_ok-rest.ensures.utf8,
    )
