use Rattle.std.proofs.Common.{◌≡◌, ◌≤◌, ◌∙◌, sym, arith, drop, length, length-drop, one-add}
use Rattle.std.proofs.lemmas.Grind.{common_steps}
use Rattle.std.specs.List.{prefix_len}
use Rattle.bt_lexer.specs.Bytes.{is_in_line}
use Rattle.bt_lexer.proofs.FrontLemmas.{prefix_within, blank_found, comment_found}
use Rattle.bt_lexer.proofs.words.gap_len.Goals as goal

pub returns-then-is_blank : goal.returns-then-is_blank
returns-then-is_blank c = blank_found c.args.s.now (grind (arith, common_steps)) (sym c.is_blank.ensures ∙ c.if-is_blank.true)

pub overflow_add-result : goal.overflow_add-result
overflow_add-result c =
    let s = c.args.s.now in
    let n : c.line_len.result ≡ prefix_len is_in_line (drop 1 s) = rw c.from_place.ensures at c.line_len.ensures in
    let w : c.line_len.result ≤ length s = omega (arith, n, prefix_within is_in_line (drop 1 s), length-drop 1 s) in
    grind (arith, common_steps)

pub returns-then-s-eq35 : goal.returns-then-s-eq35
returns-then-s-eq35 c =
    let s = c.args.s.now in
    let n : c.line_len.result ≡ prefix_len is_in_line (drop 1 s) = rw c.from_place.ensures at c.line_len.ensures in
    rw (one-add, n) (comment_found s (grind (arith, common_steps)) c.if-s-eq35.true)
