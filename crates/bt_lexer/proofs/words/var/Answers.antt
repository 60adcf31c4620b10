use Rattle.std.proofs.Common.{◌≡◌, ◌+◌, ◌≤◌, ◌∙◌, sym, arith, drop, length, length-drop}
use Rattle.std.proofs.lemmas.Grind.{common_steps}
use Rattle.std.specs.List.{prefix_len}
use Rattle.bt_lexer.specs.Bytes.{is_name_byte}
use Rattle.bt_lexer.proofs.FrontLemmas.{prefix_within, var_token, no_var}
use Rattle.bt_lexer.proofs.words.var.Goals as goal

pub overflow_add-result : goal.overflow_add-result
overflow_add-result c =
    let s = c.args.s.now in
    let n : c.name_len.result ≡ prefix_len is_name_byte (drop 1 s) = rw c.from_place.ensures at c.name_len.ensures in
    let w : c.name_len.result ≤ length s = omega (arith, n, prefix_within is_name_byte (drop 1 s), length-drop 1 s) in
    grind (arith, common_steps)

pub returns-in-len2-up : goal.returns-in-len2-up
returns-in-len2-up c =
    let s = c.args.s.now in
    let n : c.name_len.result ≡ prefix_len is_name_byte (drop 1 s) = rw c.from_place.ensures at c.name_len.ensures in
    var_token s (1 + c.name_len.result) c.requires (omega arith) (sym c.is_letter.ensures ∙ c.if-is_letter.true) (omega arith)

pub returns-in_default : goal.returns-in_default
returns-in_default c = no_var c.args.s.now c.requires (λ l. absurd (omega arith))

pub returns-in_default-2 : goal.returns-in_default-2
returns-in_default-2 c = no_var c.args.s.now c.requires (λ l. sym c.is_letter.ensures ∙ c.if-is_letter.false)
