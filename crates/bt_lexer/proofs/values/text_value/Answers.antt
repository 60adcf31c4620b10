use Rattle.std.proofs.Common.{◌≡◌, ◌∙◌, sym, arith, true, false}
use Rattle.bt_lexer.specs.Strings.{begins_tripled}
use Rattle.bt_lexer.proofs.TextLemmas.{inner_of, text_quoted}
use Rattle.bt_lexer.proofs.values.text_value.Goals as goal

pub range-requires-clause-start_le_end : goal.range-requires-clause-start_le_end
range-requires-clause-start_le_end c =
    let u = c.args.piece.now in
    let three : begins_tripled u ≡ true = rw c.as_bytes.ensures.value at (sym c.has_three_marks.ensures ∙ c.if-has_three_marks.true) in
    let long = (inner_of u c.utf8.piece c.requires three).long in omega arith

pub range-requires-clause-start_boundary : goal.range-requires-clause-start_boundary
range-requires-clause-start_boundary c _ =
    let u = c.args.piece.now in
    let three : begins_tripled u ≡ true = rw c.as_bytes.ensures.value at (sym c.has_three_marks.ensures ∙ c.if-has_three_marks.true) in
    (inner_of u c.utf8.piece c.requires three).start

pub range-requires-clause-end_boundary : goal.range-requires-clause-end_boundary
range-requires-clause-end_boundary c =
    let u = c.args.piece.now in
    let three : begins_tripled u ≡ true = rw c.as_bytes.ensures.value at (sym c.has_three_marks.ensures ∙ c.if-has_three_marks.true) in
    (inner_of u c.utf8.piece c.requires three).end

pub quoted_value-requires : goal.quoted_value-requires
quoted_value-requires c =
    let u = c.args.piece.now in
    let three : begins_tripled u ≡ false = rw c.as_bytes.ensures.value at (sym c.has_three_marks.ensures ∙ c.if-has_three_marks.false) in
    text_quoted u c.requires three
