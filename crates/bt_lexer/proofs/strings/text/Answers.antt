use Rattle.std.proofs.Common.{◌≡◌, ◌∙◌, sym, false}
use Rattle.bt_lexer.specs.Strings.{begins_tripled}
use Rattle.bt_lexer.proofs.StringLemmas.{quoted_token, no_quoted_token, tripled_token}
use Rattle.bt_lexer.proofs.strings.text.Goals as goal

pub returns-in-Some : goal.returns-in-Some
returns-in-Some c = tripled_token c.args.s.now c.in-Some.len c.in-Some.ensures

pub returns-in-Some-quoted_len : goal.returns-in-Some-quoted_len
returns-in-Some-quoted_len c =
    let three : begins_tripled c.args.s.now ≡ false = sym c.has_three_marks.ensures ∙ c.if-has_three_marks.false in
    quoted_token c.args.s.now c.requires c.in-Some-quoted_len.len three c.in-Some-quoted_len.ensures

pub returns-in-None-quoted_len : goal.returns-in-None-quoted_len
returns-in-None-quoted_len c =
    let three : begins_tripled c.args.s.now ≡ false = sym c.has_three_marks.ensures ∙ c.if-has_three_marks.false in
    no_quoted_token c.args.s.now c.requires three c.in-None-quoted_len.ensures
