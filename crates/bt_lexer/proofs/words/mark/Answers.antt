use Rattle.std.proofs.Common.{sym, slice_index}
use Rattle.bt_lexer.proofs.FrontLemmas.{IsOther, pair_found, one_found, no_mark_found}
use Rattle.bt_lexer.proofs.words.mark.Goals as goal

pub returns-in-Some : goal.returns-in-Some
returns-in-Some c =
    let other : IsOther (slice_index c.args.s.now 0) = record { letter = c.requires.no_letter; digit = c.requires.no_digit; dollar = c.requires.no_dollar; mark = c.requires.no_quote } in
    pair_found c.args.s.now c.in-Some.kind other (sym c.in-Some.ensures)

pub returns-in-Some-mark_of_one : goal.returns-in-Some-mark_of_one
returns-in-Some-mark_of_one c =
    let other : IsOther (slice_index c.args.s.now 0) = record { letter = c.requires.no_letter; digit = c.requires.no_digit; dollar = c.requires.no_dollar; mark = c.requires.no_quote } in
    one_found c.args.s.now c.in-Some-mark_of_one.kind c.requires.some other (sym c.in_default.ensures) (sym c.in-Some-mark_of_one.ensures)

pub returns-in-None : goal.returns-in-None
returns-in-None c =
    let other : IsOther (slice_index c.args.s.now 0) = record { letter = c.requires.no_letter; digit = c.requires.no_digit; dollar = c.requires.no_dollar; mark = c.requires.no_quote } in
    no_mark_found c.args.s.now c.requires.some other (sym c.in_default.ensures) (sym c.in-None.ensures)
