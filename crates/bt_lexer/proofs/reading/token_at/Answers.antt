use Rattle.std.proofs.Common.{sym, ◌∙◌}
use Rattle.bt_lexer.proofs.ReadLemmas.{number_fault, token_then}
use Rattle.bt_lexer.proofs.reading.token_at.Goals as goal

pub returns-then-is_bad-clause-fault : goal.returns-then-is_bad-clause-fault
returns-then-is_bad-clause-fault c =
    let w = rw c.from_place-rest.ensures at c.in-Some.ensures in
    let bad = rw (c.from_place.ensures, c.from_place-rest.ensures) at (sym c.is_bad.ensures ∙ c.if-is_bad.true) in
    number_fault c.args.text.now c.args.at c.args.after_dot c.in-Some.kind c.in-Some.len w bad

pub returns-clause-more : goal.returns-clause-more
returns-clause-more c r more =
    let w = rw c.from_place-rest.ensures at c.in-Some.ensures in
    let good = rw (c.from_place.ensures, c.from_place-rest.ensures) at (sym c.is_bad.ensures ∙ c.if-is_bad.false) in
    token_then c.args.text.now c.args.at c.args.after_dot c.in-Some.kind c.in-Some.len w good r more
