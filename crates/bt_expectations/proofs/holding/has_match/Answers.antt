use Rattle.bt_matches.proofs.Meanings.{match_told}
use Rattle.bt_expectations.proofs.holding.has_match.Goals as goal

pub returns : goal.returns
returns c =
    rw (c.is_match.ensures.found, c.in_ok-matcher.ensures.pattern)
    (match_told _ _ c.args.text.now c.regex-regex.ensures (λ k. (c.type_inv.text k).fits))
