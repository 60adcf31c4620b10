use Rattle.regex.proofs.ReplaceLemmas.{IfOk-weaker}
use Rattle.regex.specs.Names.{names_of}
use Rattle.bt_matches.proofs.Meanings.{groups_some, groups_none}
use Rattle.bt_matches.proofs.patterns.found_groups.Goals as goal

pub returns-in-Some : goal.returns-in-Some
returns-in-Some c =
    let f = c.in-Some.ensures.found in
    IfOk-weaker _ _
    (λ ms is. groups_some _ _ c.args.text.now _ f.0 c.in-Some.captures (names_of c.capture_names.result.now) ms c.regex-regex.ensures (λ k. (c.type_inv.text k).fits) c.in-Ok.ensures.pattern f.1 f.2 c.capture_names.ensures is)
    _ c.groups.ensures

pub returns : goal.returns
returns c = groups_none _ _ c.args.text.now _ _ c.regex-regex.ensures (λ k. (c.type_inv.text k).fits) c.in-Ok.ensures.pattern c.in-None.ensures.found c.new.ensures
