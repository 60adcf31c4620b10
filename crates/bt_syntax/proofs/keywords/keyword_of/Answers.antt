use Rattle.bt_syntax.specs.Keywords.{keywords}
use Rattle.bt_syntax.proofs.Tables.{missed}
use Rattle.bt_syntax.proofs.keywords.keyword_of.Goals as goal

pub returns-in_default : goal.returns-in_default
returns-in_default c =
    let d = c.in_default in
    missed c.args.name.now keywords (d.not-this, (d.not-root, (d.not-match, (d.not-if, (d.not-else, (d.not-true, (d.not-false, (d.not-null, (d.not-let, (d.not-meta, (d.not-map, (d.not-text, tt))))))))))))
