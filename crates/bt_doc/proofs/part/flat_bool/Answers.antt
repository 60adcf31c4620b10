use Rattle.std.proofs.Common.{◌∙◌}
use Rattle.bt_doc.proofs.Docs.{part, bool_at}
use Rattle.bt_doc.proofs.part.flat_bool.Goals as goal

pub returns : goal.returns
returns c = let p = part c.args.element.now c.requires in c.as_bool.ensures p.0 p.1 ∙ bool_at p.0 _ p.2
