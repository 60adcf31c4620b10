use Rattle.std.proofs.Common.{◌∙◌}
use Rattle.bt_doc.proofs.Docs.{part, text_at}
use Rattle.bt_doc.proofs.part.flat_text.Goals as goal

pub returns : goal.returns
returns c = let p = part c.args.element.now c.requires in c.as_str.ensures p.0 p.1 ∙ text_at p.0 _ p.2
