use Rattle.std.proofs.Common.{Some, is_some, sym, ap, ◌∙◌}
use Rattle.json.specs.Find as found
use Rattle.bt_value.specs.Paths.{or_null}
use Rattle.bt_doc.proofs.Docs.{part, member_at, finds_value, finds_none}
use Rattle.bt_doc.proofs.part.flat_member.Goals as goal

pub invariant_of-result : goal.invariant_of-result
invariant_of-result c =
    let p = part c.args.element.now c.requires in
    ap is_some (finds_value (found.get c.args.key.now p.0) _ c.in-Some.found (member_at p.0 _ c.args.key.now p.2) (c.in-Some.ensures p.0 p.1)).1

pub returns-in-Some : goal.returns-in-Some
returns-in-Some c =
    let p = part c.args.element.now c.requires in
    let w = finds_value (found.get c.args.key.now p.0) _ c.in-Some.found (member_at p.0 _ c.args.key.now p.2) (c.in-Some.ensures p.0 p.1) in
    ap (λ o. Some (or_null o)) w.1 ∙ sym w.2

pub returns-in-None : goal.returns-in-None
returns-in-None c =
    let p = part c.args.element.now c.requires in
    sym (finds_none (found.get c.args.key.now p.0) _ (member_at p.0 _ c.args.key.now p.2) (c.in-None.ensures p.0 p.1))
