use Rattle.std.proofs.Common.{option_and_then, ap, ◌∙◌}
use Rattle.serde_json.specs.Find.{as_i64}
use Rattle.serde_json.specs.Read.{number_of}
use Rattle.bt_doc.proofs.Docs.{part, number_at}
use Rattle.bt_doc.proofs.part.flat_integer.Goals as goal

pub returns-in-Some : goal.returns-in-Some
returns-in-Some c =
    let p = part c.args.element.now c.requires in
    c.whole_number.ensures ∙ ap (option_and_then (λ s. option_and_then as_i64 (number_of s))) (c.in-Some.ensures p.0 p.1) ∙ number_at p.0 _ p.2

pub returns-in-None : goal.returns-in-None
returns-in-None c =
    let p = part c.args.element.now c.requires in
    ap (option_and_then (λ s. option_and_then as_i64 (number_of s))) (c.in-None.ensures p.0 p.1) ∙ number_at p.0 _ p.2
