use Rattle.std.proofs.Common.{Some, is_some, sym, ap, ◌∙◌, subst, arith}
use Rattle.bt_doc.specs.Doc.{Settled}
use Rattle.bt_value.specs.Paths.{or_null}
use Rattle.bt_value.specs.Reading.{reading}
use Rattle.serde_json.specs.Read.{read}
use Rattle.bt_doc.proofs.Docs.{settled_reading, refused_reading}
use Rattle.bt_doc.proofs.doc.Doc.open.Goals as goal

pub invariant_of-result : goal.invariant_of-result
invariant_of-result c =
    let ok = c.in-Ok-parse.ensures.ok in
    let settled = subst (Settled 0) c.nodes.ensures.tokens (c.is_settled.ensures c.if-is_settled.true) in
    ap is_some (settled_reading c.in-Ok.text.now c.in-Ok-parse.tape ok.0 ok.1 settled).2

pub returns-then-is_settled-clause-ok : goal.returns-then-is_settled-clause-ok
returns-then-is_settled-clause-ok c =
    let ok = c.in-Ok-parse.ensures.ok in
    let settled = subst (Settled 0) c.nodes.ensures.tokens (c.is_settled.ensures c.if-is_settled.true) in
    let w = settled_reading c.in-Ok.text.now c.in-Ok-parse.tape ok.0 ok.1 settled in
    let cases = c.in-Ok.ensures.cases in
    (cases.1, ap reading (sym cases.0) ∙ w.1 ∙ ap (λ o. Some (or_null o)) (sym w.2))

pub returns-in-Err-Invalid-clause-not_json : goal.returns-in-Err-Invalid-clause-not_json
returns-in-Err-Invalid-clause-not_json c _ _ = ap read (sym c.in-Ok.ensures.cases.0) ∙ refused_reading c.in-Ok.text.now (c.parse.ensures.invalid (grind arith))
