use Rattle.std.proofs.Common.{ap, sym, Err}
use Rattle.bt_contexts.proofs.Documents.{document_value, document_none, document_past}
use Rattle.bt_contexts.proofs.content.document.Goals as goal

pub returns-in-Ok-clause-reads : goal.returns-in-Ok-clause-reads
returns-in-Ok-clause-reads c = let f = c.in-Ok.ensures.ok in sym (document_value c.args.content.now c.in-Ok.value f.0 f.1)

pub returns-in-Err-NotJson-clause-reads : goal.returns-in-Err-NotJson-clause-reads
returns-in-Err-NotJson-clause-reads c = sym (document_none c.args.content.now (c.in-Err-NotJson.ensures.not_json (ap Err c.in-Err-NotJson.field-0-is)))

pub returns-in-Err-OutOfProfile-clause-reads : goal.returns-in-Err-OutOfProfile-clause-reads
returns-in-Err-OutOfProfile-clause-reads c =
    let f = c.in-Err-OutOfProfile.ensures.out_of_profile (ap Err c.in-Err-OutOfProfile.field-0-is) in sym (document_past c.args.content.now f.0 f.1 f.2)
