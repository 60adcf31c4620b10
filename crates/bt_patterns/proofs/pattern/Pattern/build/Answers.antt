use Rattle.bt_patterns.proofs.Meanings.{reads, refused}
use Rattle.bt_patterns.proofs.pattern.Pattern.build.Goals as goal

pub returns-in-Ok-clause-read : goal.returns-in-Ok-clause-read
returns-in-Ok-clause-read c =
    let made = c.in-Ok.ensures in
    reads c.in-Ok.regex c.args.text.now (record { is_source = made.source; is_config = made.config; is_read = made.read })

pub returns-in-Err-Syntax-clause-bad : goal.returns-in-Err-Syntax-clause-bad
returns-in-Err-Syntax-clause-bad c _ =
    let e = c.in-Err-Syntax.ensures in
    let is = c.in-Err-Syntax.field-0-is in
    refused c.args.text.now c.in-Err-Syntax.field-0-0.kind (e.by_grammar c.in-Err-Syntax.field-0-0 is) (rw is at e.kind)
