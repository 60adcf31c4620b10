use Rattle.regex.proofs.ReplaceLemmas.{IfOk-weaker}
use Rattle.regex.specs.Strings.{IsWrittenBy}
use Rattle.std.proofs.Common.{string_bytes}
use Rattle.bt_matches.proofs.Meanings.{rewritten_from}
use Rattle.bt_matches.proofs.patterns.rewritten.Goals as goal

pub returns : goal.returns
returns c =
    IfOk-weaker (λ out. IsWrittenBy c.in_ok-template.template _ _ (string_bytes out)) _
    (λ out written. rewritten_from _ _ c.args.text.now c.args.template.now _ _ (string_bytes out) c.regex-regex.ensures (λ k. (c.type_inv.text k).fits)
    c.in_ok-matcher.ensures.pattern c.capture_names.ensures (written.read _ _ c.in_ok-template.ensures.read)) _ c.replace_all.ensures.written
