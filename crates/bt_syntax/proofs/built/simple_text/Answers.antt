use Rattle.std.proofs.Common.{◌≡◌, true, rules}
use Rattle.bt_syntax.specs.BuiltTokens as parts
use Rattle.bt_syntax.proofs.BuiltLemmas.{text_found}
use Rattle.bt_syntax.proofs.built.simple_text.Goals as goal

pub returns : goal.returns
returns c =
    let simple : parts.is_simple c.args.word.now ≡ true = search rules in
    text_found c.args.word.now c.in_ok-text.text c.args.at simple c.in_ok-text.ensures
