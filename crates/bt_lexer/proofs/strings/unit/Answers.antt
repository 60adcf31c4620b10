use Rattle.std.proofs.Common.{sym, ◌∙◌}
use Rattle.bt_lexer.proofs.KindLemmas.{and_right}
use Rattle.bt_lexer.proofs.strings.unit.Goals as goal

pub hex_value-requires-in-len4-up-3 : goal.hex_value-requires-in-len4-up-3
hex_value-requires-in-len4-up-3 c = and_right _ _ (sym c.are_hex.ensures ∙ c.if-are_hex.true)
