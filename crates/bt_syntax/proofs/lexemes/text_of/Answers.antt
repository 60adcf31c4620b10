use Rattle.std.proofs.Common.{Some, ap, ◌∙◌}
use Rattle.bt_lexer.specs.Kinds.{kind_of}
use Rattle.bt_syntax.proofs.VariableLemmas.{variable_begins}
use Rattle.bt_syntax.proofs.lexemes.text_of.Goals as goal

pub after_dollar-requires : goal.after_dollar-requires
after_dollar-requires c = variable_begins _ (ap kind_of c.piece-spelling.ensures ∙ c.requires.has ∙ ap (λ y. Some y) c.in-Var.is)
