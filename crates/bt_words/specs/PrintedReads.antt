-- That printed text is read as what it was printed for.
use Rattle.std.specs.Prelude.{◌≡◌, ℕ, List, None}
use Rattle.bt_lexer.specs.declared.token.Token.{Token}
use Rattle.bt_lexer.specs.Lines.{HasTokens}
use Rattle.bt_tree.specs.declared.tree.Mapping.{Mapping}
use Rattle.bt_syntax.specs.Brackets.{deep_at}
use Rattle.bt_syntax.specs.Grammar.{ReadsMapping}
use Rattle.bt_syntax.specs.Lexemes.{lexemes}
use Rattle.bt_tree.specs.Same.{IsSame}

-- The text is read as a mapping that is the same as x, and no bracket is the 65th open one.
pub record ReadsAs (x : Mapping) (s : List ℕ) : Type 0 where
  pub tokens : List Token
  pub has : HasTokens s tokens
  pub mapping : Mapping
  pub reads : ReadsMapping mapping (lexemes s tokens)
  pub same : IsSame x mapping
  pub shallow : deep_at 0 (lexemes s tokens) ≡ None
