-- Line feeds while a text is read from the left.
use Rattle.std.specs.Prelude.{ℕ, List, ◌∷◌, ◌++◌, Some, None, if◌then◌else◌}
use Rattle.bt_lexer.specs.declared.token.Kind.TheVariants.{Nl}
use Rattle.bt_lexer.specs.declared.token.Token.{Token}
use Rattle.bt_lexer.specs.declared.lines.Behind.{Behind}
use Rattle.bt_lexer.specs.declared.lines.Behind.TheVariants as behinds
use Rattle.bt_lexer.specs.Lines.{hardened, is_soft_before}

-- the tokens of the text, if these were found up to a place and the rest is read as `us`
abbrev pub completed : List ℕ → List Token → Behind → List Token → List Token
completed s found behinds.Nothing us = found ++ hardened s None us
completed s found (behinds.Read k) us = found ++ hardened s (Some k) us
completed s found (behinds.Pending line) us = found ++ (if is_soft_before s us then hardened s (Some Nl) us else line ∷ hardened s (Some Nl) us)
