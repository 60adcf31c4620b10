-- The reserved names.
use Rattle.std.specs.Prelude.{ℕ, List, [], ◌∷◌, codes}
use Rattle.bt_syntax.specs.declared.keywords.Keyword.{Keyword}
use Rattle.bt_syntax.specs.declared.keywords.Keyword.TheVariants as w

-- each with its spelling
abbrev pub keywords : List (List ℕ × Keyword)
keywords =
    (codes "this", w.This) ∷ (codes "root", w.Root) ∷ (codes "match", w.Match) ∷ (codes "if", w.If) ∷ (codes "else", w.Else) ∷ (codes "true", w.True)
    ∷ (codes "false", w.False) ∷ (codes "null", w.Null) ∷ (codes "let", w.Let) ∷ (codes "meta", w.Meta) ∷ (codes "map", w.Map) ∷ (codes "_", w.Underscore)
    ∷ []
