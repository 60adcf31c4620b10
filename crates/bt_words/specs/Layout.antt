-- The text that is printed for a mapping.
use Rattle.std.specs.Prelude.{ℕ, List}
use Rattle.bt_tree.specs.declared.tree.Mapping.{Mapping}
use Rattle.bt_words.specs.Printing.{text_of, mapping}

abbrev pub printed : Mapping → List ℕ
printed x = text_of (mapping x)
