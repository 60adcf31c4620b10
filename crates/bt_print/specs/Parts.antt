-- What is printed for each part of a mapping.
use Rattle.std.specs.Prelude.{[], ◌∷◌}
use Rattle.bt_lexer.specs.declared.token.Kind.TheVariants as k
use Rattle.bt_tree.specs.declared.tree.Key.{Key}
use Rattle.bt_tree.specs.declared.tree.Query.{Query}
use Rattle.bt_tree.specs.declared.tree.Suffix.{Suffix}
use Rattle.bt_tree.specs.declared.tree.Arg.{Arg}
use Rattle.bt_tree.specs.declared.tree.Member.{Member}
use Rattle.bt_tree.specs.declared.tree.Term.{Term}
use Rattle.bt_tree.specs.declared.tree.Case.{Case}
use Rattle.bt_tree.specs.declared.tree.Branch.{Branch}
use Rattle.bt_tree.specs.Parts.{in_arg, in_member, in_term, in_case, in_branch, in_suffix}
use Rattle.bt_words.specs.Printing as print
use Rattle.bt_words.specs.Printing.{Pieces, Token, query}

abbrev pub arg : Arg Query → Pieces
arg x = print.arg (in_arg query x)

abbrev pub member : Member Query → Pieces
member x = print.member (in_member query x)

abbrev pub suffix : Suffix Query → Pieces
suffix x = print.suffix (in_suffix query x)

abbrev pub term : Term Query → Pieces
term x = print.term (in_term query x)

abbrev pub one_case : Case Query → Pieces
one_case x = print.one_case (in_case query x)

abbrev pub branch : Branch Query → Pieces
branch x = print.branch (in_branch query x)

abbrev pub step : Key → Pieces
step x = print.mark k.Dot ∷ Token (print.key_word x) ∷ []
