-- What is printed for each variant of a query.
use Rattle.std.proofs.Common.{◌≡◌, ℕ, ℤ, List, [], ◌∷◌, ◌++◌, map, Option, refl, sym, ap, ◌∙◌}
use Rattle.bt_lexer.specs.declared.token.Kind.TheVariants as k
use Rattle.bt_value.specs.declared.names.Op.{Op}
use Rattle.bt_value.specs.declared.names.PrefixOp.{PrefixOp}
use Rattle.bt_syntax.specs.declared.keywords.Keyword.TheVariants as w
use Rattle.bt_tree.specs.declared.tree.Word.{Word}
use Rattle.bt_tree.specs.declared.tree.Key.{Key}
use Rattle.bt_tree.specs.declared.tree.Query.{Query}
use Rattle.bt_tree.specs.declared.tree.Query.TheFolds.{fold-roll-Query}
use Rattle.bt_tree.specs.declared.tree.Query.TheOpen.{Query-F}
use Rattle.bt_tree.specs.declared.tree.Query.TheVariants as e
use Rattle.bt_tree.specs.declared.tree.Suffix.{Suffix}
use Rattle.bt_tree.specs.declared.tree.Arg.{Arg}
use Rattle.bt_tree.specs.declared.tree.Member.{Member}
use Rattle.bt_tree.specs.declared.tree.Term.{Term}
use Rattle.bt_tree.specs.declared.tree.Case.{Case}
use Rattle.bt_tree.specs.declared.tree.Branch.{Branch}
use Rattle.bt_tree.specs.Parts.{in_arg, in_member, in_term, in_case, in_branch, in_suffix, in_option}
use Rattle.bt_words.specs.Printing as print
use Rattle.bt_words.specs.Printing.{Piece, Space, Line, Token, Pieces, query_step, query}
use Rattle.bt_tree.proofs.MapLayers.{map-Call, map-Item, map-Match, map-If}

pub fused : {A B C : Type 0} (f : A → B) (g : B → C) (xs : List A) → map g (map f xs) ≡ map (λ x. g (f x)) xs
fused f g [] = refl
fused f g (x ∷ xs) = ap (λ ys. g (f x) ∷ ys) (fused f g xs)

abbrev pub of_arg : Arg Query → Pieces
of_arg x = print.arg (in_arg query x)

abbrev pub of_args : List (Arg Query) → Pieces
of_args xs = print.bracketed k.LeftParen k.RightParen (print.between print.comma (map of_arg xs))

abbrev pub of_member : Member Query → Pieces
of_member x = print.member (in_member query x)

abbrev pub of_suffix : Suffix Query → Pieces
of_suffix x = print.suffix (in_suffix query x)

abbrev pub of_term : Term Query → Pieces
of_term x = print.term (in_term query x)

abbrev pub of_case : Case Query → Pieces
of_case x = print.one_case (in_case query x)

abbrev pub of_branch : Branch Query → Pieces
of_branch x = print.branch (in_branch query x)

abbrev pub of_others : List (Branch Query) → Pieces
of_others xs = print.other_branches (map (in_branch query) xs)

abbrev pub of_last : Option Query → Pieces
of_last x = print.last_branch (in_option query x)

pub args_fused : (xs : List (Arg Query)) → print.args (map (in_arg query) xs) ≡ of_args xs
args_fused xs = ap (λ ys. print.bracketed k.LeftParen k.RightParen (print.between print.comma ys)) (fused (in_arg query) print.arg xs)

pub printed-Null : query e.Null ≡ print.keyword w.Null ∷ []
printed-Null = ap query (sym e.rolls-Null) ∙ fold-roll-Query Pieces query_step Query-F.Null

pub printed-True : query e.True ≡ print.keyword w.True ∷ []
printed-True = ap query (sym e.rolls-True) ∙ fold-roll-Query Pieces query_step Query-F.True

pub printed-False : query e.False ≡ print.keyword w.False ∷ []
printed-False = ap query (sym e.rolls-False) ∙ fold-roll-Query Pieces query_step Query-F.False

pub printed-Int : (n : ℤ) → query (e.Int n) ≡ Token (print.placeless k.Int (print.int_digits n)) ∷ []
printed-Int n = ap query (sym (e.rolls-Int n)) ∙ fold-roll-Query Pieces query_step (Query-F.Int n)

pub printed-Quoted : (v : Word) → query (e.Quoted v) ≡ print.text v.text ∷ []
printed-Quoted v = ap query (sym (e.rolls-Quoted v)) ∙ fold-roll-Query Pieces query_step (Query-F.Quoted v)

pub printed-This : query e.This ≡ print.keyword w.This ∷ []
printed-This = ap query (sym e.rolls-This) ∙ fold-roll-Query Pieces query_step Query-F.This

pub printed-Root : (at : ℕ) → query (e.Root at) ≡ print.keyword w.Root ∷ []
printed-Root at = ap query (sym (e.rolls-Root at)) ∙ fold-roll-Query Pieces query_step (Query-F.Root at)

pub printed-Name : (v : Word) → query (e.Name v) ≡ print.name v.text ∷ []
printed-Name v = ap query (sym (e.rolls-Name v)) ∙ fold-roll-Query Pieces query_step (Query-F.Name v)

pub printed-Var : (v : Word) → query (e.Var v) ≡ Token (print.placeless k.Var v.text) ∷ []
printed-Var v = ap query (sym (e.rolls-Var v)) ∙ fold-roll-Query Pieces query_step (Query-F.Var v)

pub printed-Metadata : query e.Metadata ≡ print.mark k.At ∷ []
printed-Metadata = ap query (sym e.rolls-Metadata) ∙ fold-roll-Query Pieces query_step Query-F.Metadata

pub printed-Meta : (x : Key) → query (e.Meta x) ≡ print.mark k.At ∷ Token (print.key_word x) ∷ []
printed-Meta x = ap query (sym (e.rolls-Meta x)) ∙ fold-roll-Query Pieces query_step (Query-F.Meta x)

pub printed-Call : (v : Word) (xs : List (Arg Query)) → query (e.Call v xs) ≡ print.name v.text ∷ of_args xs
printed-Call v xs = ap query (sym (e.rolls-Call v xs)) ∙ fold-roll-Query Pieces query_step (Query-F.Call v xs) ∙ ap query_step (map-Call query v xs) ∙ ap (λ p. print.name v.text ∷ p) (args_fused xs)

pub printed-Paren : (q : Query) → query (e.Paren q) ≡ print.bracketed k.LeftParen k.RightParen (query q)
printed-Paren q = ap query (sym (e.rolls-Paren q)) ∙ fold-roll-Query Pieces query_step (Query-F.Paren q)

pub printed-List : (qs : List Query) → query (e.List qs) ≡ print.bracketed k.LeftBracket k.RightBracket (print.between print.comma (map query qs))
printed-List qs = ap query (sym (e.rolls-List qs)) ∙ fold-roll-Query Pieces query_step (Query-F.List qs)

pub printed-Object : (xs : List (Member Query)) → query (e.Object xs) ≡ print.bracketed k.LeftBrace k.RightBrace (print.between print.comma (map of_member xs))
printed-Object xs = ap query (sym (e.rolls-Object xs)) ∙ fold-roll-Query Pieces query_step (Query-F.Object xs) ∙ ap (λ ys. print.bracketed k.LeftBrace k.RightBrace (print.between print.comma ys)) (fused (in_member query) print.member xs)

pub printed-Item : (q : Query) (xs : List (Suffix Query)) → query (e.Item q xs) ≡ query q ++ (print.gap_between (print.begins_with_digit (print.text_of (query q))) (print.begins_with_int (map (in_suffix query) xs)) ++ print.all_of (map of_suffix xs))
printed-Item q xs = ap query (sym (e.rolls-Item q xs)) ∙ fold-roll-Query Pieces query_step (Query-F.Item q xs) ∙ ap query_step (map-Item query q xs) ∙ ap (λ ys. query q ++ (print.gap_between (print.begins_with_digit (print.text_of (query q))) (print.begins_with_int (map (in_suffix query) xs)) ++ print.all_of ys)) (fused (in_suffix query) print.suffix xs)

pub printed-Prefix : (op : PrefixOp) (q : Query) → query (e.Prefix op q) ≡ print.mark (print.kind_of_prefix op) ∷ query q
printed-Prefix op q = ap query (sym (e.rolls-Prefix op q)) ∙ fold-roll-Query Pieces query_step (Query-F.Prefix op q)

pub printed-Product : (q : Query) (xs : List (Term Query)) → query (e.Product q xs) ≡ query q ++ print.all_of (map of_term xs)
printed-Product q xs = ap query (sym (e.rolls-Product q xs)) ∙ fold-roll-Query Pieces query_step (Query-F.Product q xs) ∙ ap (λ ys. query q ++ print.all_of ys) (fused (in_term query) print.term xs)

pub printed-Sum : (q : Query) (xs : List (Term Query)) → query (e.Sum q xs) ≡ query q ++ print.all_of (map of_term xs)
printed-Sum q xs = ap query (sym (e.rolls-Sum q xs)) ∙ fold-roll-Query Pieces query_step (Query-F.Sum q xs) ∙ ap (λ ys. query q ++ print.all_of ys) (fused (in_term query) print.term xs)

pub printed-Compare : (q : Query) (op : Op) (r : Query) → query (e.Compare q op r) ≡ query q ++ (print.spaced (print.kind_of_op op) ++ query r)
printed-Compare q op r = ap query (sym (e.rolls-Compare q op r)) ∙ fold-roll-Query Pieces query_step (Query-F.Compare q op r)

pub printed-And : (q : Query) (qs : List Query) → query (e.And q qs) ≡ query q ++ print.behind_each (print.spaced k.And) (map query qs)
printed-And q qs = ap query (sym (e.rolls-And q qs)) ∙ fold-roll-Query Pieces query_step (Query-F.And q qs)

pub printed-Or : (q : Query) (qs : List Query) → query (e.Or q qs) ≡ query q ++ print.behind_each (print.spaced k.Or) (map query qs)
printed-Or q qs = ap query (sym (e.rolls-Or q qs)) ∙ fold-roll-Query Pieces query_step (Query-F.Or q qs)

pub printed-Coalesce : (q : Query) (qs : List Query) → query (e.Coalesce q qs) ≡ query q ++ print.behind_each (print.spaced k.Pipe) (map query qs)
printed-Coalesce q qs = ap query (sym (e.rolls-Coalesce q qs)) ∙ fold-roll-Query Pieces query_step (Query-F.Coalesce q qs)

pub printed-Match : (x : Option Query) (xs : List (Case Query)) → query (e.Match x xs) ≡ print.keyword w.Match ∷ (print.subject (in_option query x) ++ print.block (print.between print.comma (map of_case xs)))
printed-Match x xs = ap query (sym (e.rolls-Match x xs)) ∙ fold-roll-Query Pieces query_step (Query-F.Match x xs) ∙ ap query_step (map-Match query x xs) ∙ ap (λ ys. print.keyword w.Match ∷ (print.subject (in_option query x) ++ print.block (print.between print.comma ys))) (fused (in_case query) print.one_case xs)

pub printed-If : (xs : List (Branch Query)) (x : Option Query) → query (e.If xs x) ≡ print.branches (map (in_branch query) xs) (in_option query x)
printed-If xs x = ap query (sym (e.rolls-If xs x)) ∙ fold-roll-Query Pieces query_step (Query-F.If xs x) ∙ ap query_step (map-If query xs x)
