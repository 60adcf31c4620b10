-- What an argument looks like from outside: a literal text, another query, or a lambda.
use Rattle.bt_tree.specs.declared.tree.Arg.{Arg}
use Rattle.bt_tree.specs.declared.tree.Arg.TheVariants as a
use Rattle.bt_tree.specs.declared.tree.Query.{Query, out-Query}
use Rattle.bt_tree.specs.declared.tree.Query.TheOpen.{Query-F}
use Rattle.bt_tree.specs.declared.tree.Word.{Word}

pub data Shape : Type 0 where
  text : Word → Shape
  query : Shape
  lambda : Shape

abbrev pub shape_in : {A : Type 0} → Query-F A → Shape
shape_in (Query-F.Quoted w) = text w
shape_in _ = query

abbrev pub shape : Arg Query → Shape
shape (a.Query q) = shape_in (out-Query q)
shape (a.Lambda name q) = lambda
