-- The layer of each variant of a query.
use Rattle.std.proofs.Common.{◌≡◌, ℕ, ℤ, List, Option, rules}
use Rattle.bt_value.specs.declared.names.Op.{Op}
use Rattle.bt_value.specs.declared.names.PrefixOp.{PrefixOp}
use Rattle.bt_tree.specs.declared.tree.Word.{Word}
use Rattle.bt_tree.specs.declared.tree.Key.{Key}
use Rattle.bt_tree.specs.declared.tree.Query.{Query, out-Query, the_lemmas}
use Rattle.bt_tree.specs.declared.tree.Query.TheOpen.{Query-F}
use Rattle.bt_tree.specs.declared.tree.Query.TheVariants as e
use Rattle.bt_tree.specs.declared.tree.Suffix.{Suffix}
use Rattle.bt_tree.specs.declared.tree.Arg.{Arg}
use Rattle.bt_tree.specs.declared.tree.Member.{Member}
use Rattle.bt_tree.specs.declared.tree.Term.{Term}
use Rattle.bt_tree.specs.declared.tree.Case.{Case}
use Rattle.bt_tree.specs.declared.tree.Branch.{Branch}

pub out-Null : out-Query (e.Null) ≡ Query-F.Null
out-Null = search (rules, the_lemmas)

pub out-True : out-Query (e.True) ≡ Query-F.True
out-True = search (rules, the_lemmas)

pub out-False : out-Query (e.False) ≡ Query-F.False
out-False = search (rules, the_lemmas)

pub out-Int : (n : ℤ) → out-Query (e.Int n) ≡ Query-F.Int n
out-Int n = search (rules, the_lemmas)

pub out-Quoted : (v : Word) → out-Query (e.Quoted v) ≡ Query-F.Quoted v
out-Quoted v = search (rules, the_lemmas)

pub out-This : out-Query (e.This) ≡ Query-F.This
out-This = search (rules, the_lemmas)

pub out-Root : (at : ℕ) → out-Query (e.Root at) ≡ Query-F.Root at
out-Root at = search (rules, the_lemmas)

pub out-Name : (v : Word) → out-Query (e.Name v) ≡ Query-F.Name v
out-Name v = search (rules, the_lemmas)

pub out-Var : (v : Word) → out-Query (e.Var v) ≡ Query-F.Var v
out-Var v = search (rules, the_lemmas)

pub out-Metadata : out-Query (e.Metadata) ≡ Query-F.Metadata
out-Metadata = search (rules, the_lemmas)

pub out-Meta : (x : Key) → out-Query (e.Meta x) ≡ Query-F.Meta x
out-Meta x = search (rules, the_lemmas)

pub out-Call : (v : Word) (xs : List (Arg Query)) → out-Query (e.Call v xs) ≡ Query-F.Call v xs
out-Call v xs = search (rules, the_lemmas)

pub out-Paren : (q : Query) → out-Query (e.Paren q) ≡ Query-F.Paren q
out-Paren q = search (rules, the_lemmas)

pub out-List : (qs : List Query) → out-Query (e.List qs) ≡ Query-F.List qs
out-List qs = search (rules, the_lemmas)

pub out-Object : (xs : List (Member Query)) → out-Query (e.Object xs) ≡ Query-F.Object xs
out-Object xs = search (rules, the_lemmas)

pub out-Item : (q : Query) (xs : List (Suffix Query)) → out-Query (e.Item q xs) ≡ Query-F.Item q xs
out-Item q xs = search (rules, the_lemmas)

pub out-Prefix : (op : PrefixOp) (q : Query) → out-Query (e.Prefix op q) ≡ Query-F.Prefix op q
out-Prefix op q = search (rules, the_lemmas)

pub out-Product : (q : Query) (xs : List (Term Query)) → out-Query (e.Product q xs) ≡ Query-F.Product q xs
out-Product q xs = search (rules, the_lemmas)

pub out-Sum : (q : Query) (xs : List (Term Query)) → out-Query (e.Sum q xs) ≡ Query-F.Sum q xs
out-Sum q xs = search (rules, the_lemmas)

pub out-Compare : (q : Query) (op : Op) (r : Query) → out-Query (e.Compare q op r) ≡ Query-F.Compare q op r
out-Compare q op r = search (rules, the_lemmas)

pub out-And : (q : Query) (qs : List Query) → out-Query (e.And q qs) ≡ Query-F.And q qs
out-And q qs = search (rules, the_lemmas)

pub out-Or : (q : Query) (qs : List Query) → out-Query (e.Or q qs) ≡ Query-F.Or q qs
out-Or q qs = search (rules, the_lemmas)

pub out-Coalesce : (q : Query) (qs : List Query) → out-Query (e.Coalesce q qs) ≡ Query-F.Coalesce q qs
out-Coalesce q qs = search (rules, the_lemmas)

pub out-Match : (x : Option Query) (xs : List (Case Query)) → out-Query (e.Match x xs) ≡ Query-F.Match x xs
out-Match x xs = search (rules, the_lemmas)

pub out-If : (xs : List (Branch Query)) (x : Option Query) → out-Query (e.If xs x) ≡ Query-F.If xs x
out-If xs x = search (rules, the_lemmas)
