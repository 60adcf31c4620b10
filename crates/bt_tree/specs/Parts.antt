-- A function on the queries of the parts of a query, and parts without their places.
use Rattle.std.specs.Prelude.{map, Option, Some, None}
use Rattle.bt_tree.specs.declared.tree.Query.{Query}
use Rattle.bt_tree.specs.declared.tree.Suffix.{Suffix}
use Rattle.bt_tree.specs.declared.tree.Suffix.TheVariants as s
use Rattle.bt_tree.specs.declared.tree.Arg.{Arg}
use Rattle.bt_tree.specs.declared.tree.Arg.TheVariants as a
use Rattle.bt_tree.specs.declared.tree.Member.{Member}
use Rattle.bt_tree.specs.declared.tree.Term.{Term}
use Rattle.bt_tree.specs.declared.tree.Case.{Case}
use Rattle.bt_tree.specs.declared.tree.Case.TheVariants as case
use Rattle.bt_tree.specs.declared.tree.Branch.{Branch}
use Rattle.bt_tree.specs.Same.{query_erased, suffix_erased}

-- a function on the queries of a part
abbrev pub in_arg : {A B : Type 0} → (A → B) → Arg A → Arg B
in_arg f (a.Query q) = a.Query (f q)
in_arg f (a.Lambda name q) = a.Lambda name (f q)

abbrev pub in_member : {A B : Type 0} → (A → B) → Member A → Member B
in_member f x = record { key = x.key; query = f x.query }

abbrev pub in_term : {A B : Type 0} → (A → B) → Term A → Term B
in_term f x = record { op = x.op; query = f x.query }

abbrev pub in_case : {A B : Type 0} → (A → B) → Case A → Case B
in_case f (case.Any q) = case.Any (f q)
in_case f (case.When p q) = case.When (f p) (f q)

abbrev pub in_branch : {A B : Type 0} → (A → B) → Branch A → Branch B
in_branch f x = record { test = f x.test; gives = f x.gives }

abbrev pub in_suffix : {A B : Type 0} → (A → B) → Suffix A → Suffix B
in_suffix f (s.Name u) = s.Name u
in_suffix f (s.Quoted u) = s.Quoted u
in_suffix f (s.Int n) = s.Int n
in_suffix f (s.Method v xs) = s.Method v (map (in_arg f) xs)
in_suffix f (s.Within x) = s.Within (in_arg f x)

abbrev pub in_option : {A B : Type 0} → (A → B) → Option A → Option B
in_option f None = None
in_option f (Some x) = Some (f x)

abbrev pub arg_erased : Arg Query → Arg Query
arg_erased x = in_arg query_erased x

abbrev pub part_erased : Suffix Query → Suffix Query
part_erased x = suffix_erased (in_suffix query_erased x)
