-- What agrees layer by layer is the same without its places.
use Rattle.std.proofs.Common.{◌≡◌, ◌≢◌, ◌↔◌, ℤ, ℕ, List, [], ◌∷◌, map, length, Option, Some, None, IsTrue, false, refl, sym, ap, ap₂, ◌∙◌, suc}
use Rattle.bt_value.specs.declared.names.Op.{Op}
use Rattle.bt_value.specs.declared.names.PrefixOp.{PrefixOp}
use Rattle.bt_tree.specs.declared.tree.Word.{Word}
use Rattle.bt_tree.specs.declared.tree.Key.{Key}
use Rattle.bt_tree.specs.declared.tree.Query.{Query, out-Query, roll-Query}
use Rattle.bt_tree.specs.declared.tree.Query.TheOpen.{Query-F}
use Rattle.bt_tree.specs.declared.tree.Suffix.{Suffix}
use Rattle.bt_tree.specs.declared.tree.Suffix.TheVariants as s
use Rattle.bt_tree.specs.declared.tree.Arg.{Arg}
use Rattle.bt_tree.specs.declared.tree.Arg.TheVariants as a
use Rattle.bt_tree.specs.declared.tree.Member.{Member}
use Rattle.bt_tree.specs.declared.tree.Term.{Term}
use Rattle.bt_tree.specs.declared.tree.Case.{Case}
use Rattle.bt_tree.specs.declared.tree.Case.TheVariants as case
use Rattle.bt_tree.specs.declared.tree.Branch.{Branch}
use Rattle.bt_tree.specs.declared.tree.MapStmt.{MapStmt}
use Rattle.bt_tree.specs.declared.tree.MapStmt.TheVariants as ms
use Rattle.bt_tree.specs.declared.tree.Mapping.{Mapping}
use Rattle.bt_tree.specs.declared.tree.Mapping.TheVariants as m
use Rattle.bt_tree.specs.declared.tree.Stmt.{Stmt}
use Rattle.bt_tree.specs.declared.tree.Stmt.TheVariants as st
use Rattle.bt_tree.specs.Same.{query_erased, word_erased, map_stmt_erased, stmt_erased, mapping_erased}
use Rattle.bt_tree.specs.Parts.{in_member, in_term, in_case, in_branch, in_option, arg_erased, part_erased}
use Rattle.bt_tree.proofs.LayerErased.{layer, layer_erased, roll_out}
use Rattle.bt_same.specs.Layers.{Each, SameQuery, SameOption, SameArg, SameMember, SameTerm, SameCase, SameBranch, SameSuffix, AreSame, SameKey, SameMapStmt, SameStmt, SameMapping, RootStmt, MetaStmt, LetStmt, AMapStmt, SuffixName, SuffixQuoted, SuffixInt, SuffixMethod, SuffixWithin, InNull, InTrue, InFalse, InInt, InQuoted, InThis, InRoot, InName, InVar, InMetadata, InMeta, InCall, InParen, InList, InObject, InItem, InPrefix, InProduct, InSum, InCompare, InAnd, InOr, InCoalesce, InMatch, InIf}

pub each_lengths : {A : Type 0} (R : A → A → Type 0) (xs ys : List A) → Each R xs ys → length xs ≡ length ys
each_lengths R [] [] h = refl
each_lengths R [] (y ∷ ys) h = absurd h
each_lengths R (x ∷ xs) [] h = absurd h
each_lengths R (x ∷ xs) (y ∷ ys) h = ap suc (each_lengths R xs ys h.1)

-- lists of different lengths
pub apart : {A : Type 0} (R : A → A → Type 0) (xs ys : List A) → length xs ≢ length ys → IsTrue false ↔ Each R xs ys
apart R xs ys differ = ((λ h. cc), (λ h. absurd (differ (each_lengths R xs ys h))))

each_law : {A B : Type 0} (f : A → B) (R : A → A → Type 0) → ((x y : A) → R x y ↔ (f x ≡ f y)) → (xs ys : List A) → Each R xs ys ↔ (map f xs ≡ map f ys)
each_law f R law [] [] = ((λ _. refl), (λ _. tt))
each_law f R law [] (y ∷ ys) = ((λ h. absurd h), (λ e. cc))
each_law f R law (x ∷ xs) [] = ((λ h. absurd h), (λ e. cc))
each_law f R law (x ∷ xs) (y ∷ ys) =
    let one = law x y in
    let others = each_law f R law xs ys in (
      (λ h. ap₂ (λ z zs. z ∷ zs) (one.0 h.0) (others.0 h.1)),
      (λ e. let first : f x ≡ f y = cc in let rest : map f xs ≡ map f ys = cc in (one.1 first, others.1 rest)),
    )

word_law : (v w : Word) → (v.text ≡ w.text) ↔ (word_erased v ≡ word_erased w)
word_law v w = ((λ e. ap (λ t. record { at = 0; text = t }) e), (λ e. ap (λ (x : Word). x.text) e))

query_same : (p q : Query) → SameQuery p q ↔ (query_erased p ≡ query_erased q)
query_same p q = ((λ h. h), (λ h. h))

option_law : (x y : Option Query) → SameOption x y ↔ (in_option query_erased x ≡ in_option query_erased y)
option_law None None = ((λ _. refl), (λ _. tt))
option_law None (Some q) = ((λ h. absurd h), (λ e. cc))
option_law (Some p) None = ((λ h. absurd h), (λ e. cc))
option_law (Some p) (Some q) = ((λ h. ap Some h), (λ e. cc))

arg_law : (x y : Arg Query) → SameArg x y ↔ (arg_erased x ≡ arg_erased y)
arg_law (a.Query p) (a.Query q) = ((λ h. ap a.Query h), (λ e. cc))
arg_law (a.Query p) (a.Lambda n q) = ((λ h. absurd h), (λ e. cc))
arg_law (a.Lambda m p) (a.Query q) = ((λ h. absurd h), (λ e. cc))
arg_law (a.Lambda m p) (a.Lambda n q) =
    ((λ h. ap₂ a.Lambda h.0 h.1), (λ e. let name : m ≡ n = cc in let same : query_erased p ≡ query_erased q = cc in (name, same)))

member_law : (x y : Member Query) → SameMember x y ↔ (in_member query_erased x ≡ in_member query_erased y)
member_law x y = ((λ h. ap₂ (λ u q. record { key = u; query = q }) h.0 h.1), (λ e. (ap (λ (z : Member Query). z.key) e, ap (λ (z : Member Query). z.query) e)))

term_law : (x y : Term Query) → SameTerm x y ↔ (in_term query_erased x ≡ in_term query_erased y)
term_law x y = ((λ h. ap₂ (λ o q. record { op = o; query = q }) h.0 h.1), (λ e. (ap (λ (z : Term Query). z.op) e, ap (λ (z : Term Query). z.query) e)))

branch_law : (x y : Branch Query) → SameBranch x y ↔ (in_branch query_erased x ≡ in_branch query_erased y)
branch_law x y = ((λ h. ap₂ (λ p q. record { test = p; gives = q }) h.0 h.1), (λ e. (ap (λ (z : Branch Query). z.test) e, ap (λ (z : Branch Query). z.gives) e)))

case_law : (x y : Case Query) → SameCase x y ↔ (in_case query_erased x ≡ in_case query_erased y)
case_law (case.Any p) (case.Any q) = ((λ h. ap case.Any h), (λ e. cc))
case_law (case.Any p) (case.When r q) = ((λ h. absurd h), (λ e. cc))
case_law (case.When r p) (case.Any q) = ((λ h. absurd h), (λ e. cc))
case_law (case.When o p) (case.When r q) =
    ((λ h. ap₂ case.When h.0 h.1), (λ e. let test : query_erased o ≡ query_erased r = cc in let gives : query_erased p ≡ query_erased q = cc in (test, gives)))

suffix_Name : (x0 : List ℕ) (y : Suffix Query) → SuffixName x0 y ↔ (part_erased (s.Name x0) ≡ part_erased y)
suffix_Name x0 (s.Name y0) = ((λ h. ap s.Name h), (λ e. let e0 : x0 ≡ y0 = cc in e0))
suffix_Name x0 _ = ((λ h. absurd h), (λ e. cc))

suffix_Quoted : (x0 : List ℕ) (y : Suffix Query) → SuffixQuoted x0 y ↔ (part_erased (s.Quoted x0) ≡ part_erased y)
suffix_Quoted x0 (s.Quoted y0) = ((λ h. ap s.Quoted h), (λ e. let e0 : x0 ≡ y0 = cc in e0))
suffix_Quoted x0 _ = ((λ h. absurd h), (λ e. cc))

suffix_Int : (x0 : ℤ) (y : Suffix Query) → SuffixInt x0 y ↔ (part_erased (s.Int x0) ≡ part_erased y)
suffix_Int x0 (s.Int y0) = ((λ h. ap s.Int h), (λ e. let e0 : x0 ≡ y0 = cc in e0))
suffix_Int x0 _ = ((λ h. absurd h), (λ e. cc))

suffix_Method : (x0 : Word) (x1 : List (Arg Query)) (y : Suffix Query) → SuffixMethod x0 x1 y ↔ (part_erased (s.Method x0 x1) ≡ part_erased y)
suffix_Method x0 x1 (s.Method y0 y1) = ((λ h. ap₂ s.Method ((word_law x0 y0).0 h.0) ((each_law arg_erased SameArg arg_law x1 y1).0 h.1)), (λ e. let e0 : word_erased x0 ≡ word_erased y0 = cc in let e1 : map arg_erased x1 ≡ map arg_erased y1 = cc in ((word_law x0 y0).1 e0, (each_law arg_erased SameArg arg_law x1 y1).1 e1)))
suffix_Method x0 x1 _ = ((λ h. absurd h), (λ e. cc))

suffix_Within : (x0 : Arg Query) (y : Suffix Query) → SuffixWithin x0 y ↔ (part_erased (s.Within x0) ≡ part_erased y)
suffix_Within x0 (s.Within y0) = ((λ h. ap s.Within ((arg_law x0 y0).0 h)), (λ e. let e0 : arg_erased x0 ≡ arg_erased y0 = cc in (arg_law x0 y0).1 e0))
suffix_Within x0 _ = ((λ h. absurd h), (λ e. cc))

suffix_law : (x y : Suffix Query) → SameSuffix x y ↔ (part_erased x ≡ part_erased y)
suffix_law (s.Name x0) y = suffix_Name x0 y
suffix_law (s.Quoted x0) y = suffix_Quoted x0 y
suffix_law (s.Int x0) y = suffix_Int x0 y
suffix_law (s.Method x0 x1) y = suffix_Method x0 x1 y
suffix_law (s.Within x0) y = suffix_Within x0 y

in_Null : (y : Query-F Query) → InNull y ↔ (layer_erased Query-F.Null ≡ layer_erased y)
in_Null (Query-F.Null) = ((λ _. refl), (λ _. tt))
in_Null _ = ((λ h. absurd h), (λ e. cc))

in_True : (y : Query-F Query) → InTrue y ↔ (layer_erased Query-F.True ≡ layer_erased y)
in_True (Query-F.True) = ((λ _. refl), (λ _. tt))
in_True _ = ((λ h. absurd h), (λ e. cc))

in_False : (y : Query-F Query) → InFalse y ↔ (layer_erased Query-F.False ≡ layer_erased y)
in_False (Query-F.False) = ((λ _. refl), (λ _. tt))
in_False _ = ((λ h. absurd h), (λ e. cc))

in_Int : (x0 : ℤ) (y : Query-F Query) → InInt x0 y ↔ (layer_erased (Query-F.Int x0) ≡ layer_erased y)
in_Int x0 (Query-F.Int y0) = ((λ h. ap Query-F.Int h), (λ e. let e0 : x0 ≡ y0 = cc in e0))
in_Int x0 _ = ((λ h. absurd h), (λ e. cc))

in_Quoted : (x0 : Word) (y : Query-F Query) → InQuoted x0 y ↔ (layer_erased (Query-F.Quoted x0) ≡ layer_erased y)
in_Quoted x0 (Query-F.Quoted y0) = ((λ h. ap Query-F.Quoted ((word_law x0 y0).0 h)), (λ e. let e0 : word_erased x0 ≡ word_erased y0 = cc in (word_law x0 y0).1 e0))
in_Quoted x0 _ = ((λ h. absurd h), (λ e. cc))

in_This : (y : Query-F Query) → InThis y ↔ (layer_erased Query-F.This ≡ layer_erased y)
in_This (Query-F.This) = ((λ _. refl), (λ _. tt))
in_This _ = ((λ h. absurd h), (λ e. cc))

in_Root : (x0 : ℕ) (y : Query-F Query) → InRoot x0 y ↔ (layer_erased (Query-F.Root x0) ≡ layer_erased y)
in_Root x0 (Query-F.Root y0) = ((λ _. refl), (λ _. tt))
in_Root x0 _ = ((λ h. absurd h), (λ e. cc))

in_Name : (x0 : Word) (y : Query-F Query) → InName x0 y ↔ (layer_erased (Query-F.Name x0) ≡ layer_erased y)
in_Name x0 (Query-F.Name y0) = ((λ h. ap Query-F.Name ((word_law x0 y0).0 h)), (λ e. let e0 : word_erased x0 ≡ word_erased y0 = cc in (word_law x0 y0).1 e0))
in_Name x0 _ = ((λ h. absurd h), (λ e. cc))

in_Var : (x0 : Word) (y : Query-F Query) → InVar x0 y ↔ (layer_erased (Query-F.Var x0) ≡ layer_erased y)
in_Var x0 (Query-F.Var y0) = ((λ h. ap Query-F.Var ((word_law x0 y0).0 h)), (λ e. let e0 : word_erased x0 ≡ word_erased y0 = cc in (word_law x0 y0).1 e0))
in_Var x0 _ = ((λ h. absurd h), (λ e. cc))

in_Metadata : (y : Query-F Query) → InMetadata y ↔ (layer_erased Query-F.Metadata ≡ layer_erased y)
in_Metadata (Query-F.Metadata) = ((λ _. refl), (λ _. tt))
in_Metadata _ = ((λ h. absurd h), (λ e. cc))

in_Meta : (x0 : Key) (y : Query-F Query) → InMeta x0 y ↔ (layer_erased (Query-F.Meta x0) ≡ layer_erased y)
in_Meta x0 (Query-F.Meta y0) = ((λ h. ap Query-F.Meta h), (λ e. let e0 : x0 ≡ y0 = cc in e0))
in_Meta x0 _ = ((λ h. absurd h), (λ e. cc))

in_Call : (x0 : Word) (x1 : List (Arg Query)) (y : Query-F Query) → InCall x0 x1 y ↔ (layer_erased (Query-F.Call x0 x1) ≡ layer_erased y)
in_Call x0 x1 (Query-F.Call y0 y1) = ((λ h. ap₂ Query-F.Call ((word_law x0 y0).0 h.0) ((each_law arg_erased SameArg arg_law x1 y1).0 h.1)), (λ e. let e0 : word_erased x0 ≡ word_erased y0 = cc in let e1 : map arg_erased x1 ≡ map arg_erased y1 = cc in ((word_law x0 y0).1 e0, (each_law arg_erased SameArg arg_law x1 y1).1 e1)))
in_Call x0 x1 _ = ((λ h. absurd h), (λ e. cc))

in_Paren : (x0 : Query) (y : Query-F Query) → InParen x0 y ↔ (layer_erased (Query-F.Paren x0) ≡ layer_erased y)
in_Paren x0 (Query-F.Paren y0) = ((λ h. ap Query-F.Paren ((query_same x0 y0).0 h)), (λ e. let e0 : query_erased x0 ≡ query_erased y0 = cc in (query_same x0 y0).1 e0))
in_Paren x0 _ = ((λ h. absurd h), (λ e. cc))

in_List : (x0 : List Query) (y : Query-F Query) → InList x0 y ↔ (layer_erased (Query-F.List x0) ≡ layer_erased y)
in_List x0 (Query-F.List y0) = ((λ h. ap Query-F.List ((each_law query_erased SameQuery query_same x0 y0).0 h)), (λ e. let e0 : map query_erased x0 ≡ map query_erased y0 = cc in (each_law query_erased SameQuery query_same x0 y0).1 e0))
in_List x0 _ = ((λ h. absurd h), (λ e. cc))

in_Object : (x0 : List (Member Query)) (y : Query-F Query) → InObject x0 y ↔ (layer_erased (Query-F.Object x0) ≡ layer_erased y)
in_Object x0 (Query-F.Object y0) = ((λ h. ap Query-F.Object ((each_law (in_member query_erased) SameMember member_law x0 y0).0 h)), (λ e. let e0 : map (in_member query_erased) x0 ≡ map (in_member query_erased) y0 = cc in (each_law (in_member query_erased) SameMember member_law x0 y0).1 e0))
in_Object x0 _ = ((λ h. absurd h), (λ e. cc))

in_Item : (x0 : Query) (x1 : List (Suffix Query)) (y : Query-F Query) → InItem x0 x1 y ↔ (layer_erased (Query-F.Item x0 x1) ≡ layer_erased y)
in_Item x0 x1 (Query-F.Item y0 y1) = ((λ h. ap₂ Query-F.Item ((query_same x0 y0).0 h.0) ((each_law part_erased SameSuffix suffix_law x1 y1).0 h.1)), (λ e. let e0 : query_erased x0 ≡ query_erased y0 = cc in let e1 : map part_erased x1 ≡ map part_erased y1 = cc in ((query_same x0 y0).1 e0, (each_law part_erased SameSuffix suffix_law x1 y1).1 e1)))
in_Item x0 x1 _ = ((λ h. absurd h), (λ e. cc))

in_Prefix : (x0 : PrefixOp) (x1 : Query) (y : Query-F Query) → InPrefix x0 x1 y ↔ (layer_erased (Query-F.Prefix x0 x1) ≡ layer_erased y)
in_Prefix x0 x1 (Query-F.Prefix y0 y1) = ((λ h. ap₂ Query-F.Prefix h.0 ((query_same x1 y1).0 h.1)), (λ e. let e0 : x0 ≡ y0 = cc in let e1 : query_erased x1 ≡ query_erased y1 = cc in (e0, (query_same x1 y1).1 e1)))
in_Prefix x0 x1 _ = ((λ h. absurd h), (λ e. cc))

in_Product : (x0 : Query) (x1 : List (Term Query)) (y : Query-F Query) → InProduct x0 x1 y ↔ (layer_erased (Query-F.Product x0 x1) ≡ layer_erased y)
in_Product x0 x1 (Query-F.Product y0 y1) = ((λ h. ap₂ Query-F.Product ((query_same x0 y0).0 h.0) ((each_law (in_term query_erased) SameTerm term_law x1 y1).0 h.1)), (λ e. let e0 : query_erased x0 ≡ query_erased y0 = cc in let e1 : map (in_term query_erased) x1 ≡ map (in_term query_erased) y1 = cc in ((query_same x0 y0).1 e0, (each_law (in_term query_erased) SameTerm term_law x1 y1).1 e1)))
in_Product x0 x1 _ = ((λ h. absurd h), (λ e. cc))

in_Sum : (x0 : Query) (x1 : List (Term Query)) (y : Query-F Query) → InSum x0 x1 y ↔ (layer_erased (Query-F.Sum x0 x1) ≡ layer_erased y)
in_Sum x0 x1 (Query-F.Sum y0 y1) = ((λ h. ap₂ Query-F.Sum ((query_same x0 y0).0 h.0) ((each_law (in_term query_erased) SameTerm term_law x1 y1).0 h.1)), (λ e. let e0 : query_erased x0 ≡ query_erased y0 = cc in let e1 : map (in_term query_erased) x1 ≡ map (in_term query_erased) y1 = cc in ((query_same x0 y0).1 e0, (each_law (in_term query_erased) SameTerm term_law x1 y1).1 e1)))
in_Sum x0 x1 _ = ((λ h. absurd h), (λ e. cc))

in_Compare : (x0 : Query) (x1 : Op) (x2 : Query) (y : Query-F Query) → InCompare x0 x1 x2 y ↔ (layer_erased (Query-F.Compare x0 x1 x2) ≡ layer_erased y)
in_Compare x0 x1 x2 (Query-F.Compare y0 y1 y2) = ((λ h. ap₂ (λ u v. u v) (ap₂ Query-F.Compare ((query_same x0 y0).0 h.0) h.1) ((query_same x2 y2).0 h.2)), (λ e. let e0 : query_erased x0 ≡ query_erased y0 = cc in let e1 : x1 ≡ y1 = cc in let e2 : query_erased x2 ≡ query_erased y2 = cc in ((query_same x0 y0).1 e0, e1, (query_same x2 y2).1 e2)))
in_Compare x0 x1 x2 _ = ((λ h. absurd h), (λ e. cc))

in_And : (x0 : Query) (x1 : List Query) (y : Query-F Query) → InAnd x0 x1 y ↔ (layer_erased (Query-F.And x0 x1) ≡ layer_erased y)
in_And x0 x1 (Query-F.And y0 y1) = ((λ h. ap₂ Query-F.And ((query_same x0 y0).0 h.0) ((each_law query_erased SameQuery query_same x1 y1).0 h.1)), (λ e. let e0 : query_erased x0 ≡ query_erased y0 = cc in let e1 : map query_erased x1 ≡ map query_erased y1 = cc in ((query_same x0 y0).1 e0, (each_law query_erased SameQuery query_same x1 y1).1 e1)))
in_And x0 x1 _ = ((λ h. absurd h), (λ e. cc))

in_Or : (x0 : Query) (x1 : List Query) (y : Query-F Query) → InOr x0 x1 y ↔ (layer_erased (Query-F.Or x0 x1) ≡ layer_erased y)
in_Or x0 x1 (Query-F.Or y0 y1) = ((λ h. ap₂ Query-F.Or ((query_same x0 y0).0 h.0) ((each_law query_erased SameQuery query_same x1 y1).0 h.1)), (λ e. let e0 : query_erased x0 ≡ query_erased y0 = cc in let e1 : map query_erased x1 ≡ map query_erased y1 = cc in ((query_same x0 y0).1 e0, (each_law query_erased SameQuery query_same x1 y1).1 e1)))
in_Or x0 x1 _ = ((λ h. absurd h), (λ e. cc))

in_Coalesce : (x0 : Query) (x1 : List Query) (y : Query-F Query) → InCoalesce x0 x1 y ↔ (layer_erased (Query-F.Coalesce x0 x1) ≡ layer_erased y)
in_Coalesce x0 x1 (Query-F.Coalesce y0 y1) = ((λ h. ap₂ Query-F.Coalesce ((query_same x0 y0).0 h.0) ((each_law query_erased SameQuery query_same x1 y1).0 h.1)), (λ e. let e0 : query_erased x0 ≡ query_erased y0 = cc in let e1 : map query_erased x1 ≡ map query_erased y1 = cc in ((query_same x0 y0).1 e0, (each_law query_erased SameQuery query_same x1 y1).1 e1)))
in_Coalesce x0 x1 _ = ((λ h. absurd h), (λ e. cc))

in_Match : (x0 : Option Query) (x1 : List (Case Query)) (y : Query-F Query) → InMatch x0 x1 y ↔ (layer_erased (Query-F.Match x0 x1) ≡ layer_erased y)
in_Match x0 x1 (Query-F.Match y0 y1) = ((λ h. ap₂ Query-F.Match ((option_law x0 y0).0 h.0) ((each_law (in_case query_erased) SameCase case_law x1 y1).0 h.1)), (λ e. let e0 : in_option query_erased x0 ≡ in_option query_erased y0 = cc in let e1 : map (in_case query_erased) x1 ≡ map (in_case query_erased) y1 = cc in ((option_law x0 y0).1 e0, (each_law (in_case query_erased) SameCase case_law x1 y1).1 e1)))
in_Match x0 x1 _ = ((λ h. absurd h), (λ e. cc))

in_If : (x0 : List (Branch Query)) (x1 : Option Query) (y : Query-F Query) → InIf x0 x1 y ↔ (layer_erased (Query-F.If x0 x1) ≡ layer_erased y)
in_If x0 x1 (Query-F.If y0 y1) = ((λ h. ap₂ Query-F.If ((each_law (in_branch query_erased) SameBranch branch_law x0 y0).0 h.0) ((option_law x1 y1).0 h.1)), (λ e. let e0 : map (in_branch query_erased) x0 ≡ map (in_branch query_erased) y0 = cc in let e1 : in_option query_erased x1 ≡ in_option query_erased y1 = cc in ((each_law (in_branch query_erased) SameBranch branch_law x0 y0).1 e0, (option_law x1 y1).1 e1)))
in_If x0 x1 _ = ((λ h. absurd h), (λ e. cc))

same_law : (x y : Query-F Query) → AreSame x y ↔ (layer_erased x ≡ layer_erased y)
same_law Query-F.Null y = in_Null y
same_law Query-F.True y = in_True y
same_law Query-F.False y = in_False y
same_law (Query-F.Int x0) y = in_Int x0 y
same_law (Query-F.Quoted x0) y = in_Quoted x0 y
same_law Query-F.This y = in_This y
same_law (Query-F.Root x0) y = in_Root x0 y
same_law (Query-F.Name x0) y = in_Name x0 y
same_law (Query-F.Var x0) y = in_Var x0 y
same_law Query-F.Metadata y = in_Metadata y
same_law (Query-F.Meta x0) y = in_Meta x0 y
same_law (Query-F.Call x0 x1) y = in_Call x0 x1 y
same_law (Query-F.Paren x0) y = in_Paren x0 y
same_law (Query-F.List x0) y = in_List x0 y
same_law (Query-F.Object x0) y = in_Object x0 y
same_law (Query-F.Item x0 x1) y = in_Item x0 x1 y
same_law (Query-F.Prefix x0 x1) y = in_Prefix x0 x1 y
same_law (Query-F.Product x0 x1) y = in_Product x0 x1 y
same_law (Query-F.Sum x0 x1) y = in_Sum x0 x1 y
same_law (Query-F.Compare x0 x1 x2) y = in_Compare x0 x1 x2 y
same_law (Query-F.And x0 x1) y = in_And x0 x1 y
same_law (Query-F.Or x0 x1) y = in_Or x0 x1 y
same_law (Query-F.Coalesce x0 x1) y = in_Coalesce x0 x1 y
same_law (Query-F.Match x0 x1) y = in_Match x0 x1 y
same_law (Query-F.If x0 x1) y = in_If x0 x1 y

-- two queries are the same without their places where their layers agree
pub query_law : (p q : Query) → AreSame (out-Query p) (out-Query q) ↔ (query_erased p ≡ query_erased q)
query_law p q =
    let same = same_law (out-Query p) (out-Query q) in (
      (λ h. sym (roll_out (query_erased p)) ∙ ap roll-Query (layer p ∙ same.0 h ∙ sym (layer q)) ∙ roll_out (query_erased q)),
      (λ e. same.1 (sym (layer p) ∙ ap out-Query e ∙ layer q)),
    )

-- ---- statements

keys_law : (xs ys : List Key) → Each SameKey xs ys ↔ (xs ≡ ys)
keys_law [] [] = ((λ _. refl), (λ _. tt))
keys_law [] (y ∷ ys) = ((λ h. absurd h), (λ e. cc))
keys_law (x ∷ xs) [] = ((λ h. absurd h), (λ e. cc))
keys_law (x ∷ xs) (y ∷ ys) =
    let others = keys_law xs ys in (
      (λ h. ap₂ (λ z zs. z ∷ zs) h.0 (others.0 h.1)),
      (λ e. let first : x ≡ y = cc in let rest : xs ≡ ys = cc in (first, others.1 rest)),
    )

map_stmt_law : (x y : MapStmt) → SameMapStmt x y ↔ (map_stmt_erased x ≡ map_stmt_erased y)
map_stmt_law (ms.Root at xs p) (ms.Root at' ys q) = (
  (λ h. ap₂ (λ u v. ms.Root 0 u v) ((keys_law xs ys).0 h.0) h.1),
  (λ e. let keys : xs ≡ ys = cc in let same : query_erased p ≡ query_erased q = cc in ((keys_law xs ys).1 keys, same)),
)
map_stmt_law (ms.Root at xs p) (ms.Let name q) = ((λ h. absurd h), (λ e. cc))
map_stmt_law (ms.Let name p) (ms.Root at ys q) = ((λ h. absurd h), (λ e. cc))
map_stmt_law (ms.Let x p) (ms.Let y q) =
    ((λ h. ap₂ ms.Let h.0 h.1), (λ e. let name : x ≡ y = cc in let same : query_erased p ≡ query_erased q = cc in (name, same)))

root_law : (at line : ℕ) (xs : List Key) (p : Query) (y : Stmt) → RootStmt xs p y ↔ (stmt_erased (st.Root at line xs p) ≡ stmt_erased y)
root_law at line xs p (st.Root at' line' ys q) = (
  (λ h. ap₂ (λ u v. st.Root 0 0 u v) ((keys_law xs ys).0 h.0) h.1),
  (λ e. let keys : xs ≡ ys = cc in let same : query_erased p ≡ query_erased q = cc in ((keys_law xs ys).1 keys, same)),
)
root_law at line xs p _ = ((λ h. absurd h), (λ e. cc))

meta_law : (line : ℕ) (x : Option Key) (p : Query) (y : Stmt) → MetaStmt x p y ↔ (stmt_erased (st.Meta line x p) ≡ stmt_erased y)
meta_law line x p (st.Meta line' y q) =
    ((λ h. ap₂ (λ u v. st.Meta 0 u v) h.0 h.1), (λ e. let key : x ≡ y = cc in let same : query_erased p ≡ query_erased q = cc in (key, same)))
meta_law line x p _ = ((λ h. absurd h), (λ e. cc))

let_law : (line : ℕ) (x : List ℕ) (p : Query) (y : Stmt) → LetStmt x p y ↔ (stmt_erased (st.Let line x p) ≡ stmt_erased y)
let_law line x p (st.Let line' y q) =
    ((λ h. ap₂ (λ u v. st.Let 0 u v) h.0 h.1), (λ e. let name : x ≡ y = cc in let same : query_erased p ≡ query_erased q = cc in (name, same)))
let_law line x p _ = ((λ h. absurd h), (λ e. cc))

map_law : (at : ℕ) (x : List ℕ) (xs : List MapStmt) (y : Stmt) → AMapStmt x xs y ↔ (stmt_erased (st.Map at x xs) ≡ stmt_erased y)
map_law at x xs (st.Map at' y ys) =
    let bodies = each_law map_stmt_erased SameMapStmt map_stmt_law xs ys in (
      (λ h. ap₂ (λ u v. st.Map 0 u v) h.0 (bodies.0 h.1)),
      (λ e. let name : x ≡ y = cc in let same : map map_stmt_erased xs ≡ map map_stmt_erased ys = cc in (name, bodies.1 same)),
    )
map_law at x xs _ = ((λ h. absurd h), (λ e. cc))

stmt_law : (x y : Stmt) → SameStmt x y ↔ (stmt_erased x ≡ stmt_erased y)
stmt_law (st.Root at line xs p) y = root_law at line xs p y
stmt_law (st.Meta line x p) y = meta_law line x p y
stmt_law (st.Let line x p) y = let_law line x p y
stmt_law (st.Map at x xs) y = map_law at x xs y

pub mapping_law : (x y : Mapping) → SameMapping x y ↔ (mapping_erased x ≡ mapping_erased y)
mapping_law (m.Query line p) (m.Query line' q) = ((λ h. ap (λ u. m.Query 0 u) h), (λ e. cc))
mapping_law (m.Query line p) (m.Statements ys) = ((λ h. absurd h), (λ e. cc))
mapping_law (m.Statements xs) (m.Query line q) = ((λ h. absurd h), (λ e. cc))
mapping_law (m.Statements xs) (m.Statements ys) =
    let stmts = each_law stmt_erased SameStmt stmt_law xs ys in
    ((λ h. ap m.Statements (stmts.0 h)), (λ e. let same : map stmt_erased xs ≡ map stmt_erased ys = cc in stmts.1 same))
