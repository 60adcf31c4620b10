-- When two queries agree but for their places, layer by layer. Only the proofs use these words.
use Rattle.std.specs.Prelude.{◌≡◌, ℤ, ℕ, List, [], ◌∷◌, Option, Some, None}
use Rattle.bt_value.specs.declared.names.Op.{Op}
use Rattle.bt_value.specs.declared.names.PrefixOp.{PrefixOp}
use Rattle.bt_tree.specs.declared.tree.Word.{Word}
use Rattle.bt_tree.specs.declared.tree.Key.{Key}
use Rattle.bt_tree.specs.declared.tree.Query.{Query}
use Rattle.bt_tree.specs.declared.tree.Query.TheOpen.{Query-F}
use Rattle.bt_tree.specs.declared.tree.Suffix.{Suffix}
use Rattle.bt_tree.specs.declared.tree.Suffix.TheVariants as s
use Rattle.bt_tree.specs.declared.tree.Arg.{Arg}
use Rattle.bt_tree.specs.declared.tree.Arg.TheVariants as a
use Rattle.bt_tree.specs.declared.tree.Member.{Member}
use Rattle.bt_tree.specs.declared.tree.Term.{Term}
use Rattle.bt_tree.specs.declared.tree.Case.{Case}
use Rattle.bt_tree.specs.declared.tree.Case.TheVariants as case
use Rattle.bt_tree.specs.declared.tree.Branch.{Branch}
use Rattle.bt_tree.specs.declared.tree.MapStmt.{MapStmt}
use Rattle.bt_tree.specs.declared.tree.MapStmt.TheVariants as ms
use Rattle.bt_tree.specs.declared.tree.Mapping.{Mapping}
use Rattle.bt_tree.specs.declared.tree.Mapping.TheVariants as m
use Rattle.bt_tree.specs.declared.tree.Stmt.{Stmt}
use Rattle.bt_tree.specs.declared.tree.Stmt.TheVariants as st
use Rattle.bt_tree.specs.Same.{query_erased}

-- the members of two lists agree, and there are as many of one as of the other
abbrev pub Each : {A : Type 0} → (A → A → Type 0) → List A → List A → Type 0
Each R [] [] = Unit {0}
Each R [] (y ∷ ys) = ⊥
Each R (x ∷ xs) [] = ⊥
Each R (x ∷ xs) (y ∷ ys) = R x y × Each R xs ys

abbrev pub SameQuery : Query → Query → Type 0
SameQuery p q = query_erased p ≡ query_erased q

abbrev pub SameOption : Option Query → Option Query → Type 0
SameOption None None = Unit {0}
SameOption None (Some q) = ⊥
SameOption (Some p) None = ⊥
SameOption (Some p) (Some q) = SameQuery p q

abbrev pub SameArg : Arg Query → Arg Query → Type 0
SameArg (a.Query p) (a.Query q) = SameQuery p q
SameArg (a.Query p) (a.Lambda name q) = ⊥
SameArg (a.Lambda name p) (a.Query q) = ⊥
SameArg (a.Lambda m p) (a.Lambda n q) = (m ≡ n) × SameQuery p q

abbrev pub SameMember : Member Query → Member Query → Type 0
SameMember x y = (x.key ≡ y.key) × SameQuery x.query y.query

abbrev pub SameTerm : Term Query → Term Query → Type 0
SameTerm x y = (x.op ≡ y.op) × SameQuery x.query y.query

abbrev pub SameCase : Case Query → Case Query → Type 0
SameCase (case.Any p) (case.Any q) = SameQuery p q
SameCase (case.Any p) (case.When r q) = ⊥
SameCase (case.When r p) (case.Any q) = ⊥
SameCase (case.When o p) (case.When r q) = SameQuery o r × SameQuery p q

abbrev pub SameBranch : Branch Query → Branch Query → Type 0
SameBranch x y = SameQuery x.test y.test × SameQuery x.gives y.gives

abbrev pub SuffixName : List ℕ → Suffix Query → Type 0
SuffixName x0 (s.Name y0) = x0 ≡ y0
SuffixName x0 _ = ⊥

abbrev pub SuffixQuoted : List ℕ → Suffix Query → Type 0
SuffixQuoted x0 (s.Quoted y0) = x0 ≡ y0
SuffixQuoted x0 _ = ⊥

abbrev pub SuffixInt : ℤ → Suffix Query → Type 0
SuffixInt x0 (s.Int y0) = x0 ≡ y0
SuffixInt x0 _ = ⊥

abbrev pub SuffixMethod : Word → List (Arg Query) → Suffix Query → Type 0
SuffixMethod x0 x1 (s.Method y0 y1) = (x0.text ≡ y0.text) × Each SameArg x1 y1
SuffixMethod x0 x1 _ = ⊥

abbrev pub SuffixWithin : Arg Query → Suffix Query → Type 0
SuffixWithin x0 (s.Within y0) = SameArg x0 y0
SuffixWithin x0 _ = ⊥

abbrev pub SameSuffix : Suffix Query → Suffix Query → Type 0
SameSuffix (s.Name x0) y = SuffixName x0 y
SameSuffix (s.Quoted x0) y = SuffixQuoted x0 y
SameSuffix (s.Int x0) y = SuffixInt x0 y
SameSuffix (s.Method x0 x1) y = SuffixMethod x0 x1 y
SameSuffix (s.Within x0) y = SuffixWithin x0 y

-- a query of one variant, and the layer of another

abbrev pub InNull : Query-F Query → Type 0
InNull (Query-F.Null) = Unit {0}
InNull _ = ⊥

abbrev pub InTrue : Query-F Query → Type 0
InTrue (Query-F.True) = Unit {0}
InTrue _ = ⊥

abbrev pub InFalse : Query-F Query → Type 0
InFalse (Query-F.False) = Unit {0}
InFalse _ = ⊥

abbrev pub InInt : ℤ → Query-F Query → Type 0
InInt x0 (Query-F.Int y0) = x0 ≡ y0
InInt x0 _ = ⊥

abbrev pub InQuoted : Word → Query-F Query → Type 0
InQuoted x0 (Query-F.Quoted y0) = x0.text ≡ y0.text
InQuoted x0 _ = ⊥

abbrev pub InThis : Query-F Query → Type 0
InThis (Query-F.This) = Unit {0}
InThis _ = ⊥

abbrev pub InRoot : ℕ → Query-F Query → Type 0
InRoot x0 (Query-F.Root y0) = Unit {0}
InRoot x0 _ = ⊥

abbrev pub InName : Word → Query-F Query → Type 0
InName x0 (Query-F.Name y0) = x0.text ≡ y0.text
InName x0 _ = ⊥

abbrev pub InVar : Word → Query-F Query → Type 0
InVar x0 (Query-F.Var y0) = x0.text ≡ y0.text
InVar x0 _ = ⊥

abbrev pub InMetadata : Query-F Query → Type 0
InMetadata (Query-F.Metadata) = Unit {0}
InMetadata _ = ⊥

abbrev pub InMeta : Key → Query-F Query → Type 0
InMeta x0 (Query-F.Meta y0) = x0 ≡ y0
InMeta x0 _ = ⊥

abbrev pub InCall : Word → List (Arg Query) → Query-F Query → Type 0
InCall x0 x1 (Query-F.Call y0 y1) = (x0.text ≡ y0.text) × Each SameArg x1 y1
InCall x0 x1 _ = ⊥

abbrev pub InParen : Query → Query-F Query → Type 0
InParen x0 (Query-F.Paren y0) = SameQuery x0 y0
InParen x0 _ = ⊥

abbrev pub InList : List Query → Query-F Query → Type 0
InList x0 (Query-F.List y0) = Each SameQuery x0 y0
InList x0 _ = ⊥

abbrev pub InObject : List (Member Query) → Query-F Query → Type 0
InObject x0 (Query-F.Object y0) = Each SameMember x0 y0
InObject x0 _ = ⊥

abbrev pub InItem : Query → List (Suffix Query) → Query-F Query → Type 0
InItem x0 x1 (Query-F.Item y0 y1) = SameQuery x0 y0 × Each SameSuffix x1 y1
InItem x0 x1 _ = ⊥

abbrev pub InPrefix : PrefixOp → Query → Query-F Query → Type 0
InPrefix x0 x1 (Query-F.Prefix y0 y1) = (x0 ≡ y0) × SameQuery x1 y1
InPrefix x0 x1 _ = ⊥

abbrev pub InProduct : Query → List (Term Query) → Query-F Query → Type 0
InProduct x0 x1 (Query-F.Product y0 y1) = SameQuery x0 y0 × Each SameTerm x1 y1
InProduct x0 x1 _ = ⊥

abbrev pub InSum : Query → List (Term Query) → Query-F Query → Type 0
InSum x0 x1 (Query-F.Sum y0 y1) = SameQuery x0 y0 × Each SameTerm x1 y1
InSum x0 x1 _ = ⊥

abbrev pub InCompare : Query → Op → Query → Query-F Query → Type 0
InCompare x0 x1 x2 (Query-F.Compare y0 y1 y2) = SameQuery x0 y0 × (x1 ≡ y1) × SameQuery x2 y2
InCompare x0 x1 x2 _ = ⊥

abbrev pub InAnd : Query → List Query → Query-F Query → Type 0
InAnd x0 x1 (Query-F.And y0 y1) = SameQuery x0 y0 × Each SameQuery x1 y1
InAnd x0 x1 _ = ⊥

abbrev pub InOr : Query → List Query → Query-F Query → Type 0
InOr x0 x1 (Query-F.Or y0 y1) = SameQuery x0 y0 × Each SameQuery x1 y1
InOr x0 x1 _ = ⊥

abbrev pub InCoalesce : Query → List Query → Query-F Query → Type 0
InCoalesce x0 x1 (Query-F.Coalesce y0 y1) = SameQuery x0 y0 × Each SameQuery x1 y1
InCoalesce x0 x1 _ = ⊥

abbrev pub InMatch : Option Query → List (Case Query) → Query-F Query → Type 0
InMatch x0 x1 (Query-F.Match y0 y1) = SameOption x0 y0 × Each SameCase x1 y1
InMatch x0 x1 _ = ⊥

abbrev pub InIf : List (Branch Query) → Option Query → Query-F Query → Type 0
InIf x0 x1 (Query-F.If y0 y1) = Each SameBranch x0 y0 × SameOption x1 y1
InIf x0 x1 _ = ⊥

-- the layers of two queries agree
abbrev pub AreSame : Query-F Query → Query-F Query → Type 0
AreSame Query-F.Null y = InNull y
AreSame Query-F.True y = InTrue y
AreSame Query-F.False y = InFalse y
AreSame (Query-F.Int x0) y = InInt x0 y
AreSame (Query-F.Quoted x0) y = InQuoted x0 y
AreSame Query-F.This y = InThis y
AreSame (Query-F.Root x0) y = InRoot x0 y
AreSame (Query-F.Name x0) y = InName x0 y
AreSame (Query-F.Var x0) y = InVar x0 y
AreSame Query-F.Metadata y = InMetadata y
AreSame (Query-F.Meta x0) y = InMeta x0 y
AreSame (Query-F.Call x0 x1) y = InCall x0 x1 y
AreSame (Query-F.Paren x0) y = InParen x0 y
AreSame (Query-F.List x0) y = InList x0 y
AreSame (Query-F.Object x0) y = InObject x0 y
AreSame (Query-F.Item x0 x1) y = InItem x0 x1 y
AreSame (Query-F.Prefix x0 x1) y = InPrefix x0 x1 y
AreSame (Query-F.Product x0 x1) y = InProduct x0 x1 y
AreSame (Query-F.Sum x0 x1) y = InSum x0 x1 y
AreSame (Query-F.Compare x0 x1 x2) y = InCompare x0 x1 x2 y
AreSame (Query-F.And x0 x1) y = InAnd x0 x1 y
AreSame (Query-F.Or x0 x1) y = InOr x0 x1 y
AreSame (Query-F.Coalesce x0 x1) y = InCoalesce x0 x1 y
AreSame (Query-F.Match x0 x1) y = InMatch x0 x1 y
AreSame (Query-F.If x0 x1) y = InIf x0 x1 y

-- ---- statements

abbrev pub SameKey : Key → Key → Type 0
SameKey x y = x ≡ y

abbrev pub SameMapStmt : MapStmt → MapStmt → Type 0
SameMapStmt (ms.Root at xs p) (ms.Root at' ys q) = Each SameKey xs ys × SameQuery p q
SameMapStmt (ms.Root at xs p) (ms.Let name q) = ⊥
SameMapStmt (ms.Let name p) (ms.Root at ys q) = ⊥
SameMapStmt (ms.Let x p) (ms.Let y q) = (x ≡ y) × SameQuery p q

abbrev pub RootStmt : List Key → Query → Stmt → Type 0
RootStmt xs p (st.Root at line ys q) = Each SameKey xs ys × SameQuery p q
RootStmt xs p _ = ⊥

abbrev pub MetaStmt : Option Key → Query → Stmt → Type 0
MetaStmt x p (st.Meta line y q) = (x ≡ y) × SameQuery p q
MetaStmt x p _ = ⊥

abbrev pub LetStmt : List ℕ → Query → Stmt → Type 0
LetStmt x p (st.Let line y q) = (x ≡ y) × SameQuery p q
LetStmt x p _ = ⊥

abbrev pub AMapStmt : List ℕ → List MapStmt → Stmt → Type 0
AMapStmt x xs (st.Map at y ys) = (x ≡ y) × Each SameMapStmt xs ys
AMapStmt x xs _ = ⊥

abbrev pub SameStmt : Stmt → Stmt → Type 0
SameStmt (st.Root at line xs p) y = RootStmt xs p y
SameStmt (st.Meta line x p) y = MetaStmt x p y
SameStmt (st.Let line x p) y = LetStmt x p y
SameStmt (st.Map at x xs) y = AMapStmt x xs y

abbrev pub SameMapping : Mapping → Mapping → Type 0
SameMapping (m.Query line p) (m.Query line' q) = SameQuery p q
SameMapping (m.Query line p) (m.Statements ys) = ⊥
SameMapping (m.Statements xs) (m.Query line q) = ⊥
SameMapping (m.Statements xs) (m.Statements ys) = Each SameStmt xs ys
