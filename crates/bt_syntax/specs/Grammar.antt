-- The grammar of mappings: which tokens are read as what. One constructor stands for each rule.
use Rattle.std.specs.Prelude.{◌≡◌, ℕ, zero, suc, pos, Bool, true, false, List, [], ◌∷◌, ◌++◌, Option, Some, None}
use Rattle.bt_lexer.specs.declared.token.Kind.{Kind}
use Rattle.bt_lexer.specs.declared.token.Kind.TheVariants as k
use Rattle.bt_value.specs.declared.names.Op.{Op}
use Rattle.bt_value.specs.declared.names.Op.TheVariants as o
use Rattle.bt_value.specs.declared.names.PrefixOp.{PrefixOp}
use Rattle.bt_value.specs.declared.names.PrefixOp.TheVariants as po
use Rattle.bt_syntax.specs.declared.keywords.Keyword.{Keyword}
use Rattle.bt_syntax.specs.declared.keywords.Keyword.TheVariants as w
use Rattle.bt_tree.specs.declared.tree.Word.{Word}
use Rattle.bt_tree.specs.declared.tree.Key.{Key}
use Rattle.bt_tree.specs.declared.tree.Key.TheVariants as key
use Rattle.bt_tree.specs.declared.tree.Query.{Query}
use Rattle.bt_tree.specs.declared.tree.Query.TheVariants as e
use Rattle.bt_tree.specs.declared.tree.Suffix.{Suffix}
use Rattle.bt_tree.specs.declared.tree.Suffix.TheVariants as s
use Rattle.bt_tree.specs.declared.tree.Arg.{Arg}
use Rattle.bt_tree.specs.declared.tree.Arg.TheVariants as a
use Rattle.bt_tree.specs.declared.tree.Member.{Member}
use Rattle.bt_tree.specs.declared.tree.Term.{Term}
use Rattle.bt_tree.specs.declared.tree.Case.{Case}
use Rattle.bt_tree.specs.declared.tree.Case.TheVariants as case
use Rattle.bt_tree.specs.declared.tree.Branch.{Branch}
use Rattle.bt_tree.specs.declared.tree.MapStmt.{MapStmt}
use Rattle.bt_tree.specs.declared.tree.MapStmt.TheVariants as ms
use Rattle.bt_tree.specs.declared.tree.Stmt.{Stmt}
use Rattle.bt_tree.specs.declared.tree.Stmt.TheVariants as st
use Rattle.bt_tree.specs.declared.tree.Mapping.{Mapping}
use Rattle.bt_tree.specs.declared.tree.Mapping.TheVariants as m
use Rattle.bt_syntax.specs.Lexemes.{Lexeme, Lexemes, number, reserved}
use Rattle.bt_syntax.specs.Rules.{Repeated, Listed, Separated, Behind, Bracketed, Optional}

-- ---- tokens

-- the token is this reserved name
abbrev pub IsReserved : Keyword → Lexeme → Type 0
IsReserved word t = reserved t ≡ Some word

-- a name that isn't reserved
abbrev pub free_in : Kind → Option Keyword → Bool
free_in k.Name None = true
free_in _ _ = false

abbrev pub is_free : Lexeme → Bool
is_free t = free_in t.kind (reserved t)

-- a name or a text with its place
abbrev pub word : Lexeme → Word
word t = record { at = t.at; text = t.text }

-- key = Name | Text
abbrev pub key_in : Kind → List ℕ → Option Key
key_in k.Name u = Some (key.Name u)
key_in k.Text u = Some (key.Quoted u)
key_in _ u = None

abbrev pub key_of : Lexeme → Option Key
key_of t = key_in t.kind t.text

-- the queries that are a reserved name alone
abbrev pub reserved_query : Lexeme → Keyword → Option Query
reserved_query t w.Null = Some e.Null
reserved_query t w.True = Some e.True
reserved_query t w.False = Some e.False
reserved_query t w.This = Some e.This
reserved_query t w.Root = Some (e.Root t.at)
reserved_query t _ = None

abbrev pub reserved_head : Lexeme → Option Keyword → Option Query
reserved_head t None = None
reserved_head t (Some v) = reserved_query t v

-- the heads of one token but a name and `@`: "null" | "true" | "false" | Int | Text | "this" | "root" | Var
abbrev pub head_in : Kind → Lexeme → Option Query
head_in k.Int t = Some (e.Int (pos (number t)))
head_in k.Text t = Some (e.Quoted (word t))
head_in k.Var t = Some (e.Var (word t))
head_in k.Name t = reserved_head t (reserved t)
head_in _ t = None

abbrev pub token_head : Lexeme → Option Query
token_head t = head_in t.kind t

-- "." ( Name | Text | Int )
abbrev pub segment_in : Kind → Lexeme → Option (Suffix Query)
segment_in k.Name t = Some (s.Name t.text)
segment_in k.Text t = Some (s.Quoted t.text)
segment_in k.Int t = Some (s.Int (pos (number t)))
segment_in _ t = None

abbrev pub segment_of : Lexeme → Option (Suffix Query)
segment_of t = segment_in t.kind t

-- "!" | "-"
abbrev pub prefix_op : Kind → Option PrefixOp
prefix_op k.Bang = Some po.Not
prefix_op k.Minus = Some po.Minus
prefix_op _ = None

-- "*" | "/" | "%"
abbrev pub product_op : Kind → Option Op
product_op k.Star = Some o.Mul
product_op k.Slash = Some o.Div
product_op k.Percent = Some o.Rem
product_op _ = None

-- "+" | "-"
abbrev pub sum_op : Kind → Option Op
sum_op k.Plus = Some o.Add
sum_op k.Minus = Some o.Sub
sum_op _ = None

-- "==" | "!=" | "<" | "<=" | ">" | ">="
abbrev pub comparison_op : Kind → Option Op
comparison_op k.Equal = Some o.Equal
comparison_op k.NotEqual = Some o.NotEqual
comparison_op k.Less = Some o.Less
comparison_op k.LessEqual = Some o.AtMost
comparison_op k.Greater = Some o.More
comparison_op k.GreaterEqual = Some o.AtLeast
comparison_op _ = None

-- sep = NL | ","
abbrev pub separates_cases : Kind → Bool
separates_cases k.Nl = true
separates_cases k.Comma = true
separates_cases _ = false

-- NL
abbrev pub separates_statements : Kind → Bool
separates_statements k.Nl = true
separates_statements _ = false

-- key
abbrev pub IsKey : Key → Lexemes → Type 0
IsKey x u = (t : Lexeme) × (u ≡ t ∷ []) × (key_of t ≡ Some x)

-- the tokens begin with a mark
abbrev pub begins : Kind → Lexemes → Type 0
begins mark [] = ⊥
begins mark (t ∷ u) = t.kind ≡ mark

-- ---- queries, where I says what is read as a query inside brackets

module _ (I : Query → Lexemes → Type 0) where
  -- arg = query | Name "->" query
  pub data IsArg : Arg Query → Lexemes → Type 0 where
    plain_arg : {q : Query} {u : Lexemes} → I q u → IsArg (a.Query q) u
    lambda : {q : Query} {u : Lexemes} (name arrow : Lexeme) → is_free name ≡ true → arrow.kind ≡ k.Arrow → I q u → IsArg (a.Lambda name.text q) (name ∷ arrow ∷ u)

  -- Text ":" query
  pub data IsMember : Member Query → Lexemes → Type 0 where
    member : {q : Query} {u : Lexemes} (text colon : Lexeme) → text.kind ≡ k.Text → colon.kind ≡ k.Colon → I q u → IsMember (record { key = text.text; query = q }) (text ∷ colon ∷ u)

  -- "(" [ args ] ")", where args = arg { "," arg } [ "," ]
  abbrev pub AreArgs : List (Arg Query) → Lexemes → Type 0
  AreArgs = Bracketed k.LeftParen k.RightParen (List (Arg Query)) (Listed (Arg Query) IsArg)

  -- head
  pub data IsHead : Query → Lexemes → Type 0 where
    token : {q : Query} (t : Lexeme) → token_head t ≡ Some q → IsHead q (t ∷ [])
    name : (t : Lexeme) → is_free t ≡ true → IsHead (e.Name (word t)) (t ∷ [])
    metadata : (t : Lexeme) → t.kind ≡ k.At → IsHead e.Metadata (t ∷ [])
    meta_key : {x : Key} (t t' : Lexeme) → t.kind ≡ k.At → key_of t' ≡ Some x → IsHead (e.Meta x) (t ∷ t' ∷ [])
    call : {xs : List (Arg Query)} {u : Lexemes} (t : Lexeme) → is_free t ≡ true → AreArgs xs u → IsHead (e.Call (word t) xs) (t ∷ u)
    meta_call : {xs : List (Arg Query)} {u : Lexemes} (t : Lexeme) → IsReserved w.Meta t → AreArgs xs u → IsHead (e.Call (word t) xs) (t ∷ u)
    parens : {q : Query} {u : Lexemes} → Bracketed k.LeftParen k.RightParen Query I q u → IsHead (e.Paren q) u
    «list» : {qs : List Query} {u : Lexemes} → Bracketed k.LeftBracket k.RightBracket (List Query) (Listed Query I) qs u → IsHead (e.List qs) u
    object : {xs : List (Member Query)} {u : Lexemes} → Bracketed k.LeftBrace k.RightBrace (List (Member Query)) (Listed (Member Query) IsMember) xs u → IsHead (e.Object xs) u

  -- suffix
  pub data IsSuffix : Suffix Query → Lexemes → Type 0 where
    segment : {x : Suffix Query} (dot t : Lexeme) → dot.kind ≡ k.Dot → segment_of t ≡ Some x → IsSuffix x (dot ∷ t ∷ [])
    method : {xs : List (Arg Query)} {u : Lexemes} (dot t : Lexeme) → dot.kind ≡ k.Dot → is_free t ≡ true → AreArgs xs u → IsSuffix (s.Method (word t) xs) (dot ∷ t ∷ u)
    within : {x : Arg Query} {u : Lexemes} (dot : Lexeme) → dot.kind ≡ k.Dot → Bracketed k.LeftParen k.RightParen (Arg Query) IsArg x u → IsSuffix (s.Within x) (dot ∷ u)

  -- item = head { suffix }
  pub data IsItem : Query → Lexemes → Type 0 where
    head_alone : {q : Query} {u : Lexemes} → IsHead q u → IsItem q u
    suffixed : {q : Query} {x : Suffix Query} {xs : List (Suffix Query)} {u v : Lexemes} → IsHead q u → Repeated (Suffix Query) IsSuffix (x ∷ xs) v → IsItem (e.Item q (x ∷ xs)) (u ++ v)

  -- unary = [ "!" | "-" ] item
  pub data IsUnary : Query → Lexemes → Type 0 where
    item_alone : {q : Query} {u : Lexemes} → IsItem q u → IsUnary q u
    prefixed : {q : Query} {op : PrefixOp} {u : Lexemes} (t : Lexeme) → prefix_op t.kind ≡ Some op → IsItem q u → IsUnary (e.Prefix op q) (t ∷ u)

  -- prod = unary { ( "*" | "/" | "%" ) unary }
  pub data IsFactor : Term Query → Lexemes → Type 0 where
    factor : {q : Query} {op : Op} {u : Lexemes} (t : Lexeme) → product_op t.kind ≡ Some op → IsUnary q u → IsFactor (record { op = op; query = q }) (t ∷ u)

  pub data IsProduct : Query → Lexemes → Type 0 where
    unary_alone : {q : Query} {u : Lexemes} → IsUnary q u → IsProduct q u
    multiplied : {q : Query} {x : Term Query} {xs : List (Term Query)} {u v : Lexemes} → IsUnary q u → Repeated (Term Query) IsFactor (x ∷ xs) v → IsProduct (e.Product q (x ∷ xs)) (u ++ v)

  -- sum = prod { ( "+" | "-" ) prod }
  pub data IsTerm : Term Query → Lexemes → Type 0 where
    term : {q : Query} {op : Op} {u : Lexemes} (t : Lexeme) → sum_op t.kind ≡ Some op → IsProduct q u → IsTerm (record { op = op; query = q }) (t ∷ u)

  pub data IsSum : Query → Lexemes → Type 0 where
    product_alone : {q : Query} {u : Lexemes} → IsProduct q u → IsSum q u
    added : {q : Query} {x : Term Query} {xs : List (Term Query)} {u v : Lexemes} → IsProduct q u → Repeated (Term Query) IsTerm (x ∷ xs) v → IsSum (e.Sum q (x ∷ xs)) (u ++ v)

  -- comp = sum | sum ( "==" | "!=" | "<" | "<=" | ">" | ">=" ) sum
  pub data IsComparison : Query → Lexemes → Type 0 where
    sum_alone : {q : Query} {u : Lexemes} → IsSum q u → IsComparison q u
    compared : {q r : Query} {op : Op} {u v : Lexemes} (t : Lexeme) → IsSum q u → comparison_op t.kind ≡ Some op → IsSum r v → IsComparison (e.Compare q op r) (u ++ t ∷ v)

  -- logic = comp | comp "&&" comp { "&&" comp } | comp "||" comp { "||" comp }
  pub data IsLogic : Query → Lexemes → Type 0 where
    comparison_alone : {q : Query} {u : Lexemes} → IsComparison q u → IsLogic q u
    all_of : {q r : Query} {qs : List Query} {u v : Lexemes} → IsComparison q u → Repeated Query (Behind k.And Query IsComparison) (r ∷ qs) v → IsLogic (e.And q (r ∷ qs)) (u ++ v)
    any_of : {q r : Query} {qs : List Query} {u v : Lexemes} → IsComparison q u → Repeated Query (Behind k.Or Query IsComparison) (r ∷ qs) v → IsLogic (e.Or q (r ∷ qs)) (u ++ v)

  -- plain = coal | logic, where coal = unary "|" unary { "|" unary }
  pub data IsPlain : Query → Lexemes → Type 0 where
    logic : {q : Query} {u : Lexemes} → IsLogic q u → IsPlain q u
    first_of : {q r : Query} {qs : List Query} {u v : Lexemes} → IsUnary q u → Repeated Query (Behind k.Pipe Query IsUnary) (r ∷ qs) v → IsPlain (e.Coalesce q (r ∷ qs)) (u ++ v)

  -- "{" query "}"
  abbrev pub IsBlock : Query → Lexemes → Type 0
  IsBlock = Bracketed k.LeftBrace k.RightBrace Query I

  -- case = ( "_" | query ) "=>" query
  pub data IsCase : Case Query → Lexemes → Type 0 where
    any : {q : Query} {u : Lexemes} (t arrow : Lexeme) → IsReserved w.Underscore t → arrow.kind ≡ k.FatArrow → I q u → IsCase (case.Any q) (t ∷ arrow ∷ u)
    when : {p q : Query} {u v : Lexemes} (arrow : Lexeme) → I p u → arrow.kind ≡ k.FatArrow → I q v → IsCase (case.When p q) (u ++ arrow ∷ v)

  -- a plain that doesn't begin with `{`
  pub record IsSubject (q : Query) (u : Lexemes) : Type 0 where
    pub reads : IsPlain q u
    pub no_brace : begins k.LeftBrace u → ⊥

  -- match = "match" [ plain ] "{" case { sep case } "}"
  pub data IsMatch : Query → Lexemes → Type 0 where
    «match» : {q : Option Query} {xs : List (Case Query)} {u v : Lexemes} (t : Lexeme) → IsReserved w.Match t → Optional Query IsSubject q u →
        Bracketed k.LeftBrace k.RightBrace (List (Case Query)) (Separated separates_cases (Case Query) IsCase) xs v → IsMatch (e.Match q xs) (t ∷ (u ++ v))

  -- plain "{" query "}"
  pub data IsBranch : Branch Query → Lexemes → Type 0 where
    branch : {p q : Query} {u v : Lexemes} → IsPlain p u → IsBlock q v → IsBranch (record { test = p; gives = q }) (u ++ v)

  -- { "else" "if" plain "{" query "}" } [ "else" "{" query "}" ]
  pub data AreElses : List (Branch Query) → Option Query → Lexemes → Type 0 where
    no_else : AreElses [] None []
    else_if : {x : Branch Query} {xs : List (Branch Query)} {q : Option Query} {u v : Lexemes} (t t' : Lexeme) → IsReserved w.Else t → IsReserved w.If t' →
        IsBranch x u → AreElses xs q v → AreElses (x ∷ xs) q (t ∷ t' ∷ (u ++ v))
    else_last : {q : Query} {u : Lexemes} (t : Lexeme) → IsReserved w.Else t → IsBlock q u → AreElses [] (Some q) (t ∷ u)

  -- if = "if" plain "{" query "}" { "else" "if" plain "{" query "}" } [ "else" "{" query "}" ]
  pub data IsIf : Query → Lexemes → Type 0 where
    «if» : {x : Branch Query} {xs : List (Branch Query)} {q : Option Query} {u v : Lexemes} (t : Lexeme) → IsReserved w.If t → IsBranch x u → AreElses xs q v → IsIf (e.If (x ∷ xs) q) (t ∷ (u ++ v))

  -- query = match | if | plain
  pub data IsQuery : Query → Lexemes → Type 0 where
    match_query : {q : Query} {u : Lexemes} → IsMatch q u → IsQuery q u
    if_query : {q : Query} {u : Lexemes} → IsIf q u → IsQuery q u
    plain_query : {q : Query} {u : Lexemes} → IsPlain q u → IsQuery q u

  -- ---- statements

  -- { "." key }
  abbrev pub AreKeys : List Key → Lexemes → Type 0
  AreKeys = Repeated Key (Behind k.Dot Key IsKey)

  -- mstmt = a stmt that begins with "root" or "let"; it stands inside brackets
  pub data IsMapStmt : MapStmt → Lexemes → Type 0 where
    map_root : {xs : List Key} {q : Query} {u v : Lexemes} (t : Lexeme) → IsReserved w.Root t → AreKeys xs u → Behind k.Assign Query I q v → IsMapStmt (ms.Root t.at xs q) (t ∷ (u ++ v))
    map_let : {q : Query} {u : Lexemes} (t name : Lexeme) → IsReserved w.Let t → name.kind ≡ k.Name → Behind k.Assign Query I q u → IsMapStmt (ms.Let name.text q) (t ∷ name ∷ u)

  -- stmt
  pub data IsStmt : Stmt → Lexemes → Type 0 where
    «root» : {xs : List Key} {q : Query} {u v : Lexemes} (t : Lexeme) → IsReserved w.Root t → AreKeys xs u → Behind k.Assign Query IsQuery q v → IsStmt (st.Root t.at t.line xs q) (t ∷ (u ++ v))
    «meta» : {x : Option Key} {q : Query} {u v : Lexemes} (t : Lexeme) → IsReserved w.Meta t → Optional Key IsKey x u → Behind k.Assign Query IsQuery q v → IsStmt (st.Meta t.line x q) (t ∷ (u ++ v))
    «let» : {q : Query} {u : Lexemes} (t name : Lexeme) → IsReserved w.Let t → name.kind ≡ k.Name → Behind k.Assign Query IsQuery q u → IsStmt (st.Let t.line name.text q) (t ∷ name ∷ u)
    «map» : {xs : List MapStmt} {u : Lexemes} (t name : Lexeme) → IsReserved w.Map t → name.kind ≡ k.Name →
        Bracketed k.LeftBrace k.RightBrace (List MapStmt) (Separated separates_statements MapStmt IsMapStmt) xs u → IsStmt (st.Map t.at name.text xs) (t ∷ name ∷ u)

  -- mapping = query | stmt { NL stmt }
  pub data IsMapping : Mapping → Lexemes → Type 0 where
    query_alone : {q : Query} {u : Lexemes} (t : Lexeme) → IsQuery q (t ∷ u) → IsMapping (m.Query t.line q) (t ∷ u)
    statements : {xs : List Stmt} {u : Lexemes} → Separated separates_statements Stmt IsStmt xs u → IsMapping (m.Statements xs) u

  -- a query alone
  pub data IsCheck : Mapping → Lexemes → Type 0 where
    check : {q : Query} {u : Lexemes} (t : Lexeme) → IsQuery q (t ∷ u) → IsCheck (m.Query t.line q) (t ∷ u)

-- ---- the whole grammar

-- The tokens are read as a query that stands inside brackets, in which brackets nest less than n deep.
abbrev pub Nested : ℕ → Query → Lexemes → Type 0
Nested zero q u = ⊥
Nested (suc n) q u = IsQuery (Nested n) q u

-- The tokens are read as the mapping.
abbrev pub ReadsMapping : Mapping → Lexemes → Type 0
ReadsMapping x u = (n : ℕ) × IsMapping (Nested n) x u

-- They are read as a mapping that is a query alone.
abbrev pub ReadsCheck : Mapping → Lexemes → Type 0
ReadsCheck x u = (n : ℕ) × IsCheck (Nested n) x u
