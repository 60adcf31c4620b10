-- A reader for each part of the grammar.
use Rattle.std.specs.Prelude.{ℕ, zero, suc, Bool, true, false, cond, not, is_some, List, [], ◌∷◌, Option, Some, None}
use denote.Enum.Bare.{sameb}
use Rattle.bt_lexer.specs.declared.token.Kind.{Kind}
use Rattle.bt_lexer.specs.declared.token.Kind.TheVariants as k
use Rattle.bt_lexer.specs.contracts.token.Kind.{the_type}
use Rattle.bt_value.specs.declared.names.Op.{Op}
use Rattle.bt_syntax.specs.declared.keywords.Keyword.{Keyword}
use Rattle.bt_syntax.specs.declared.keywords.Keyword.TheVariants as w
use Rattle.bt_syntax.specs.contracts.keywords.Keyword as keyword
use Rattle.bt_tree.specs.declared.tree.Key.{Key}
use Rattle.bt_tree.specs.declared.tree.Key.TheVariants as steps
use Rattle.bt_tree.specs.declared.tree.Query.{Query, out-Query}
use Rattle.bt_tree.specs.declared.tree.Query.TheOpen.{Query-F}
use Rattle.bt_tree.specs.declared.tree.Query.TheVariants as e
use Rattle.bt_tree.specs.declared.tree.Suffix.{Suffix}
use Rattle.bt_tree.specs.declared.tree.Suffix.TheVariants as s
use Rattle.bt_tree.specs.declared.tree.Arg.{Arg}
use Rattle.bt_tree.specs.declared.tree.Arg.TheVariants as a
use Rattle.bt_tree.specs.declared.tree.Member.{Member}
use Rattle.bt_tree.specs.declared.tree.Term.{Term}
use Rattle.bt_tree.specs.declared.tree.Case.{Case}
use Rattle.bt_tree.specs.declared.tree.Case.TheVariants as case
use Rattle.bt_tree.specs.declared.tree.Branch.{Branch}
use Rattle.bt_tree.specs.declared.tree.MapStmt.{MapStmt}
use Rattle.bt_tree.specs.declared.tree.MapStmt.TheVariants as ms
use Rattle.bt_tree.specs.declared.tree.Stmt.{Stmt}
use Rattle.bt_tree.specs.declared.tree.Stmt.TheVariants as st
use Rattle.bt_tree.specs.declared.tree.Mapping.{Mapping}
use Rattle.bt_tree.specs.declared.tree.Mapping.TheVariants as m
use Rattle.bt_syntax.specs.Lexemes.{Lexeme, Lexemes, reserved}
use Rattle.bt_syntax.specs.Grammar.{word, key_of, token_head, segment_of, prefix_op, product_op, sum_op, comparison_op, is_free, separates_cases, separates_statements}
use Rattle.bt_syntax.specs.Reading.{Reader, Deep, map_res, seq, mapped, pure, token, starts, branch, many, always}

-- ---- one token

abbrev pub is : Kind → Lexeme → Bool
is kind t = sameb the_type kind t.kind

-- any other kind
abbrev pub is_not : Kind → Lexeme → Bool
is_not kind t = not (is kind t)

abbrev pub same_keyword : Keyword → Option Keyword → Bool
same_keyword v None = false
same_keyword v (Some x) = sameb keyword.the_type v x

abbrev pub is_reserved : Keyword → Lexeme → Bool
is_reserved v t = same_keyword v (reserved t)

abbrev pub is_key : Lexeme → Bool
is_key t = is_some (key_of t)

abbrev pub is_prefix : Lexeme → Bool
is_prefix t = is_some (prefix_op t.kind)

abbrev pub is_product : Lexeme → Bool
is_product t = is_some (product_op t.kind)

abbrev pub is_sum : Lexeme → Bool
is_sum t = is_some (sum_op t.kind)

abbrev pub is_comparison : Lexeme → Bool
is_comparison t = is_some (comparison_op t.kind)

abbrev pub separates_case : Lexeme → Bool
separates_case t = separates_cases t.kind

abbrev pub separates_statement : Lexeme → Bool
separates_statement t = separates_statements t.kind

abbrev pub only : Bool → Lexeme → Option Lexeme
only true t = Some t
only false t = None

-- a token that passes
abbrev pub passing : (Lexeme → Bool) → Reader Lexeme
passing h = token (λ t. only (h t) t)

unfoldable pub expect : Kind → Reader Lexeme
expect kind = passing (is kind)

unfoldable pub expect_reserved : Keyword → Reader Lexeme
expect_reserved v = passing (is_reserved v)

unfoldable pub key : Reader Key
key = token key_of

-- ---- the forms of the rules

-- behind a mark
abbrev pub behind : {A : Type 0} → Kind → Reader A → Reader A
behind mark p = seq (expect mark) (λ _. p)

-- in brackets
abbrev pub closed : {A : Type 0} → Kind → A → Reader A
closed closing a = mapped (λ _. a) (expect closing)

abbrev pub bracketed : {A : Type 0} → Kind → Kind → Reader A → Reader A
bracketed opening closing p = seq (expect opening) (λ _. seq p (closed closing))

-- an element, and whether a comma follows it
abbrev pub comma_after : {A : Type 0} → A → Reader (A × Bool)
comma_after x = branch (is k.Comma) (mapped (λ _. (x, true)) (expect k.Comma)) (pure (x, false))

abbrev pub element : {A : Type 0} → Reader A → Reader (A × Bool)
element p = seq p comma_after

abbrev pub followed : {A : Type 0} → A × Bool → Bool
followed x = x.1

abbrev pub firsts : {A : Type 0} → List (A × Bool) → List A
firsts [] = []
firsts (x ∷ xs) = x.0 ∷ firsts xs

-- elements up to the closing bracket, with commas between them and perhaps one at the end
abbrev pub elements : {A : Type 0} → Kind → Reader A → Reader (List (A × Bool))
elements closing p = many (is_not closing) followed (element p)

abbrev pub listed : {A : Type 0} → Kind → Reader A → Reader (List A)
listed closing p = mapped firsts (elements closing p)

-- one or more, with a separator between them
abbrev pub separated_more : {A : Type 0} → (Lexeme → Bool) → Reader A → Reader (List A)
separated_more h p = many h always (seq (passing h) (λ _. p))

abbrev pub with_first : {A : Type 0} → A → List A → List A
with_first x xs = x ∷ xs

abbrev pub separated : {A : Type 0} → (Lexeme → Bool) → Reader A → Reader (List A)
separated h p = seq p (λ x. mapped (with_first x) (separated_more h p))

-- ---- what is made of the parts

-- the name that a query is
abbrev pub name_in : Query-F Query → Option (List ℕ)
name_in (Query-F.Name v) = Some v.text
name_in _ = None

abbrev pub name_of : Query → Option (List ℕ)
name_of q = name_in (out-Query q)

-- no operator stands between its parts
abbrev pub unary_layer : Query-F Query → Bool
unary_layer (Query-F.Product q xs) = false
unary_layer (Query-F.Sum q xs) = false
unary_layer (Query-F.Compare q op r) = false
unary_layer (Query-F.And q qs) = false
unary_layer (Query-F.Or q qs) = false
unary_layer _ = true

abbrev pub is_unary : Query → Bool
is_unary q = unary_layer (out-Query q)

abbrev pub item_of : Query → List (Suffix Query) → Query
item_of q [] = q
item_of q (x ∷ xs) = e.Item q (x ∷ xs)

abbrev pub product_of : Query → List (Term Query) → Query
product_of q [] = q
product_of q (x ∷ xs) = e.Product q (x ∷ xs)

abbrev pub sum_of : Query → List (Term Query) → Query
sum_of q [] = q
sum_of q (x ∷ xs) = e.Sum q (x ∷ xs)

abbrev pub or_of : Query → List Query → Query
or_of q [] = q
or_of q (r ∷ qs) = e.Or q (r ∷ qs)

abbrev pub coalesce_of : Query → List Query → Query
coalesce_of q [] = q
coalesce_of q (r ∷ qs) = e.Coalesce q (r ∷ qs)

abbrev pub term_of : Op → Query → Term Query
term_of op q = record { op = op; query = q }

abbrev pub member_of : Lexeme → Query → Member Query
member_of t q = record { key = t.text; query = q }

abbrev pub branch_of : Query → Query → Branch Query
branch_of p q = record { test = p; gives = q }

-- what stands behind an `else`: another `if`, or the last block
pub data Else : Type 0 where
  More : Branch Query → Else
  Last : Query → Else

abbrev pub has_more : Else → Bool
has_more (More x) = true
has_more (Last q) = false

abbrev pub branches_of : List Else → List (Branch Query)
branches_of [] = []
branches_of (More x ∷ xs) = x ∷ branches_of xs
branches_of (Last q ∷ xs) = branches_of xs

abbrev pub last_of : List Else → Option Query
last_of [] = None
last_of (More x ∷ xs) = last_of xs
last_of (Last q ∷ xs) = Some q

abbrev pub if_of : Branch Query → List Else → Query
if_of x xs = e.If (x ∷ branches_of xs) (last_of xs)

-- ---- queries, where inner reads what stands inside brackets

module _ (inner : Reader Query) where
  -- ---- arguments

  abbrev pub lambda_or : Query → Option (List ℕ) → Reader (Arg Query)
  lambda_or q None = pure (a.Query q)
  lambda_or q (Some name) = branch (is k.Arrow) (mapped (a.Lambda name) (behind k.Arrow inner)) (pure (a.Query q))

  abbrev pub lambda_after : Query → Reader (Arg Query)
  lambda_after q = lambda_or q (name_of q)

  -- a query, or a lambda: where `->` follows a query that is a name alone
  unfoldable pub arg : Reader (Arg Query)
  arg = seq inner lambda_after

  unfoldable pub args_inside : Reader (List (Arg Query))
  args_inside = listed k.RightParen arg

  unfoldable pub args : Reader (List (Arg Query))
  args = bracketed k.LeftParen k.RightParen args_inside

  -- ---- heads

  unfoldable pub parens : Reader Query
  parens = mapped e.Paren (bracketed k.LeftParen k.RightParen inner)

  unfoldable pub items_inside : Reader (List Query)
  items_inside = listed k.RightBracket inner

  unfoldable pub list_head : Reader Query
  list_head = mapped e.List (bracketed k.LeftBracket k.RightBracket items_inside)

  abbrev pub member_after : Lexeme → Reader (Member Query)
  member_after t = mapped (member_of t) (behind k.Colon inner)

  unfoldable pub member : Reader (Member Query)
  member = seq (expect k.Text) member_after

  unfoldable pub members_inside : Reader (List (Member Query))
  members_inside = listed k.RightBrace member

  unfoldable pub object_head : Reader Query
  object_head = mapped e.Object (bracketed k.LeftBrace k.RightBrace members_inside)

  abbrev pub key_or_all : Reader Query
  key_or_all = branch is_key (mapped e.Meta key) (pure e.Metadata)

  -- `@`, with its key where one follows
  unfoldable pub metadata : Reader Query
  metadata = behind k.At key_or_all

  abbrev pub call_or_name : Lexeme → Reader Query
  call_or_name t = branch (is k.LeftParen) (mapped (e.Call (word t)) args) (pure (e.Name (word t)))

  -- a name, and its arguments where `(` follows
  unfoldable pub named : Reader Query
  named = seq (passing is_free) call_or_name

  -- `meta` and its arguments
  unfoldable pub meta_call : Reader Query
  meta_call = seq (expect_reserved w.Meta) (λ t. mapped (e.Call (word t)) args)

  unfoldable pub token_alone : Reader Query
  token_alone = token token_head

  unfoldable pub head : Reader Query
  head =
      branch (is k.LeftParen) parens (branch (is k.LeftBracket) list_head (branch (is k.LeftBrace) object_head
      (branch (is k.At) metadata (branch is_free named (branch (is_reserved w.Meta) meta_call token_alone)))))

  -- ---- suffixes

  abbrev pub method_or_name : Lexeme → Reader (Suffix Query)
  method_or_name t = branch (is k.LeftParen) (mapped (s.Method (word t)) args) (pure (s.Name t.text))

  unfoldable pub within : Reader (Suffix Query)
  within = mapped s.Within (bracketed k.LeftParen k.RightParen arg)

  unfoldable pub named_suffix : Reader (Suffix Query)
  named_suffix = seq (passing is_free) method_or_name

  unfoldable pub after_dot : Reader (Suffix Query)
  after_dot = branch (is k.LeftParen) within (branch is_free named_suffix (token segment_of))

  unfoldable pub suffix : Reader (Suffix Query)
  suffix = behind k.Dot after_dot

  unfoldable pub suffixes : Reader (List (Suffix Query))
  suffixes = many (is k.Dot) always suffix

  -- ---- operators

  unfoldable pub item : Reader Query
  item = seq head (λ q. mapped (item_of q) suffixes)

  unfoldable pub prefixed : Reader Query
  prefixed = seq (token (λ t. prefix_op t.kind)) (λ op. mapped (e.Prefix op) item)

  unfoldable pub unary : Reader Query
  unary = branch is_prefix prefixed item

  unfoldable pub factor : Reader (Term Query)
  factor = seq (token (λ t. product_op t.kind)) (λ op. mapped (term_of op) unary)

  unfoldable pub factors : Reader (List (Term Query))
  factors = many is_product always factor

  unfoldable pub product : Reader Query
  product = seq unary (λ q. mapped (product_of q) factors)

  unfoldable pub term : Reader (Term Query)
  term = seq (token (λ t. sum_op t.kind)) (λ op. mapped (term_of op) product)

  unfoldable pub terms : Reader (List (Term Query))
  terms = many is_sum always term

  unfoldable pub sum : Reader Query
  sum = seq product (λ q. mapped (sum_of q) terms)

  unfoldable pub compared : Query → Reader Query
  compared q = seq (token (λ t. comparison_op t.kind)) (λ op. mapped (e.Compare q op) sum)

  unfoldable pub comparison : Reader Query
  comparison = seq sum (λ q. branch is_comparison (compared q) (pure q))

  -- operands, each behind `&&`
  unfoldable pub ands : Reader (List Query)
  ands = many (is k.And) always (behind k.And comparison)

  -- operands, each behind `||`
  unfoldable pub ors : Reader (List Query)
  ors = many (is k.Or) always (behind k.Or comparison)

  -- `||` doesn't stand behind operands of `&&`
  abbrev pub and_or : Query → List Query → Reader Query
  and_or q [] = mapped (or_of q) ors
  and_or q (r ∷ qs) = pure (e.And q (r ∷ qs))

  unfoldable pub logic : Reader Query
  logic = seq comparison (λ q. seq ands (and_or q))

  -- operands, each behind `|`
  unfoldable pub pipes : Reader (List Query)
  pipes = many (is k.Pipe) always (behind k.Pipe unary)

  -- `|` stands behind a unary alone
  abbrev pub coalesce_if : Bool → Query → Reader Query
  coalesce_if true q = mapped (coalesce_of q) pipes
  coalesce_if false q = pure q

  unfoldable pub plain : Reader Query
  plain = seq logic (λ q. coalesce_if (is_unary q) q)

  -- ---- match and if

  unfoldable pub any_case : Reader (Case Query)
  any_case = seq (expect_reserved w.Underscore) (λ _. mapped case.Any (behind k.FatArrow inner))

  unfoldable pub when_case : Reader (Case Query)
  when_case = seq inner (λ p. mapped (case.When p) (behind k.FatArrow inner))

  unfoldable pub one_case : Reader (Case Query)
  one_case = branch (is_reserved w.Underscore) any_case when_case

  unfoldable pub cases : Reader (List (Case Query))
  cases = separated separates_case one_case

  -- what is matched, where the braces don't follow at once
  unfoldable pub subject : Reader (Option Query)
  subject = branch (is_not k.LeftBrace) (mapped Some plain) (pure None)

  unfoldable pub match_query : Reader Query
  match_query = seq (expect_reserved w.Match) (λ _. seq subject (λ q. mapped (e.Match q) (bracketed k.LeftBrace k.RightBrace cases)))

  unfoldable pub block : Reader Query
  block = bracketed k.LeftBrace k.RightBrace inner

  -- a condition and its block
  unfoldable pub tested : Reader (Branch Query)
  tested = seq plain (λ p. mapped (branch_of p) block)

  unfoldable pub if_tested : Reader (Branch Query)
  if_tested = seq (expect_reserved w.If) (λ _. tested)

  abbrev pub if_or_block : Reader Else
  if_or_block = branch (is_reserved w.If) (mapped More if_tested) (mapped Last block)

  unfoldable pub else_turn : Reader Else
  else_turn = seq (expect_reserved w.Else) (λ _. if_or_block)

  unfoldable pub elses : Reader (List Else)
  elses = many (is_reserved w.Else) has_more else_turn

  unfoldable pub if_query : Reader Query
  if_query = seq if_tested (λ x. mapped (if_of x) elses)

  unfoldable pub query_by : Reader Query
  query_by = branch (is_reserved w.Match) match_query (branch (is_reserved w.If) if_query plain)

-- the number bounds how deep brackets nest
unfoldable pub query : ℕ → Reader Query
query zero ts = Deep
query (suc n) ts = query_by (query n) ts

-- ---- statements

-- { "." key }
unfoldable pub keys : Reader (List Key)
keys = many (is k.Dot) always (behind k.Dot key)

unfoldable pub optional_key : Reader (Option Key)
optional_key = branch is_key (mapped Some key) (pure None)

-- The keys of a target: what stands behind `root` may be names and texts alone.
abbrev pub key_and : Key → Option (List Key) → Option (List Key)
key_and x None = None
key_and x (Some xs) = Some (x ∷ xs)

abbrev pub target_keys : List (Suffix Query) → Option (List Key)
target_keys [] = Some []
target_keys (s.Name u ∷ xs) = key_and (steps.Name u) (target_keys xs)
target_keys (s.Quoted u ∷ xs) = key_and (steps.Quoted u) (target_keys xs)
target_keys (_ ∷ xs) = None

-- the place of the `root` that a query is
abbrev pub root_in : Query-F Query → Option ℕ
root_in (Query-F.Root at) = Some at
root_in _ = None

abbrev pub root_of : Query → Option ℕ
root_of q = root_in (out-Query q)

abbrev pub target_from : Option ℕ → Option (List Key) → Option (ℕ × List Key)
target_from (Some at) (Some xs) = Some (at, xs)
target_from _ _ = None

-- the target that a query is, if it is one
abbrev pub target_in : Query-F Query → Option (ℕ × List Key)
target_in (Query-F.Root at) = Some (at, [])
target_in (Query-F.Item q xs) = target_from (root_of q) (target_keys xs)
target_in _ = None

abbrev pub target_of : Query → Option (ℕ × List Key)
target_of q = target_in (out-Query q)

-- What a mapping is read as at first: a query alone, statements of which the first begins as a query would, or statements.
pub data Draft : Type 0 where
  Alone : Query → Draft
  Assigned : ℕ → List Key → Query → List Stmt → Draft
  All : List Stmt → Draft

-- the mapping, where it begins on a line
abbrev pub finish : ℕ → Draft → Mapping
finish line (Alone q) = m.Query line q
finish line (Assigned at xs q more) = m.Statements (st.Root at line xs q ∷ more)
finish line (All xs) = m.Statements xs

abbrev pub first_line : Lexemes → ℕ
first_line [] = 0
first_line (t ∷ ts) = t.line

-- whether tokens that begin with this reserved name, before the rest, begin with a statement that no query begins as
abbrev pub begins_with : Option Keyword → Lexemes → Bool
begins_with (Some w.Let) rest = true
begins_with (Some w.Map) rest = true
begins_with (Some w.Meta) rest = not (starts (is k.LeftParen) rest)
begins_with _ rest = false

abbrev pub begins_statement : Lexemes → Bool
begins_statement [] = false
begins_statement (t ∷ rest) = begins_with (reserved t) rest

module _ (inner : Reader Query) where
  -- ---- the statements of a map, which stand inside brackets

  abbrev pub map_root_after : Lexeme → List Key → Reader MapStmt
  map_root_after t xs = mapped (ms.Root t.at xs) (behind k.Assign inner)

  unfoldable pub map_root : Reader MapStmt
  map_root = seq (expect_reserved w.Root) (λ t. seq keys (map_root_after t))

  abbrev pub map_let_after : Lexeme → Reader MapStmt
  map_let_after name = mapped (ms.Let name.text) (behind k.Assign inner)

  unfoldable pub map_let : Reader MapStmt
  map_let = seq (expect_reserved w.Let) (λ _. seq (expect k.Name) map_let_after)

  unfoldable pub map_stmt : Reader MapStmt
  map_stmt = branch (is_reserved w.Root) map_root map_let

  unfoldable pub map_body : Reader (List MapStmt)
  map_body = separated separates_statement map_stmt

  -- ---- statements

  unfoldable pub assigned : Reader Query
  assigned = behind k.Assign (query_by inner)

  abbrev pub root_after : Lexeme → List Key → Reader Stmt
  root_after t xs = mapped (st.Root t.at t.line xs) assigned

  unfoldable pub root_stmt : Reader Stmt
  root_stmt = seq (expect_reserved w.Root) (λ t. seq keys (root_after t))

  abbrev pub meta_after : Lexeme → Option Key → Reader Stmt
  meta_after t x = mapped (st.Meta t.line x) assigned

  unfoldable pub meta_stmt : Reader Stmt
  meta_stmt = seq (expect_reserved w.Meta) (λ t. seq optional_key (meta_after t))

  abbrev pub let_after : Lexeme → Lexeme → Reader Stmt
  let_after t name = mapped (st.Let t.line name.text) assigned

  unfoldable pub let_stmt : Reader Stmt
  let_stmt = seq (expect_reserved w.Let) (λ t. seq (expect k.Name) (let_after t))

  abbrev pub map_after : Lexeme → Lexeme → Reader Stmt
  map_after t name = mapped (st.Map t.at name.text) (bracketed k.LeftBrace k.RightBrace map_body)

  unfoldable pub map_definition : Reader Stmt
  map_definition = seq (expect_reserved w.Map) (λ t. seq (expect k.Name) (map_after t))

  unfoldable pub stmt : Reader Stmt
  stmt = branch (is_reserved w.Root) root_stmt (branch (is_reserved w.Meta) meta_stmt (branch (is_reserved w.Let) let_stmt map_definition))

  -- statements, each behind a line feed
  unfoldable pub more_stmts : Reader (List Stmt)
  more_stmts = separated_more separates_statement stmt

  unfoldable pub statements : Reader (List Stmt)
  statements = seq stmt (λ x. mapped (with_first x) more_stmts)

  -- ---- mappings

  -- the rest of a first statement that begins as a query does, and the statements behind it
  unfoldable pub assigned_first : ℕ × List Key → Reader Draft
  assigned_first x = seq assigned (λ q. mapped (Assigned (x.0) (x.1) q) more_stmts)

  abbrev pub target_or_alone : Query → Option (ℕ × List Key) → Reader Draft
  target_or_alone q None = pure (Alone q)
  target_or_alone q (Some x) = branch (is k.Assign) (assigned_first x) (pure (Alone q))

  -- a query, and where it is a target and `=` follows it the statements that it begins
  unfoldable pub query_first : Reader Draft
  query_first = seq (query_by inner) (λ q. target_or_alone q (target_of q))

  unfoldable pub draft : Reader Draft
  draft ts = cond (begins_statement ts) (mapped All statements ts) (query_first ts)

  unfoldable pub mapping_by : Reader Mapping
  mapping_by ts = map_res (finish (first_line ts)) (draft ts)

  unfoldable pub check_by : Reader Mapping
  check_by ts = map_res (m.Query (first_line ts)) (query_by inner ts)

-- a mapping in which brackets nest at most so deep
unfoldable pub mapping : ℕ → Reader Mapping
mapping n = mapping_by (query n)

-- a query alone in which brackets nest at most so deep
unfoldable pub check : ℕ → Reader Mapping
check n = check_by (query n)
