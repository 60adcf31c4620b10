-- Each reader of the grammar takes a token or more.
use Rattle.std.proofs.Common.{◌≡◌, ℕ, zero, suc, ◌<◌, List, [], ◌∷◌, Bool, true, false, Option, Some, None, length}
use Rattle.bt_lexer.specs.declared.token.Kind.{Kind}
use Rattle.bt_lexer.specs.declared.token.Kind.TheVariants as k
use Rattle.bt_syntax.specs.declared.keywords.Keyword.{Keyword}
use Rattle.bt_syntax.specs.declared.keywords.Keyword.TheVariants as w
use Rattle.bt_tree.specs.declared.tree.Key.{Key}
use Rattle.bt_tree.specs.declared.tree.Query.{Query}
use Rattle.bt_tree.specs.declared.tree.Suffix.{Suffix}
use Rattle.bt_tree.specs.declared.tree.Arg.{Arg}
use Rattle.bt_tree.specs.declared.tree.Member.{Member}
use Rattle.bt_tree.specs.declared.tree.Term.{Term}
use Rattle.bt_tree.specs.declared.tree.Case.{Case}
use Rattle.bt_tree.specs.declared.tree.Branch.{Branch}
use Rattle.bt_tree.specs.declared.tree.MapStmt.{MapStmt}
use Rattle.bt_tree.specs.declared.tree.Stmt.{Stmt}
use Rattle.bt_syntax.specs.Lexemes.{Lexeme, Lexemes}
use Rattle.bt_syntax.specs.Reading.{Reader, Got, seq, always}
use Rattle.bt_syntax.specs.Readers as r
use Rattle.bt_syntax.proofs.Takes.{Takes, Keeps, takes_keeps, pure_keeps, token_takes, seq_takes, seq_keeps, map_takes, map_keeps, branch_takes, branch_keeps, many_keeps}
use Rattle.bt_syntax.proofs.Turns.{expect_takes, element_takes}

pub reserved_takes : (v : Keyword) → Takes Lexeme (r.expect_reserved v)
unfolding r.expect_reserved
reserved_takes v = token_takes _

pub key_takes : Takes Key r.key
unfolding r.key
key_takes = token_takes _

behind_takes : {A : Type 0} {p : Reader A} (mark : Kind) → Takes A p → Takes A (r.behind mark p)
behind_takes mark P = seq_takes (expect_takes mark) (λ _. takes_keeps P)

bracketed_takes : {A : Type 0} {p : Reader A} (opening closing : Kind) → Keeps A p → Takes A (r.bracketed opening closing p)
bracketed_takes opening closing P = seq_takes (expect_takes opening) (λ _. seq_keeps P (λ x. map_keeps (λ _. x) (takes_keeps (expect_takes closing))))

listed_keeps : {A : Type 0} {p : Reader A} (closing : Kind) → Takes A p → Keeps (List A) (r.listed closing p)
listed_keeps closing P = map_keeps r.firsts (many_keeps (r.is_not closing) r.followed (takes_keeps (element_takes P)))

module _ (inner : Reader Query) (I : Takes Query inner) where
  lambda_keeps : (q : Query) (o : Option (List ℕ)) → Keeps (Arg Query) (r.lambda_or inner q o)
  lambda_keeps q None = pure_keeps _
  lambda_keeps q (Some u) = branch_keeps _ (map_keeps _ (takes_keeps (behind_takes k.Arrow I))) (pure_keeps _)

  pub arg_takes : Takes (Arg Query) (r.arg inner)
  unfolding r.arg
  arg_takes = seq_takes I (λ q. lambda_keeps q (r.name_of q))

  args_inside_keeps : Keeps (List (Arg Query)) (r.args_inside inner)
  unfolding r.args_inside
  args_inside_keeps = listed_keeps k.RightParen arg_takes

  args_takes : Takes (List (Arg Query)) (r.args inner)
  unfolding r.args
  args_takes = bracketed_takes k.LeftParen k.RightParen args_inside_keeps

  parens_takes : Takes Query (r.parens inner)
  unfolding r.parens
  parens_takes = map_takes _ (bracketed_takes k.LeftParen k.RightParen (takes_keeps I))

  items_inside_keeps : Keeps (List Query) (r.items_inside inner)
  unfolding r.items_inside
  items_inside_keeps = listed_keeps k.RightBracket I

  list_head_takes : Takes Query (r.list_head inner)
  unfolding r.list_head
  list_head_takes = map_takes _ (bracketed_takes k.LeftBracket k.RightBracket items_inside_keeps)

  pub member_takes : Takes (Member Query) (r.member inner)
  unfolding r.member
  member_takes = seq_takes (expect_takes k.Text) (λ t. map_keeps _ (takes_keeps (behind_takes k.Colon I)))

  members_inside_keeps : Keeps (List (Member Query)) (r.members_inside inner)
  unfolding r.members_inside
  members_inside_keeps = listed_keeps k.RightBrace member_takes

  object_head_takes : Takes Query (r.object_head inner)
  unfolding r.object_head
  object_head_takes = map_takes _ (bracketed_takes k.LeftBrace k.RightBrace members_inside_keeps)

  metadata_takes : Takes Query (r.metadata inner)
  unfolding r.metadata
  metadata_takes = seq_takes (expect_takes k.At) (λ _. branch_keeps _ (map_keeps _ (takes_keeps key_takes)) (pure_keeps _))

  named_takes : Takes Query (r.named inner)
  unfolding r.named
  named_takes = seq_takes (token_takes _) (λ t. branch_keeps _ (map_keeps _ (takes_keeps args_takes)) (pure_keeps _))

  meta_call_takes : Takes Query (r.meta_call inner)
  unfolding r.meta_call
  meta_call_takes = seq_takes (reserved_takes _) (λ t. map_keeps _ (takes_keeps args_takes))

  token_alone_takes : Takes Query (r.token_alone inner)
  unfolding r.token_alone
  token_alone_takes = token_takes _

  head_takes : Takes Query (r.head inner)
  unfolding r.head
  head_takes = branch_takes _ parens_takes (branch_takes _ list_head_takes (branch_takes _ object_head_takes (branch_takes _ metadata_takes (branch_takes _ named_takes (branch_takes _ meta_call_takes token_alone_takes)))))

  within_takes : Takes (Suffix Query) (r.within inner)
  unfolding r.within
  within_takes = map_takes _ (bracketed_takes k.LeftParen k.RightParen (takes_keeps arg_takes))

  named_suffix_takes : Takes (Suffix Query) (r.named_suffix inner)
  unfolding r.named_suffix
  named_suffix_takes = seq_takes (token_takes _) (λ t. branch_keeps _ (map_keeps _ (takes_keeps args_takes)) (pure_keeps _))

  after_dot_takes : Takes (Suffix Query) (r.after_dot inner)
  unfolding r.after_dot
  after_dot_takes = branch_takes _ within_takes (branch_takes _ named_suffix_takes (token_takes _))

  pub suffix_takes : Takes (Suffix Query) (r.suffix inner)
  unfolding r.suffix
  suffix_takes = behind_takes k.Dot after_dot_takes

  suffixes_keeps : Keeps (List (Suffix Query)) (r.suffixes inner)
  unfolding r.suffixes
  suffixes_keeps = many_keeps (r.is k.Dot) always (takes_keeps suffix_takes)

  item_takes : Takes Query (r.item inner)
  unfolding r.item
  item_takes = seq_takes head_takes (λ q. map_keeps _ suffixes_keeps)

  prefixed_takes : Takes Query (r.prefixed inner)
  unfolding r.prefixed
  prefixed_takes = seq_takes (token_takes _) (λ o. map_keeps _ (takes_keeps item_takes))

  unary_takes : Takes Query (r.unary inner)
  unfolding r.unary
  unary_takes = branch_takes _ prefixed_takes item_takes

  pub factor_takes : Takes (Term Query) (r.factor inner)
  unfolding r.factor
  factor_takes = seq_takes (token_takes _) (λ o. map_keeps _ (takes_keeps unary_takes))

  factors_keeps : Keeps (List (Term Query)) (r.factors inner)
  unfolding r.factors
  factors_keeps = many_keeps r.is_product always (takes_keeps factor_takes)

  product_takes : Takes Query (r.product inner)
  unfolding r.product
  product_takes = seq_takes unary_takes (λ q. map_keeps _ factors_keeps)

  pub term_takes : Takes (Term Query) (r.term inner)
  unfolding r.term
  term_takes = seq_takes (token_takes _) (λ o. map_keeps _ (takes_keeps product_takes))

  terms_keeps : Keeps (List (Term Query)) (r.terms inner)
  unfolding r.terms
  terms_keeps = many_keeps r.is_sum always (takes_keeps term_takes)

  sum_takes : Takes Query (r.sum inner)
  unfolding r.sum
  sum_takes = seq_takes product_takes (λ q. map_keeps _ terms_keeps)

  compared_takes : (q : Query) → Takes Query (r.compared inner q)
  unfolding r.compared
  compared_takes q = seq_takes (token_takes _) (λ o. map_keeps _ (takes_keeps sum_takes))

  comparison_takes : Takes Query (r.comparison inner)
  unfolding r.comparison
  comparison_takes = seq_takes sum_takes (λ q. branch_keeps _ (takes_keeps (compared_takes q)) (pure_keeps _))

  pub and_takes : Takes Query (r.behind k.And (r.comparison inner))
  and_takes = behind_takes k.And comparison_takes

  pub or_takes : Takes Query (r.behind k.Or (r.comparison inner))
  or_takes = behind_takes k.Or comparison_takes

  ands_keeps : Keeps (List Query) (r.ands inner)
  unfolding r.ands
  ands_keeps = many_keeps (r.is k.And) always (takes_keeps and_takes)

  ors_keeps : Keeps (List Query) (r.ors inner)
  unfolding r.ors
  ors_keeps = many_keeps (r.is k.Or) always (takes_keeps or_takes)

  and_or_keeps : (q : Query) (qs : List Query) → Keeps Query (r.and_or inner q qs)
  and_or_keeps q [] = map_keeps _ ors_keeps
  and_or_keeps q (x ∷ qs) = pure_keeps _

  logic_takes : Takes Query (r.logic inner)
  unfolding r.logic
  logic_takes = seq_takes comparison_takes (λ q. seq_keeps ands_keeps (and_or_keeps q))

  pub pipe_takes : Takes Query (r.behind k.Pipe (r.unary inner))
  pipe_takes = behind_takes k.Pipe unary_takes

  pipes_keeps : Keeps (List Query) (r.pipes inner)
  unfolding r.pipes
  pipes_keeps = many_keeps (r.is k.Pipe) always (takes_keeps pipe_takes)

  coalesce_keeps : (b : Bool) (q : Query) → Keeps Query (r.coalesce_if inner b q)
  coalesce_keeps true q = map_keeps _ pipes_keeps
  coalesce_keeps false q = pure_keeps _

  pub plain_takes : Takes Query (r.plain inner)
  unfolding r.plain
  plain_takes = seq_takes logic_takes (λ q. coalesce_keeps (r.is_unary q) q)

  any_case_takes : Takes (Case Query) (r.any_case inner)
  unfolding r.any_case
  any_case_takes = seq_takes (reserved_takes _) (λ _. map_keeps _ (takes_keeps (behind_takes k.FatArrow I)))

  when_case_takes : Takes (Case Query) (r.when_case inner)
  unfolding r.when_case
  when_case_takes = seq_takes I (λ p. map_keeps _ (takes_keeps (behind_takes k.FatArrow I)))

  one_case_takes : Takes (Case Query) (r.one_case inner)
  unfolding r.one_case
  one_case_takes = branch_takes _ any_case_takes when_case_takes

  pub next_case_takes : Takes (Case Query) (seq (r.passing r.separates_case) (λ _. r.one_case inner))
  next_case_takes = seq_takes (token_takes _) (λ _. takes_keeps one_case_takes)

  cases_takes : Takes (List (Case Query)) (r.cases inner)
  unfolding r.cases
  cases_takes = seq_takes one_case_takes (λ x. map_keeps _ (many_keeps r.separates_case always (takes_keeps next_case_takes)))

  subject_keeps : Keeps (Option Query) (r.subject inner)
  unfolding r.subject
  subject_keeps = branch_keeps _ (map_keeps _ (takes_keeps plain_takes)) (pure_keeps _)

  match_takes : Takes Query (r.match_query inner)
  unfolding r.match_query
  match_takes = seq_takes (reserved_takes _) (λ _. seq_keeps subject_keeps (λ o. map_keeps _ (takes_keeps (bracketed_takes k.LeftBrace k.RightBrace (takes_keeps cases_takes)))))

  block_takes : Takes Query (r.block inner)
  unfolding r.block
  block_takes = bracketed_takes k.LeftBrace k.RightBrace (takes_keeps I)

  tested_takes : Takes (Branch Query) (r.tested inner)
  unfolding r.tested
  tested_takes = seq_takes plain_takes (λ p. map_keeps _ (takes_keeps block_takes))

  if_tested_takes : Takes (Branch Query) (r.if_tested inner)
  unfolding r.if_tested
  if_tested_takes = seq_takes (reserved_takes _) (λ _. takes_keeps tested_takes)

  pub else_turn_takes : Takes r.Else (r.else_turn inner)
  unfolding r.else_turn
  else_turn_takes = seq_takes (reserved_takes _) (λ _. branch_keeps _ (map_keeps _ (takes_keeps if_tested_takes)) (map_keeps _ (takes_keeps block_takes)))

  elses_keeps : Keeps (List r.Else) (r.elses inner)
  unfolding r.elses
  elses_keeps = many_keeps (r.is_reserved w.Else) r.has_more (takes_keeps else_turn_takes)

  if_takes : Takes Query (r.if_query inner)
  unfolding r.if_query
  if_takes = seq_takes if_tested_takes (λ x. map_keeps _ elses_keeps)

  pub query_by_takes : Takes Query (r.query_by inner)
  unfolding r.query_by
  query_by_takes = branch_takes _ match_takes (branch_takes _ if_takes plain_takes)

pub query_takes : (n : ℕ) → Takes Query (r.query n)
unfolding r.query
query_takes zero = record { less = λ ts a rest e. none ts a rest e }
  where
    none : (ts : Lexemes) (a : Query) (rest : Lexemes) → r.query zero ts ≡ Got a rest → length rest < length ts
    none ts a rest e = absurd (cc)
query_takes (suc n) = query_by_takes (r.query n) (query_takes n)

-- ---- statements

pub next_key_takes : Takes Key (r.behind k.Dot r.key)
next_key_takes = behind_takes k.Dot key_takes

keys_keeps : Keeps (List Key) r.keys
unfolding r.keys
keys_keeps = many_keeps (r.is k.Dot) always (takes_keeps next_key_takes)

optional_key_keeps : Keeps (Option Key) r.optional_key
unfolding r.optional_key
optional_key_keeps = branch_keeps _ (map_keeps _ (takes_keeps key_takes)) (pure_keeps _)

module _ (inner : Reader Query) (I : Takes Query inner) where
  map_root_takes : Takes MapStmt (r.map_root inner)
  unfolding r.map_root
  map_root_takes = seq_takes (reserved_takes _) (λ t. seq_keeps keys_keeps (λ xs. map_keeps _ (takes_keeps (behind_takes k.Assign I))))

  map_let_takes : Takes MapStmt (r.map_let inner)
  unfolding r.map_let
  map_let_takes = seq_takes (reserved_takes _) (λ _. seq_keeps (takes_keeps (expect_takes k.Name)) (λ t. map_keeps _ (takes_keeps (behind_takes k.Assign I))))

  map_stmt_takes : Takes MapStmt (r.map_stmt inner)
  unfolding r.map_stmt
  map_stmt_takes = branch_takes _ map_root_takes map_let_takes

  pub next_map_stmt_takes : Takes MapStmt (seq (r.passing r.separates_statement) (λ _. r.map_stmt inner))
  next_map_stmt_takes = seq_takes (token_takes _) (λ _. takes_keeps map_stmt_takes)

  map_body_takes : Takes (List MapStmt) (r.map_body inner)
  unfolding r.map_body
  map_body_takes = seq_takes map_stmt_takes (λ x. map_keeps _ (many_keeps r.separates_statement always (takes_keeps next_map_stmt_takes)))

  assigned_takes : Takes Query (r.assigned inner)
  unfolding r.assigned
  assigned_takes = behind_takes k.Assign (query_by_takes inner I)

  root_stmt_takes : Takes Stmt (r.root_stmt inner)
  unfolding r.root_stmt
  root_stmt_takes = seq_takes (reserved_takes _) (λ t. seq_keeps keys_keeps (λ xs. map_keeps _ (takes_keeps assigned_takes)))

  meta_stmt_takes : Takes Stmt (r.meta_stmt inner)
  unfolding r.meta_stmt
  meta_stmt_takes = seq_takes (reserved_takes _) (λ t. seq_keeps optional_key_keeps (λ x. map_keeps _ (takes_keeps assigned_takes)))

  let_stmt_takes : Takes Stmt (r.let_stmt inner)
  unfolding r.let_stmt
  let_stmt_takes = seq_takes (reserved_takes _) (λ t. seq_keeps (takes_keeps (expect_takes k.Name)) (λ u. map_keeps _ (takes_keeps assigned_takes)))

  map_definition_takes : Takes Stmt (r.map_definition inner)
  unfolding r.map_definition
  map_definition_takes = seq_takes (reserved_takes _) (λ t. seq_keeps (takes_keeps (expect_takes k.Name)) (λ u. map_keeps _ (takes_keeps (bracketed_takes k.LeftBrace k.RightBrace (takes_keeps map_body_takes)))))

  stmt_takes : Takes Stmt (r.stmt inner)
  unfolding r.stmt
  stmt_takes = branch_takes _ root_stmt_takes (branch_takes _ meta_stmt_takes (branch_takes _ let_stmt_takes map_definition_takes))

  pub next_stmt_takes : Takes Stmt (seq (r.passing r.separates_statement) (λ _. r.stmt inner))
  next_stmt_takes = seq_takes (token_takes _) (λ _. takes_keeps stmt_takes)
