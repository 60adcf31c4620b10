-- The readers of queries see no places.
use Rattle.std.proofs.Common.{◌≡◌, ℕ, zero, suc, pos, Bool, true, false, List, [], ◌∷◌, map, Option, Some, None, refl, sym, ap, ◌∙◌}
use Rattle.bt_lexer.specs.declared.token.Kind.{Kind}
use Rattle.bt_lexer.specs.declared.token.Kind.TheVariants as k
use Rattle.bt_value.specs.declared.names.Op.{Op}
use Rattle.bt_syntax.specs.declared.keywords.Keyword.{Keyword}
use Rattle.bt_syntax.specs.declared.keywords.Keyword.TheVariants as w
use Rattle.bt_tree.specs.declared.tree.Query.{Query}
use Rattle.bt_tree.specs.declared.tree.Query.TheVariants as e
use Rattle.bt_tree.specs.declared.tree.Suffix.{Suffix}
use Rattle.bt_tree.specs.declared.tree.Suffix.TheVariants as s
use Rattle.bt_tree.specs.declared.tree.Arg.TheVariants as a
use Rattle.bt_tree.specs.declared.tree.Term.{Term}
use Rattle.bt_tree.specs.declared.tree.Case.TheVariants as case
use Rattle.bt_tree.specs.declared.tree.Branch.{Branch}
use Rattle.bt_syntax.specs.Lexemes.{Lexeme, reserved, number}
use Rattle.bt_syntax.specs.Grammar.{word, key_of, token_head, head_in, reserved_head, segment_of, segment_in, prefix_op, product_op, sum_op, comparison_op, is_free, free_in}
use Rattle.bt_tree.specs.Same.{query_erased}
use Rattle.bt_syntax.specs.Reading.{Reader, seq, mapped, pure, token, branch, always}
use Rattle.bt_syntax.specs.Readers as r
use Rattle.bt_syntax.specs.Readers.{is, is_not, is_key, is_prefix, is_product, is_sum, is_comparison, is_reserved, separates_case, Else, More, Last}
use Rattle.bt_tree.specs.Parts.{in_member, in_term, in_case, in_branch, in_option, arg_erased, part_erased}
use Rattle.bt_words.specs.Erasing.{erased, Blind}
use Rattle.bt_words.proofs.Blindness.{seq_blind, mapped_blind, pure_blind, token_blind, branch_blind, many_blind, passing_blind, expect_blind, expect_reserved_blind, is_reserved_blind, reserved_blind, behind_blind, bracketed_blind, listed_blind, separated_blind}
use Rattle.bt_words.proofs.ReadersErased.{name_erased, unary_erased}
use Rattle.bt_tree.proofs.ErasedLayers.{erased-Null, erased-True, erased-False, erased-Int, erased-Quoted, erased-This, erased-Root, erased-Name, erased-Var, erased-Metadata, erased-Meta, erased-Call, erased-Paren, erased-List, erased-Object, erased-Item, erased-Prefix, erased-Product, erased-Sum, erased-Compare, erased-And, erased-Or, erased-Coalesce, erased-Match, erased-If}

-- what has no places
abbrev pub same : {A : Type 0} → A → A
same x = x

pub same_option : {A : Type 0} (o : Option A) → o ≡ in_option same o
same_option None = refl
same_option (Some x) = refl

-- ---- tokens

pub is_free_blind : (t : Lexeme) → is_free (erased t) ≡ is_free t
is_free_blind t = ap (free_in t.kind) (reserved_blind t)

pub key_blind : Blind same r.key r.key
unfolding r.key
key_blind = token_blind same key_of key_of (λ t. same_option (key_of t))

head_word : (t : Lexeme) (o : Option Keyword) → reserved_head (erased t) o ≡ in_option query_erased (reserved_head t o)
head_word t None = refl
head_word t (Some w.Null) = ap Some (sym erased-Null)
head_word t (Some w.True) = ap Some (sym erased-True)
head_word t (Some w.False) = ap Some (sym erased-False)
head_word t (Some w.This) = ap Some (sym erased-This)
head_word t (Some w.Root) = ap Some (sym (erased-Root t.at))
head_word t (Some _) = refl

head_kind : (kd : Kind) (t : Lexeme) → head_in kd (erased t) ≡ in_option query_erased (head_in kd t)
head_kind k.Int t = ap Some (sym (erased-Int (pos (number t))))
head_kind k.Text t = ap Some (sym (erased-Quoted (word t)))
head_kind k.Var t = ap Some (sym (erased-Var (word t)))
head_kind k.Name t = ap (reserved_head (erased t)) (reserved_blind t) ∙ head_word t (reserved t)
head_kind _ t = refl

segment_kind : (kd : Kind) (t : Lexeme) → segment_in kd (erased t) ≡ in_option part_erased (segment_in kd t)
segment_kind k.Name t = refl
segment_kind k.Text t = refl
segment_kind k.Int t = refl
segment_kind _ t = refl

module _ {inner : Reader Query} (I : Blind query_erased inner inner) where
  -- ---- arguments

  lambda_blind : (q : Query) (o : Option (List ℕ)) → Blind arg_erased (r.lambda_or inner q o) (r.lambda_or inner (query_erased q) o)
  lambda_blind q None = pure_blind arg_erased (a.Query q) (a.Query (query_erased q)) refl
  lambda_blind q (Some name) =
      branch_blind arg_erased (is k.Arrow) (λ t. refl) (mapped_blind query_erased arg_erased (a.Lambda name) (a.Lambda name) (λ x. refl) (behind_blind query_erased I k.Arrow))
      (pure_blind arg_erased (a.Query q) (a.Query (query_erased q)) refl)

  after_name : (q : Query) (o : Option (List ℕ)) → o ≡ r.name_of q → Blind arg_erased (r.lambda_after inner q) (r.lambda_or inner (query_erased q) o)
  after_name q o e = record { same = λ ts. ap (λ y. r.lambda_or inner (query_erased q) y (map erased ts)) e ∙ (lambda_blind q (r.name_of q)).same ts }

  arg_blind : Blind arg_erased (r.arg inner) (r.arg inner)
  unfolding r.arg
  arg_blind = seq_blind query_erased arg_erased (r.lambda_after inner) (r.lambda_after inner) I (λ q. after_name q (r.name_of (query_erased q)) (name_erased q))

  args_blind : Blind (map arg_erased) (r.args inner) (r.args inner)
  unfolding r.args r.args_inside
  args_blind = bracketed_blind (map arg_erased) (listed_blind arg_erased arg_blind k.RightParen) k.LeftParen k.RightParen

  -- ---- heads

  parens_blind : Blind query_erased (r.parens inner) (r.parens inner)
  unfolding r.parens
  parens_blind = mapped_blind query_erased query_erased e.Paren e.Paren (λ q. sym (erased-Paren q)) (bracketed_blind query_erased I k.LeftParen k.RightParen)

  list_blind : Blind query_erased (r.list_head inner) (r.list_head inner)
  unfolding r.list_head r.items_inside
  list_blind = mapped_blind (map query_erased) query_erased e.List e.List (λ qs. sym (erased-List qs)) (bracketed_blind (map query_erased) (listed_blind query_erased I k.RightBracket) k.LeftBracket k.RightBracket)

  member_blind : Blind (in_member query_erased) (r.member inner) (r.member inner)
  unfolding r.member
  member_blind =
      seq_blind erased (in_member query_erased) (r.member_after inner) (r.member_after inner) (expect_blind k.Text)
      (λ t. mapped_blind query_erased (in_member query_erased) (r.member_of t) (r.member_of (erased t)) (λ q. refl) (behind_blind query_erased I k.Colon))

  object_blind : Blind query_erased (r.object_head inner) (r.object_head inner)
  unfolding r.object_head r.members_inside
  object_blind = mapped_blind (map (in_member query_erased)) query_erased e.Object e.Object (λ xs. sym (erased-Object xs))
      (bracketed_blind (map (in_member query_erased)) (listed_blind (in_member query_erased) member_blind k.RightBrace) k.LeftBrace k.RightBrace)

  key_or_all_blind : Blind query_erased (r.key_or_all inner) (r.key_or_all inner)
  key_or_all_blind = branch_blind query_erased is_key (λ t. refl) (mapped_blind same query_erased e.Meta e.Meta (λ x. sym (erased-Meta x)) key_blind) (pure_blind query_erased e.Metadata e.Metadata (sym erased-Metadata))

  metadata_blind : Blind query_erased (r.metadata inner) (r.metadata inner)
  unfolding r.metadata
  metadata_blind = behind_blind query_erased key_or_all_blind k.At

  call_blind : (t : Lexeme) → Blind query_erased (mapped (e.Call (word t)) (r.args inner)) (mapped (e.Call (word (erased t))) (r.args inner))
  call_blind t = mapped_blind (map arg_erased) query_erased (e.Call (word t)) (e.Call (word (erased t))) (λ xs. sym (erased-Call (word t) xs)) args_blind

  named_blind : Blind query_erased (r.named inner) (r.named inner)
  unfolding r.named
  named_blind =
      seq_blind erased query_erased (r.call_or_name inner) (r.call_or_name inner) (passing_blind is_free is_free_blind)
      (λ t. branch_blind query_erased (is k.LeftParen) (λ x. refl) (call_blind t) (pure_blind query_erased (e.Name (word t)) (e.Name (word (erased t))) (sym (erased-Name (word t)))))

  meta_call_blind : Blind query_erased (r.meta_call inner) (r.meta_call inner)
  unfolding r.meta_call
  meta_call_blind = seq_blind erased query_erased (λ t. mapped (e.Call (word t)) (r.args inner)) (λ t. mapped (e.Call (word t)) (r.args inner)) (expect_reserved_blind w.Meta) call_blind

  alone_blind : Blind query_erased (r.token_alone inner) (r.token_alone inner)
  unfolding r.token_alone
  alone_blind = token_blind query_erased token_head token_head (λ t. head_kind t.kind t)

  head_blind : Blind query_erased (r.head inner) (r.head inner)
  unfolding r.head
  head_blind =
      branch_blind query_erased (is k.LeftParen) (λ t. refl) parens_blind (branch_blind query_erased (is k.LeftBracket) (λ t. refl) list_blind
      (branch_blind query_erased (is k.LeftBrace) (λ t. refl) object_blind (branch_blind query_erased (is k.At) (λ t. refl) metadata_blind
      (branch_blind query_erased is_free is_free_blind named_blind (branch_blind query_erased (is_reserved w.Meta) (is_reserved_blind w.Meta) meta_call_blind alone_blind)))))

  -- ---- suffixes

  within_blind : Blind part_erased (r.within inner) (r.within inner)
  unfolding r.within
  within_blind = mapped_blind arg_erased part_erased s.Within s.Within (λ x. refl) (bracketed_blind arg_erased arg_blind k.LeftParen k.RightParen)

  named_suffix_blind : Blind part_erased (r.named_suffix inner) (r.named_suffix inner)
  unfolding r.named_suffix
  named_suffix_blind =
      seq_blind erased part_erased (r.method_or_name inner) (r.method_or_name inner) (passing_blind is_free is_free_blind)
      (λ t. branch_blind part_erased (is k.LeftParen) (λ x. refl)
      (mapped_blind (map arg_erased) part_erased (s.Method (word t)) (s.Method (word (erased t))) (λ xs. refl) args_blind)
      (pure_blind part_erased (s.Name t.text) (s.Name t.text) refl))

  suffix_blind : Blind part_erased (r.suffix inner) (r.suffix inner)
  unfolding r.suffix r.after_dot
  suffix_blind =
      behind_blind part_erased (branch_blind part_erased (is k.LeftParen) (λ t. refl) within_blind
      (branch_blind part_erased is_free is_free_blind named_suffix_blind (token_blind part_erased segment_of segment_of (λ t. segment_kind t.kind t)))) k.Dot

  suffixes_blind : Blind (map part_erased) (r.suffixes inner) (r.suffixes inner)
  unfolding r.suffixes
  suffixes_blind = many_blind part_erased (is k.Dot) (λ t. refl) always always (λ x. refl) suffix_blind

  -- ---- operators

  item_made : (q : Query) (xs : List (Suffix Query)) → r.item_of (query_erased q) (map part_erased xs) ≡ query_erased (r.item_of q xs)
  item_made q [] = refl
  item_made q (x ∷ xs) = sym (erased-Item q (x ∷ xs))

  item_blind : Blind query_erased (r.item inner) (r.item inner)
  unfolding r.item
  item_blind =
      seq_blind query_erased query_erased (λ q. mapped (r.item_of q) (r.suffixes inner)) (λ q. mapped (r.item_of q) (r.suffixes inner)) head_blind
      (λ q. mapped_blind (map part_erased) query_erased (r.item_of q) (r.item_of (query_erased q)) (item_made q) suffixes_blind)

  -- an operator, which has no place
  op_blind : {O : Type 0} (op : Kind → Option O) → Blind same (token (λ t. op t.kind)) (token (λ t. op t.kind))
  op_blind op = token_blind same (λ t. op t.kind) (λ t. op t.kind) (λ t. same_option (op t.kind))

  prefixed_blind : Blind query_erased (r.prefixed inner) (r.prefixed inner)
  unfolding r.prefixed
  prefixed_blind =
      seq_blind same query_erased (λ op. mapped (e.Prefix op) (r.item inner)) (λ op. mapped (e.Prefix op) (r.item inner)) (op_blind prefix_op)
      (λ op. mapped_blind query_erased query_erased (e.Prefix op) (e.Prefix op) (λ q. sym (erased-Prefix op q)) item_blind)

  unary_blind : Blind query_erased (r.unary inner) (r.unary inner)
  unfolding r.unary
  unary_blind = branch_blind query_erased is_prefix (λ t. refl) prefixed_blind item_blind

  -- an operand behind an operator
  operand_blind : (op : Kind → Option Op) {p : Reader Query} → Blind query_erased p p → Blind (in_term query_erased) (seq (token (λ t. op t.kind)) (λ x. mapped (r.term_of x) p)) (seq (token (λ t. op t.kind)) (λ x. mapped (r.term_of x) p))
  operand_blind op {p} P =
      seq_blind same (in_term query_erased) (λ x. mapped (r.term_of x) p) (λ x. mapped (r.term_of x) p) (op_blind op)
      (λ x. mapped_blind query_erased (in_term query_erased) (r.term_of x) (r.term_of x) (λ q. refl) P)

  product_made : (q : Query) (xs : List (Term Query)) → r.product_of (query_erased q) (map (in_term query_erased) xs) ≡ query_erased (r.product_of q xs)
  product_made q [] = refl
  product_made q (x ∷ xs) = sym (erased-Product q (x ∷ xs))

  product_blind : Blind query_erased (r.product inner) (r.product inner)
  unfolding r.product r.factors r.factor
  product_blind =
      seq_blind query_erased query_erased (λ q. mapped (r.product_of q) (r.factors inner)) (λ q. mapped (r.product_of q) (r.factors inner)) unary_blind
      (λ q. mapped_blind (map (in_term query_erased)) query_erased (r.product_of q) (r.product_of (query_erased q)) (product_made q)
      (many_blind (in_term query_erased) is_product (λ t. refl) always always (λ x. refl) (operand_blind product_op unary_blind)))

  sum_made : (q : Query) (xs : List (Term Query)) → r.sum_of (query_erased q) (map (in_term query_erased) xs) ≡ query_erased (r.sum_of q xs)
  sum_made q [] = refl
  sum_made q (x ∷ xs) = sym (erased-Sum q (x ∷ xs))

  sum_blind : Blind query_erased (r.sum inner) (r.sum inner)
  unfolding r.sum r.terms r.term
  sum_blind =
      seq_blind query_erased query_erased (λ q. mapped (r.sum_of q) (r.terms inner)) (λ q. mapped (r.sum_of q) (r.terms inner)) product_blind
      (λ q. mapped_blind (map (in_term query_erased)) query_erased (r.sum_of q) (r.sum_of (query_erased q)) (sum_made q)
      (many_blind (in_term query_erased) is_sum (λ t. refl) always always (λ x. refl) (operand_blind sum_op product_blind)))

  compared_blind : (q : Query) → Blind query_erased (r.compared inner q) (r.compared inner (query_erased q))
  unfolding r.compared
  compared_blind q =
      seq_blind same query_erased (λ op. mapped (e.Compare q op) (r.sum inner)) (λ op. mapped (e.Compare (query_erased q) op) (r.sum inner)) (op_blind comparison_op)
      (λ op. mapped_blind query_erased query_erased (e.Compare q op) (e.Compare (query_erased q) op) (λ p. sym (erased-Compare q op p)) sum_blind)

  comparison_blind : Blind query_erased (r.comparison inner) (r.comparison inner)
  unfolding r.comparison
  comparison_blind =
      seq_blind query_erased query_erased (λ q. branch is_comparison (r.compared inner q) (pure q)) (λ q. branch is_comparison (r.compared inner q) (pure q)) sum_blind
      (λ q. branch_blind query_erased is_comparison (λ t. refl) (compared_blind q) (pure_blind query_erased q (query_erased q) refl))

  or_made : (q : Query) (qs : List Query) → r.or_of (query_erased q) (map query_erased qs) ≡ query_erased (r.or_of q qs)
  or_made q [] = refl
  or_made q (p ∷ qs) = sym (erased-Or q (p ∷ qs))

  and_or_blind : (q : Query) (qs : List Query) → Blind query_erased (r.and_or inner q qs) (r.and_or inner (query_erased q) (map query_erased qs))
  unfolding r.ors
  and_or_blind q [] = mapped_blind (map query_erased) query_erased (r.or_of q) (r.or_of (query_erased q)) (or_made q) (many_blind query_erased (is k.Or) (λ t. refl) always always (λ x. refl) (behind_blind query_erased comparison_blind k.Or))
  and_or_blind q (p ∷ qs) = pure_blind query_erased (e.And q (p ∷ qs)) (e.And (query_erased q) (map query_erased (p ∷ qs))) (sym (erased-And q (p ∷ qs)))

  logic_blind : Blind query_erased (r.logic inner) (r.logic inner)
  unfolding r.logic r.ands
  logic_blind =
      seq_blind query_erased query_erased (λ q. seq (r.ands inner) (r.and_or inner q)) (λ q. seq (r.ands inner) (r.and_or inner q)) comparison_blind
      (λ q. seq_blind (map query_erased) query_erased (r.and_or inner q) (r.and_or inner (query_erased q))
      (many_blind query_erased (is k.And) (λ t. refl) always always (λ x. refl) (behind_blind query_erased comparison_blind k.And)) (and_or_blind q))

  coalesce_made : (q : Query) (qs : List Query) → r.coalesce_of (query_erased q) (map query_erased qs) ≡ query_erased (r.coalesce_of q qs)
  coalesce_made q [] = refl
  coalesce_made q (p ∷ qs) = sym (erased-Coalesce q (p ∷ qs))

  coalesce_blind : (b : Bool) (q : Query) → Blind query_erased (r.coalesce_if inner b q) (r.coalesce_if inner b (query_erased q))
  unfolding r.pipes
  coalesce_blind true q = mapped_blind (map query_erased) query_erased (r.coalesce_of q) (r.coalesce_of (query_erased q)) (coalesce_made q) (many_blind query_erased (is k.Pipe) (λ t. refl) always always (λ x. refl) (behind_blind query_erased unary_blind k.Pipe))
  coalesce_blind false q = pure_blind query_erased q (query_erased q) refl

  tail_blind : (q : Query) (b : Bool) → b ≡ r.is_unary q → Blind query_erased (r.coalesce_if inner (r.is_unary q) q) (r.coalesce_if inner b (query_erased q))
  tail_blind q b e = record { same = λ ts. ap (λ y. r.coalesce_if inner y (query_erased q) (map erased ts)) e ∙ (coalesce_blind (r.is_unary q) q).same ts }

  plain_blind : Blind query_erased (r.plain inner) (r.plain inner)
  unfolding r.plain
  plain_blind =
      seq_blind query_erased query_erased (λ q. r.coalesce_if inner (r.is_unary q) q) (λ q. r.coalesce_if inner (r.is_unary q) q) logic_blind
      (λ q. tail_blind q (r.is_unary (query_erased q)) (unary_erased q))

  -- ---- match and if

  case_blind : Blind (in_case query_erased) (r.one_case inner) (r.one_case inner)
  unfolding r.one_case r.any_case r.when_case
  case_blind =
      branch_blind (in_case query_erased) (is_reserved w.Underscore) (is_reserved_blind w.Underscore)
      (seq_blind erased (in_case query_erased) (λ t. mapped case.Any (r.behind k.FatArrow inner)) (λ t. mapped case.Any (r.behind k.FatArrow inner)) (expect_reserved_blind w.Underscore)
      (λ t. mapped_blind query_erased (in_case query_erased) case.Any case.Any (λ q. refl) (behind_blind query_erased I k.FatArrow)))
      (seq_blind query_erased (in_case query_erased) (λ p. mapped (case.When p) (r.behind k.FatArrow inner)) (λ p. mapped (case.When p) (r.behind k.FatArrow inner)) I
      (λ p. mapped_blind query_erased (in_case query_erased) (case.When p) (case.When (query_erased p)) (λ q. refl) (behind_blind query_erased I k.FatArrow)))

  subject_blind : Blind (in_option query_erased) (r.subject inner) (r.subject inner)
  unfolding r.subject
  subject_blind = branch_blind (in_option query_erased) (is_not k.LeftBrace) (λ t. refl) (mapped_blind query_erased (in_option query_erased) Some Some (λ q. refl) plain_blind) (pure_blind (in_option query_erased) None None refl)

  match_blind : Blind query_erased (r.match_query inner) (r.match_query inner)
  unfolding r.match_query r.cases
  match_blind =
      seq_blind erased query_erased (λ t. seq (r.subject inner) (λ q. mapped (e.Match q) (r.bracketed k.LeftBrace k.RightBrace (r.cases inner))))
      (λ t. seq (r.subject inner) (λ q. mapped (e.Match q) (r.bracketed k.LeftBrace k.RightBrace (r.cases inner)))) (expect_reserved_blind w.Match)
      (λ t. seq_blind (in_option query_erased) query_erased (λ q. mapped (e.Match q) (r.bracketed k.LeftBrace k.RightBrace (r.cases inner))) (λ q. mapped (e.Match q) (r.bracketed k.LeftBrace k.RightBrace (r.cases inner))) subject_blind
      (λ q. mapped_blind (map (in_case query_erased)) query_erased (e.Match q) (e.Match (in_option query_erased q)) (λ xs. sym (erased-Match q xs))
      (bracketed_blind (map (in_case query_erased)) (separated_blind (in_case query_erased) case_blind separates_case (λ x. refl)) k.LeftBrace k.RightBrace)))

  block_blind : Blind query_erased (r.block inner) (r.block inner)
  unfolding r.block
  block_blind = bracketed_blind query_erased I k.LeftBrace k.RightBrace

  if_tested_blind : Blind (in_branch query_erased) (r.if_tested inner) (r.if_tested inner)
  unfolding r.if_tested r.tested
  if_tested_blind =
      seq_blind erased (in_branch query_erased) (λ t. r.tested inner) (λ t. r.tested inner) (expect_reserved_blind w.If)
      (λ t. seq_blind query_erased (in_branch query_erased) (λ p. mapped (r.branch_of p) (r.block inner)) (λ p. mapped (r.branch_of p) (r.block inner)) plain_blind
      (λ p. mapped_blind query_erased (in_branch query_erased) (r.branch_of p) (r.branch_of (query_erased p)) (λ q. refl) block_blind))

  abbrev in_else : Else → Else
  in_else (More x) = More (in_branch query_erased x)
  in_else (Last q) = Last (query_erased q)

  more_same : (x : Else) → r.has_more (in_else x) ≡ r.has_more x
  more_same (More x) = refl
  more_same (Last q) = refl

  elses_blind : Blind (map in_else) (r.elses inner) (r.elses inner)
  unfolding r.elses r.else_turn
  elses_blind =
      many_blind in_else (is_reserved w.Else) (is_reserved_blind w.Else) r.has_more r.has_more more_same
      (seq_blind erased in_else (λ t. r.if_or_block inner) (λ t. r.if_or_block inner) (expect_reserved_blind w.Else)
      (λ t. branch_blind in_else (is_reserved w.If) (is_reserved_blind w.If)
      (mapped_blind (in_branch query_erased) in_else More More (λ x. refl) if_tested_blind)
      (mapped_blind query_erased in_else Last Last (λ q. refl) block_blind)))

  branches_same : (xs : List Else) → r.branches_of (map in_else xs) ≡ map (in_branch query_erased) (r.branches_of xs)
  branches_same [] = refl
  branches_same (More x ∷ xs) = ap (λ ys. in_branch query_erased x ∷ ys) (branches_same xs)
  branches_same (Last q ∷ xs) = branches_same xs

  last_same : (xs : List Else) → r.last_of (map in_else xs) ≡ in_option query_erased (r.last_of xs)
  last_same [] = refl
  last_same (More x ∷ xs) = last_same xs
  last_same (Last q ∷ xs) = refl

  if_made : (x : Branch Query) (xs : List Else) → r.if_of (in_branch query_erased x) (map in_else xs) ≡ query_erased (r.if_of x xs)
  if_made x xs =
      ap (λ ys. e.If (in_branch query_erased x ∷ ys) (r.last_of (map in_else xs))) (branches_same xs)
      ∙ ap (e.If (map (in_branch query_erased) (x ∷ r.branches_of xs))) (last_same xs)
      ∙ sym (erased-If (x ∷ r.branches_of xs) (r.last_of xs))

  if_blind : Blind query_erased (r.if_query inner) (r.if_query inner)
  unfolding r.if_query
  if_blind =
      seq_blind (in_branch query_erased) query_erased (λ x. mapped (r.if_of x) (r.elses inner)) (λ x. mapped (r.if_of x) (r.elses inner)) if_tested_blind
      (λ x. mapped_blind (map in_else) query_erased (r.if_of x) (r.if_of (in_branch query_erased x)) (if_made x) elses_blind)

  pub query_by_blind : Blind query_erased (r.query_by inner) (r.query_by inner)
  unfolding r.query_by
  query_by_blind = branch_blind query_erased (is_reserved w.Match) (is_reserved_blind w.Match) match_blind (branch_blind query_erased (is_reserved w.If) (is_reserved_blind w.If) if_blind plain_blind)

pub query_blind : (n : ℕ) → Blind query_erased (r.query n) (r.query n)
unfolding r.query
query_blind zero = record { same = λ ts. refl }
query_blind (suc n) = record { same = (query_by_blind (query_blind n)).same }
