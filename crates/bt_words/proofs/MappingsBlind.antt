-- The readers of statements and mappings see no places: tokens alike but for places are read alike but for places.
use Rattle.std.proofs.Common.{◌≡◌, ℕ, not, List, [], ◌∷◌, map, Option, Some, None, refl, ap, ◌∙◌}
use Rattle.bt_lexer.specs.declared.token.Kind.TheVariants as k
use Rattle.bt_syntax.specs.declared.keywords.Keyword.{Keyword}
use Rattle.bt_syntax.specs.declared.keywords.Keyword.TheVariants as w
use Rattle.bt_tree.specs.declared.tree.Key.{Key}
use Rattle.bt_tree.specs.declared.tree.Query.{Query}
use Rattle.bt_tree.specs.declared.tree.MapStmt.TheVariants as ms
use Rattle.bt_tree.specs.declared.tree.Stmt.TheVariants as st
use Rattle.bt_syntax.specs.Lexemes.{Lexemes, reserved}
use Rattle.bt_tree.specs.Same.{query_erased, map_stmt_erased, stmt_erased, mapping_erased}
use Rattle.bt_syntax.specs.Reading.{Reader, map_res, seq, mapped, always}
use Rattle.bt_syntax.specs.Readers as r
use Rattle.bt_syntax.specs.Readers.{is, is_key, is_reserved, separates_statement, Draft, Alone, Assigned, All}
use Rattle.bt_tree.specs.Parts.{in_option}
use Rattle.bt_words.specs.Erasing.{erased, Blind}
use Rattle.bt_words.proofs.Blindness.{seq_blind, mapped_blind, map_res_blind, pure_blind, branch_blind, cond_blind, many_blind, other_blind, starts_blind, expect_blind, expect_reserved_blind, is_reserved_blind, reserved_blind, behind_blind, bracketed_blind, separated_blind, separated_more_blind}
use Rattle.bt_words.proofs.ReadersErased.{target_erased, target_of_erased}
use Rattle.bt_words.proofs.QueriesBlind.{same, key_blind, query_by_blind, query_blind}

same_keys : (xs : List Key) → map same xs ≡ xs
same_keys [] = refl
same_keys (x ∷ xs) = ap (λ ys. x ∷ ys) (same_keys xs)

keys_blind : Blind same r.keys r.keys
unfolding r.keys
keys_blind = other_blind (map same) same same_keys (many_blind same (is k.Dot) (λ t. refl) always always (λ x. refl) (behind_blind same key_blind k.Dot))

optional_key_blind : Blind same r.optional_key r.optional_key
unfolding r.optional_key
optional_key_blind = branch_blind same is_key (λ t. refl) (mapped_blind same same Some Some (λ x. refl) key_blind) (pure_blind same None None refl)

-- where the first tokens begin with a statement that no query begins as
begins_word : (o : Option Keyword) (rest : Lexemes) → r.begins_with o (map erased rest) ≡ r.begins_with o rest
begins_word (Some w.Let) rest = refl
begins_word (Some w.Map) rest = refl
begins_word (Some w.Meta) rest = ap not (starts_blind (is k.LeftParen) (λ t. refl) rest)
begins_word (Some _) rest = refl
begins_word None rest = refl

begins_blind : (ts : Lexemes) → r.begins_statement (map erased ts) ≡ r.begins_statement ts
begins_blind [] = refl
begins_blind (t ∷ rest) = ap (λ o. r.begins_with o (map erased rest)) (reserved_blind t) ∙ begins_word (reserved t) rest

line_erased : (ts : Lexemes) → r.first_line (map erased ts) ≡ 0
line_erased [] = refl
line_erased (t ∷ rest) = refl

abbrev draft_erased : Draft → Draft
draft_erased (Alone q) = Alone (query_erased q)
draft_erased (Assigned at xs q more) = Assigned 0 xs (query_erased q) (map stmt_erased more)
draft_erased (All xs) = All (map stmt_erased xs)

finished : (line : ℕ) (d : Draft) → r.finish 0 (draft_erased d) ≡ mapping_erased (r.finish line d)
finished line (Alone q) = refl
finished line (Assigned at xs q more) = refl
finished line (All xs) = refl

module _ {inner : Reader Query} (I : Blind query_erased inner inner) where
  map_stmt_blind : Blind map_stmt_erased (r.map_stmt inner) (r.map_stmt inner)
  unfolding r.map_stmt r.map_root r.map_let
  map_stmt_blind =
      branch_blind map_stmt_erased (is_reserved w.Root) (is_reserved_blind w.Root)
      (seq_blind erased map_stmt_erased (λ t. seq r.keys (r.map_root_after inner t)) (λ t. seq r.keys (r.map_root_after inner t)) (expect_reserved_blind w.Root)
      (λ t. seq_blind same map_stmt_erased (r.map_root_after inner t) (r.map_root_after inner (erased t)) keys_blind
      (λ xs. mapped_blind query_erased map_stmt_erased (ms.Root t.at xs) (ms.Root 0 xs) (λ q. refl) (behind_blind query_erased I k.Assign))))
      (seq_blind erased map_stmt_erased (λ t. seq (r.expect k.Name) (r.map_let_after inner)) (λ t. seq (r.expect k.Name) (r.map_let_after inner)) (expect_reserved_blind w.Let)
      (λ t. seq_blind erased map_stmt_erased (r.map_let_after inner) (r.map_let_after inner) (expect_blind k.Name)
      (λ name. mapped_blind query_erased map_stmt_erased (ms.Let name.text) (ms.Let name.text) (λ q. refl) (behind_blind query_erased I k.Assign))))

  assigned_blind : Blind query_erased (r.assigned inner) (r.assigned inner)
  unfolding r.assigned
  assigned_blind = behind_blind query_erased (query_by_blind I) k.Assign

  stmt_blind : Blind stmt_erased (r.stmt inner) (r.stmt inner)
  unfolding r.stmt r.root_stmt r.meta_stmt r.let_stmt r.map_definition r.map_body
  stmt_blind =
      branch_blind stmt_erased (is_reserved w.Root) (is_reserved_blind w.Root)
      (seq_blind erased stmt_erased (λ t. seq r.keys (r.root_after inner t)) (λ t. seq r.keys (r.root_after inner t)) (expect_reserved_blind w.Root)
      (λ t. seq_blind same stmt_erased (r.root_after inner t) (r.root_after inner (erased t)) keys_blind
      (λ xs. mapped_blind query_erased stmt_erased (st.Root t.at t.line xs) (st.Root 0 0 xs) (λ q. refl) assigned_blind)))
      (branch_blind stmt_erased (is_reserved w.Meta) (is_reserved_blind w.Meta)
      (seq_blind erased stmt_erased (λ t. seq r.optional_key (r.meta_after inner t)) (λ t. seq r.optional_key (r.meta_after inner t)) (expect_reserved_blind w.Meta)
      (λ t. seq_blind same stmt_erased (r.meta_after inner t) (r.meta_after inner (erased t)) optional_key_blind
      (λ x. mapped_blind query_erased stmt_erased (st.Meta t.line x) (st.Meta 0 x) (λ q. refl) assigned_blind)))
      (branch_blind stmt_erased (is_reserved w.Let) (is_reserved_blind w.Let)
      (seq_blind erased stmt_erased (λ t. seq (r.expect k.Name) (r.let_after inner t)) (λ t. seq (r.expect k.Name) (r.let_after inner t)) (expect_reserved_blind w.Let)
      (λ t. seq_blind erased stmt_erased (r.let_after inner t) (r.let_after inner (erased t)) (expect_blind k.Name)
      (λ name. mapped_blind query_erased stmt_erased (st.Let t.line name.text) (st.Let 0 name.text) (λ q. refl) assigned_blind)))
      (seq_blind erased stmt_erased (λ t. seq (r.expect k.Name) (r.map_after inner t)) (λ t. seq (r.expect k.Name) (r.map_after inner t)) (expect_reserved_blind w.Map)
      (λ t. seq_blind erased stmt_erased (r.map_after inner t) (r.map_after inner (erased t)) (expect_blind k.Name)
      (λ name. mapped_blind (map map_stmt_erased) stmt_erased (st.Map t.at name.text) (st.Map 0 name.text) (λ xs. refl)
      (bracketed_blind (map map_stmt_erased) (separated_blind map_stmt_erased map_stmt_blind separates_statement (λ x. refl)) k.LeftBrace k.RightBrace))))))

  more_blind : Blind (map stmt_erased) (r.more_stmts inner) (r.more_stmts inner)
  unfolding r.more_stmts
  more_blind = separated_more_blind stmt_erased stmt_blind separates_statement (λ x. refl)

  statements_blind : Blind (map stmt_erased) (r.statements inner) (r.statements inner)
  unfolding r.statements
  statements_blind =
      seq_blind stmt_erased (map stmt_erased) (λ x. mapped (r.with_first x) (r.more_stmts inner)) (λ x. mapped (r.with_first x) (r.more_stmts inner)) stmt_blind
      (λ x. mapped_blind (map stmt_erased) (map stmt_erased) (r.with_first x) (r.with_first (stmt_erased x)) (λ xs. refl) more_blind)

  first_blind : (x : ℕ × List Key) → Blind draft_erased (r.assigned_first inner x) (r.assigned_first inner (target_erased x))
  unfolding r.assigned_first
  first_blind x =
      seq_blind query_erased draft_erased (λ q. mapped (Assigned (x.0) (x.1) q) (r.more_stmts inner)) (λ q. mapped (Assigned 0 (x.1) q) (r.more_stmts inner)) assigned_blind
      (λ q. mapped_blind (map stmt_erased) draft_erased (Assigned (x.0) (x.1) q) (Assigned 0 (x.1) (query_erased q)) (λ xs. refl) more_blind)

  target_blind : (q : Query) (o : Option (ℕ × List Key)) → Blind draft_erased (r.target_or_alone inner q o) (r.target_or_alone inner (query_erased q) (in_option target_erased o))
  target_blind q None = pure_blind draft_erased (Alone q) (Alone (query_erased q)) refl
  target_blind q (Some x) = branch_blind draft_erased (is k.Assign) (λ t. refl) (first_blind x) (pure_blind draft_erased (Alone q) (Alone (query_erased q)) refl)

  after_query : (q : Query) (o : Option (ℕ × List Key)) → o ≡ in_option target_erased (r.target_of q) → Blind draft_erased (r.target_or_alone inner q (r.target_of q)) (r.target_or_alone inner (query_erased q) o)
  after_query q o e = record { same = λ ts. ap (λ y. r.target_or_alone inner (query_erased q) y (map erased ts)) e ∙ (target_blind q (r.target_of q)).same ts }

  query_first_blind : Blind draft_erased (r.query_first inner) (r.query_first inner)
  unfolding r.query_first
  query_first_blind =
      seq_blind query_erased draft_erased (λ q. r.target_or_alone inner q (r.target_of q)) (λ q. r.target_or_alone inner q (r.target_of q)) (query_by_blind I)
      (λ q. after_query q (r.target_of (query_erased q)) (target_of_erased q))

  all_blind : Blind draft_erased (mapped All (r.statements inner)) (mapped All (r.statements inner))
  all_blind = mapped_blind (map stmt_erased) draft_erased All All (λ xs. refl) statements_blind

  draft_blind : Blind draft_erased (r.draft inner) (r.draft inner)
  unfolding r.draft
  draft_blind = record {
    same = λ ts. cond_blind draft_erased (r.begins_statement ts) (r.begins_statement (map erased ts)) (begins_blind ts) (mapped All (r.statements inner) ts) (r.query_first inner ts)
        (mapped All (r.statements inner) (map erased ts)) (r.query_first inner (map erased ts)) (all_blind.same ts) (query_first_blind.same ts);
  }

  pub mapping_by_blind : Blind mapping_erased (r.mapping_by inner) (r.mapping_by inner)
  unfolding r.mapping_by
  mapping_by_blind = record {
    same = λ ts. ap (λ n. map_res (r.finish n) (r.draft inner (map erased ts))) (line_erased ts) ∙ ap (map_res (r.finish 0)) (draft_blind.same ts)
        ∙ map_res_blind draft_erased mapping_erased (r.finish (r.first_line ts)) (r.finish 0) (finished (r.first_line ts)) (r.draft inner ts);
  }

pub mapping_blind : (n : ℕ) → Blind mapping_erased (r.mapping n) (r.mapping n)
unfolding r.mapping
mapping_blind n = record { same = (mapping_by_blind (query_blind n)).same }
