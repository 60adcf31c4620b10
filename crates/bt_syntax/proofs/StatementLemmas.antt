-- Statements are read rightly.
use Rattle.std.proofs.Common.{◌≡◌, ℕ, suc, Bool, true, false, ◌||◌, List, [], ◌∷◌, ◌++◌, Option, Some, inl, inr, refl, sym, ap, ◌∙◌, nat_lt}
use Rattle.bt_lexer.specs.declared.token.Kind.{Kind}
use Rattle.bt_lexer.specs.declared.token.Kind.TheVariants as kinds
use Rattle.bt_syntax.specs.declared.keywords.Keyword.{Keyword}
use Rattle.bt_syntax.specs.declared.keywords.Keyword.TheVariants as w
use Rattle.bt_tree.specs.declared.tree.Key.{Key}
use Rattle.bt_tree.specs.declared.tree.Query.{Query}
use Rattle.bt_tree.specs.declared.tree.Query.TheVariants as e
use Rattle.bt_tree.specs.declared.tree.MapStmt.{MapStmt}
use Rattle.bt_tree.specs.declared.tree.MapStmt.TheVariants as ms
use Rattle.bt_tree.specs.declared.tree.Stmt.{Stmt}
use Rattle.bt_tree.specs.declared.tree.Stmt.TheVariants as st
use Rattle.bt_syntax.specs.Lexemes.{Lexeme, Lexemes}
use Rattle.bt_syntax.specs.Rules.{Repeated, Separated, Behind, Bracketed, Optional}
use Rattle.bt_syntax.specs.Grammar as g
use Rattle.bt_syntax.specs.Grammar.{separates_statements, IsReserved, IsKey, AreKeys, IsQuery, IsMapStmt, IsStmt, Nested}
use Rattle.bt_syntax.specs.Reading.{Reader, branch, starts}
use Rattle.bt_syntax.specs.Readers as r
use Rattle.bt_syntax.specs.Readers.{is, is_key, is_reserved, same_keyword}
use Rattle.bt_syntax.proofs.Lawful.{Stops, Lawful, Seq, Image, nothing, seq_lawful, map_lawful, same_lawful}
use Rattle.bt_syntax.proofs.Branches.{Either, either_some, branch_lawful}
use Rattle.bt_syntax.proofs.TokenLemmas.{is_kind, word_is, rank, below, ends_mark, ends_key, over_rank, Flat}
use Rattle.bt_syntax.proofs.Forms.{AfterMark, AfterWord, after_mark_lawful, after_word_lawful, behind_lawful, behind_begins, bracketed_lawful, repeated_lawful}
use Rattle.bt_syntax.proofs.Lists.{or_false, separated_lawful, optional_lawful}
use Rattle.bt_syntax.proofs.HeadLemmas.{key_lawful, key_begins}
use Rattle.bt_syntax.proofs.QueryLemmas.{query_by_lawful, other_word}

pub line_flat : (kd : Kind) → separates_statements kd ≡ true → Flat kd
line_flat kinds.Nl h = λ d. refl
line_flat _ h = absurd (cc)

pub line_rank : (kd : Kind) → separates_statements kd ≡ true → nat_lt (rank kd) 9 ≡ false
line_rank kinds.Nl h = refl
line_rank _ h = absurd (cc)

-- what goes on behind a statement: what does behind its query, and a line feed
abbrev pub stmts_cont : Lexeme → Bool
stmts_cont t = nat_lt (rank t.kind) 9 || separates_statements t.kind

-- ---- { "." key }

keys_lawful : (k n : ℕ) → Lawful (List Key) k n 0 0 (below 3) (λ m. Repeated Key (Behind kinds.Dot Key IsKey)) r.keys
unfolding r.keys
keys_lawful k n = repeated_lawful (below {A = Query} 3 e.Null) (is kinds.Dot) (behind_lawful kinds.Dot (λ d. refl) (key_lawful k n 0)) (λ m x u s. behind_begins kinds.Dot Key IsKey x u s)
    (λ x t h. refl) (λ x t h. refl) (λ t h. ends_mark 3 kinds.Dot refl e.Null t h)

optional_key_lawful : (k n : ℕ) → Lawful (Option Key) k n 0 0 (below 2) (λ m. Optional Key IsKey) r.optional_key
unfolding r.optional_key
optional_key_lawful k n = optional_lawful (below {A = Query} 2 e.Null) is_key (key_lawful k n 0) (λ m. key_begins) (λ x t h. refl) (λ t h. ends_key 2 refl e.Null t h)

stops_assign : {A : Type 0} (top : ℕ) → nat_lt 10 top ≡ false → (x : A) (R : Query → Lexemes → Type 0) (q : Query) (v rest : Lexemes) → Behind kinds.Assign Query R q v → Stops (below top x) (v ++ rest)
stops_assign top low x R q v rest s = (let (t, v', e, h) = behind_begins kinds.Assign Query R q v s in rw e (over_rank top 10 low x t (ap rank (is_kind kinds.Assign t h))))

module _ {fuel n : ℕ} {inner : Reader Query} (N : Lawful Query fuel n 0 0 (below 9) Nested inner) where
  -- ---- the statements of a map

  abbrev RootParts : ℕ → Lexeme → MapStmt → Lexemes → Type 0
  RootParts m t = Seq (Repeated Key (Behind kinds.Dot Key IsKey)) (λ xs. Image (ms.Root t.at xs) (Behind kinds.Assign Query (Nested m)))

  map_root_lawful : Lawful MapStmt fuel n 0 0 (below 9) (λ m. AfterWord w.Root (RootParts m)) (r.map_root inner)
  unfolding r.map_root
  map_root_lawful = after_word_lawful {S = RootParts} w.Root (λ t. seq_lawful {S = λ m xs. Image (ms.Root t.at xs) (Behind kinds.Assign Query (Nested m))} (keys_lawful fuel n)
      (λ xs. map_lawful (below 9) (ms.Root t.at xs) (behind_lawful kinds.Assign (λ d. refl) N) (λ q t h. h))
      (λ m xs b v rest (q, same, s) stops. stops_assign 3 refl xs (Nested m) q v rest s))

  abbrev LetParts : ℕ → MapStmt → Lexemes → Type 0
  LetParts m = AfterMark kinds.Name (λ name. Image (ms.Let name.text) (Behind kinds.Assign Query (Nested m)))

  map_let_lawful : Lawful MapStmt fuel n 0 0 (below 9) (λ m. AfterWord w.Let (λ t. LetParts m)) (r.map_let inner)
  unfolding r.map_let
  map_let_lawful = after_word_lawful {S = λ m t. LetParts m} w.Let (λ t. after_mark_lawful {S = λ m name. Image (ms.Let name.text) (Behind kinds.Assign Query (Nested m))} kinds.Name (λ d. refl)
      (λ name. map_lawful (below 9) (ms.Let name.text) (behind_lawful kinds.Assign (λ d. refl) N) (λ q t h. h)))

  abbrev MapParts : ℕ → MapStmt → Lexemes → Type 0
  MapParts m = Either (is_reserved w.Root) (AfterWord w.Root (RootParts m)) (AfterWord w.Let (λ t. LetParts m))

  map_parts_lawful : Lawful MapStmt fuel n 0 0 (below 9) MapParts (r.map_stmt inner)
  unfolding r.map_stmt
  map_parts_lawful = branch_lawful (is_reserved w.Root) map_root_lawful map_let_lawful
      (λ m x u (t, v, e, h, s) e'. (let e'' : t ∷ v ≡ [] = sym e ∙ e' in cc))
      (λ m x (t, v, e, h, s) t' h'. absurd (let e'' : t ∷ v ≡ [] = sym e in cc))
      sample_let
    where
      sample_let : (x : MapStmt) × (u : Lexemes) × MapParts n x u
      sample_let = (let (x, u, s) = map_let_lawful.inhabited in (x, u, inr (s, let_not_root n x u s)))
        where
          let_not_root : (m : ℕ) (x : MapStmt) (u : Lexemes) → AfterWord w.Let (λ t. LetParts m) x u → starts (is_reserved w.Root) u ≡ false
          let_not_root m x u (t, v, e, h, s) = rw e (other_word w.Root w.Let refl t h)

  map_stmt_from : (m : ℕ) (x : MapStmt) (u : Lexemes) → IsMapStmt (Nested m) x u → MapParts m x u
  map_stmt_from m _ _ (g.map_root {xs} {q} {u} {v} t h s s') = inl ((t, u ++ v, refl, h, (xs, u, v, refl, s, (q, refl, s'))), word_is w.Root t h)
  map_stmt_from m _ _ (g.map_let {q} {u} t name h h' s) = inr ((t, name ∷ u, refl, h, (name, u, refl, h', (q, refl, s))), other_word w.Root w.Let refl t h)

  map_stmt_into : (m : ℕ) (x : MapStmt) (u : Lexemes) → MapParts m x u → IsMapStmt (Nested m) x u
  map_stmt_into m x w (inl ((t, v, e, h, (xs, u1, u2, e', s, (q, same, s'))), _)) = rw e (rw e' (rw same (g.map_root t h s s')))
  map_stmt_into m x w (inr ((t, v, e, h, (name, v', e', h', (q, same, s))), _)) = rw e (rw e' (rw same (g.map_let t name h h' s)))

  map_stmt_lawful : Lawful MapStmt fuel n 0 0 (below 9) (λ m. IsMapStmt (Nested m)) (r.map_stmt inner)
  map_stmt_lawful = same_lawful map_parts_lawful (λ m. IsMapStmt (Nested m)) map_stmt_into map_stmt_from

  map_body_lawful : Lawful (List MapStmt) fuel n 0 0 (λ _. stmts_cont) (λ m. Separated separates_statements MapStmt (IsMapStmt (Nested m))) (r.map_body inner)
  unfolding r.map_body
  map_body_lawful = separated_lawful separates_statements stmts_cont map_stmt_lawful line_flat kinds.Nl refl
      (λ x t h. line_rank t.kind h) (λ x t h. (or_false (nat_lt (rank t.kind) 9) (separates_statements t.kind) h).0) (λ t h. (or_false (nat_lt (rank t.kind) 9) (separates_statements t.kind) h).1)

  abbrev Body : ℕ → List MapStmt → Lexemes → Type 0
  Body m = Bracketed kinds.LeftBrace kinds.RightBrace (List MapStmt) (Separated separates_statements MapStmt (IsMapStmt (Nested m)))

  body_lawful : Lawful (List MapStmt) (suc fuel) n 0 0 nothing Body (r.bracketed kinds.LeftBrace kinds.RightBrace (r.map_body inner))
  body_lawful = bracketed_lawful kinds.LeftBrace kinds.RightBrace map_body_lawful refl refl refl (λ x t h. rw h refl)

  -- ---- statements

  abbrev Assigned : ℕ → Query → Lexemes → Type 0
  Assigned m = Behind kinds.Assign Query (IsQuery (Nested m))

  pub assigned_lawful : Lawful Query (suc fuel) n 0 0 (below 9) Assigned (r.assigned inner)
  unfolding r.assigned
  assigned_lawful = behind_lawful kinds.Assign (λ d. refl) (query_by_lawful N)

  abbrev RootStmtTail : ℕ → Lexeme → Stmt → Lexemes → Type 0
  RootStmtTail m t = Seq (Repeated Key (Behind kinds.Dot Key IsKey)) (λ xs. Image (st.Root t.at t.line xs) (Assigned m))

  abbrev RootStmt : ℕ → Stmt → Lexemes → Type 0
  RootStmt m = AfterWord w.Root (RootStmtTail m)

  root_lawful : Lawful Stmt (suc fuel) n 0 0 (below 9) RootStmt (r.root_stmt inner)
  unfolding r.root_stmt
  root_lawful = after_word_lawful {S = RootStmtTail} w.Root
      (λ t. seq_lawful {S = λ m xs. Image (st.Root t.at t.line xs) (Assigned m)} (keys_lawful (suc fuel) n) (λ xs. map_lawful (below 9) (st.Root t.at t.line xs) assigned_lawful (λ q t h. h))
      (λ m xs b v rest (q, same, s) stops. stops_assign 3 refl xs (IsQuery (Nested m)) q v rest s))

  abbrev MetaStmtTail : ℕ → Lexeme → Stmt → Lexemes → Type 0
  MetaStmtTail m t = Seq (Optional Key IsKey) (λ x. Image (st.Meta t.line x) (Assigned m))

  abbrev MetaStmt : ℕ → Stmt → Lexemes → Type 0
  MetaStmt m = AfterWord w.Meta (MetaStmtTail m)

  meta_lawful : Lawful Stmt (suc fuel) n 0 0 (below 9) MetaStmt (r.meta_stmt inner)
  unfolding r.meta_stmt
  meta_lawful = after_word_lawful {S = MetaStmtTail} w.Meta
      (λ t. seq_lawful {S = λ m x. Image (st.Meta t.line x) (Assigned m)} (optional_key_lawful (suc fuel) n) (λ x. map_lawful (below 9) (st.Meta t.line x) assigned_lawful (λ q t h. h))
      (λ m x b v rest (q, same, s) stops. stops_assign 2 refl x (IsQuery (Nested m)) q v rest s))

  abbrev LetStmtTail : ℕ → Lexeme → Stmt → Lexemes → Type 0
  LetStmtTail m t = AfterMark kinds.Name (λ name. Image (st.Let t.line name.text) (Assigned m))

  abbrev LetStmt : ℕ → Stmt → Lexemes → Type 0
  LetStmt m = AfterWord w.Let (LetStmtTail m)

  let_lawful : Lawful Stmt (suc fuel) n 0 0 (below 9) LetStmt (r.let_stmt inner)
  unfolding r.let_stmt
  let_lawful = after_word_lawful {S = LetStmtTail} w.Let
      (λ t. after_mark_lawful {S = λ m name. Image (st.Let t.line name.text) (Assigned m)} kinds.Name (λ d. refl) (λ name. map_lawful (below 9) (st.Let t.line name.text) assigned_lawful (λ q t h. h)))

  abbrev MapDefinitionTail : ℕ → Lexeme → Stmt → Lexemes → Type 0
  MapDefinitionTail m t = AfterMark kinds.Name (λ name. Image (st.Map t.at name.text) (Body m))

  abbrev MapDefinition : ℕ → Stmt → Lexemes → Type 0
  MapDefinition m = AfterWord w.Map (MapDefinitionTail m)

  map_definition_lawful : Lawful Stmt (suc fuel) n 0 0 (below 9) MapDefinition (r.map_definition inner)
  unfolding r.map_definition
  map_definition_lawful = after_word_lawful {S = MapDefinitionTail} w.Map
      (λ t. after_mark_lawful {S = λ m name. Image (st.Map t.at name.text) (Body m)} kinds.Name (λ d. refl) (λ name. map_lawful (below 9) (st.Map t.at name.text) body_lawful (λ x t h. refl)))

  abbrev Tail1 : ℕ → Stmt → Lexemes → Type 0
  Tail1 m = Either (is_reserved w.Let) (LetStmt m) (MapDefinition m)

  abbrev Tail0 : ℕ → Stmt → Lexemes → Type 0
  Tail0 m = Either (is_reserved w.Meta) (MetaStmt m) (Tail1 m)

  abbrev AnyStmt : ℕ → Stmt → Lexemes → Type 0
  AnyStmt m = Either (is_reserved w.Root) (RootStmt m) (Tail0 m)

  after_some : (S : Lexeme → Stmt → Lexemes → Type 0) (v : Keyword) (x : Stmt) (u : Lexemes) → AfterWord v S x u → u ≡ [] → ⊥
  after_some S v x u (t, u', e, h, s) e' = let e'' : t ∷ u' ≡ [] = sym e ∙ e' in cc

  other_start : (S : Lexeme → Stmt → Lexemes → Type 0) (v y : Keyword) → same_keyword v (Some y) ≡ false → (x : Stmt) (u : Lexemes) → AfterWord y S x u → starts (is_reserved v) u ≡ false
  other_start S v y h x u (t, u', e, h', s) = rw e (other_word v y h t h')

  tail1_lawful : Lawful Stmt (suc fuel) n 0 0 (below 9) Tail1 (branch (is_reserved w.Let) (r.let_stmt inner) (r.map_definition inner))
  tail1_lawful = branch_lawful (is_reserved w.Let) let_lawful map_definition_lawful (λ m. after_some (LetStmtTail m) w.Let) (λ m x s t h. absurd (after_some (MapDefinitionTail m) w.Map x [] s refl))
      (let (x, u, s) = map_definition_lawful.inhabited in (x, u, inr (s, other_start (MapDefinitionTail n) w.Let w.Map refl x u s)))

  tail0_lawful : Lawful Stmt (suc fuel) n 0 0 (below 9) Tail0 (branch (is_reserved w.Meta) (r.meta_stmt inner) (branch (is_reserved w.Let) (r.let_stmt inner) (r.map_definition inner)))
  tail0_lawful = branch_lawful (is_reserved w.Meta) meta_lawful tail1_lawful (λ m. after_some (MetaStmtTail m) w.Meta)
      (λ m x s t h. absurd (either_some (is_reserved w.Let) (LetStmt m) (MapDefinition m) x [] (after_some (MapDefinitionTail m) w.Map x []) s refl))
      (let (x, u, s) = map_definition_lawful.inhabited in (x, u, inr (inr (s, other_start (MapDefinitionTail n) w.Let w.Map refl x u s), other_start (MapDefinitionTail n) w.Meta w.Map refl x u s)))

  any_stmt_lawful : Lawful Stmt (suc fuel) n 0 0 (below 9) AnyStmt (r.stmt inner)
  unfolding r.stmt
  any_stmt_lawful = branch_lawful (is_reserved w.Root) root_lawful tail0_lawful (λ m. after_some (RootStmtTail m) w.Root)
      (λ m x s t h. absurd (either_some (is_reserved w.Meta) (MetaStmt m) (Tail1 m) x [] (either_some (is_reserved w.Let) (LetStmt m) (MapDefinition m) x [] (after_some (MapDefinitionTail m) w.Map x [])) s refl))
      (let (x, u, s) = map_definition_lawful.inhabited in (x, u, inr (inr (inr (s, other_start (MapDefinitionTail n) w.Let w.Map refl x u s), other_start (MapDefinitionTail n) w.Meta w.Map refl x u s), other_start (MapDefinitionTail n) w.Root w.Map refl x u s)))

  stmt_into : (m : ℕ) (x : Stmt) (u : Lexemes) → AnyStmt m x u → IsStmt (Nested m) x u
  stmt_into m x w (inl ((t, v, e, h, (xs, u1, u2, e', s, (q, same, s'))), _)) = rw e (rw e' (rw same (g.«root» t h s s')))
  stmt_into m x w (inr (inl ((t, v, e, h, (y, u1, u2, e', s, (q, same, s'))), _), _)) = rw e (rw e' (rw same (g.«meta» t h s s')))
  stmt_into m x w (inr (inr (inl ((t, v, e, h, (name, v', e', h', (q, same, s))), _), _), _)) = rw e (rw e' (rw same (g.«let» t name h h' s)))
  stmt_into m x w (inr (inr (inr ((t, v, e, h, (name, v', e', h', (xs, same, s))), _), _), _)) = rw e (rw e' (rw same (g.«map» t name h h' s)))

  stmt_from : (m : ℕ) (x : Stmt) (u : Lexemes) → IsStmt (Nested m) x u → AnyStmt m x u
  stmt_from m _ _ (g.«root» {xs} {q} {u} {v} t h s s') = inl ((t, u ++ v, refl, h, (xs, u, v, refl, s, (q, refl, s'))), word_is w.Root t h)
  stmt_from m _ _ (g.«meta» {x} {q} {u} {v} t h s s') = inr (inl ((t, u ++ v, refl, h, (x, u, v, refl, s, (q, refl, s'))), word_is w.Meta t h), other_word w.Root w.Meta refl t h)
  stmt_from m _ _ (g.«let» {q} {u} t name h h' s) = inr (inr (inl ((t, name ∷ u, refl, h, (name, u, refl, h', (q, refl, s))), word_is w.Let t h), other_word w.Meta w.Let refl t h), other_word w.Root w.Let refl t h)
  stmt_from m _ _ (g.«map» {xs} {u} t name h h' s) =
      inr (inr (inr ((t, name ∷ u, refl, h, (name, u, refl, h', (xs, refl, s))), other_word w.Let w.Map refl t h), other_word w.Meta w.Map refl t h), other_word w.Root w.Map refl t h)

  pub stmt_lawful : Lawful Stmt (suc fuel) n 0 0 (below 9) (λ m. IsStmt (Nested m)) (r.stmt inner)
  stmt_lawful = same_lawful any_stmt_lawful (λ m. IsStmt (Nested m)) stmt_into stmt_from
