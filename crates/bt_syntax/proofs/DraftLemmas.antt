-- What a mapping is read as at first is read rightly.
use Rattle.std.proofs.Common.{◌≡◌, ℕ, suc, Bool, true, false, not, List, [], ◌∷◌, ◌++◌, Option, Some, None, ◌⊎◌, inl, inr, refl, sym, ap, ◌∙◌, append-nil, append_assoc, nat_lt, ⊎_elim}
use Rattle.bt_lexer.specs.declared.token.Kind.TheVariants as kinds
use Rattle.bt_syntax.specs.declared.keywords.Keyword.{Keyword}
use Rattle.bt_syntax.specs.declared.keywords.Keyword.TheVariants as w
use Rattle.bt_tree.specs.declared.tree.Key.{Key}
use Rattle.bt_tree.specs.declared.tree.Query.{Query}
use Rattle.bt_tree.specs.declared.tree.Query.TheVariants as e
use Rattle.bt_tree.specs.declared.tree.MapStmt.TheVariants as ms
use Rattle.bt_tree.specs.declared.tree.Stmt.{Stmt}
use Rattle.bt_tree.specs.declared.tree.Stmt.TheVariants as st
use Rattle.bt_syntax.specs.Lexemes.{Lexeme, Lexemes, reserved}
use Rattle.bt_syntax.specs.Places.{Viable}
use Rattle.bt_syntax.specs.Rules.{Repeated, none, Listed, empty, Separated, single, Behind, behind, Bracketed, bracketed, absent}
use Rattle.bt_syntax.specs.Rules as rules
use Rattle.bt_syntax.specs.Grammar as g
use Rattle.bt_syntax.specs.Grammar.{separates_statements, word, IsReserved, IsQuery, IsStmt, Nested}
use Rattle.bt_syntax.specs.Reading.{Got, Stuck, Deep, Reader, mapped, starts}
use Rattle.bt_syntax.specs.Readers as r
use Rattle.bt_syntax.specs.Readers.{is, is_reserved, same_keyword, target_of, Draft, Alone, Assigned, All, begins_with, begins_statement}
use Rattle.bt_syntax.proofs.Lawful.{Stops, DeadAt, SameHead, Read, Blocked, Opens, Lawful, Seq, Nil, Image, seq_lawful, map_lawful, pure_lawful}
use Rattle.bt_syntax.proofs.Branches.{Either, branch_lawful, starts_same}
use Rattle.bt_syntax.proofs.Many.{Begins, begins_some}
use Rattle.bt_syntax.proofs.TokenLemmas.{is_kind, sample, sample_word, sample_reserved, rank, below, over_rank}
use Rattle.bt_syntax.proofs.Forms.{behind_begins}
use Rattle.bt_syntax.proofs.Lists.{or_false, TurnOf, more_lawful, separated_lawful}
use Rattle.bt_syntax.proofs.QueryLemmas.{query_by_lawful, null_plain}
use Rattle.bt_syntax.proofs.StatementLemmas.{line_flat, line_rank, stmts_cont, assigned_lawful, stmt_lawful}
use Rattle.bt_syntax.proofs.BeginLemmas.{query_calm, stmts_begin}

-- which tokens go on behind a whole list: any
abbrev pub anything : {A : Type 0} → A → Lexeme → Bool
anything a t = true

stops_anything : {A B : Type 0} (c : A → Lexeme → Bool) (a : A) (b : B) (rest : Lexemes) → Stops (anything b) rest → Stops (c a) rest
stops_anything c a b [] s = tt
stops_anything c a b (t ∷ rest) s = absurd (cc)

-- ---- the two first tokens

begins_same : (o : Option Keyword) (x y : Lexemes) → starts (is kinds.LeftParen) x ≡ starts (is kinds.LeftParen) y → begins_with o x ≡ begins_with o y
begins_same None x y h = refl
begins_same (Some w.Meta) x y h = ap not h
begins_same (Some w.Let) x y h = refl
begins_same (Some w.Map) x y h = refl
begins_same (Some _) x y h = refl

statement_same : (t : Lexeme) (u rest more : Lexemes) → SameHead rest more → begins_statement (t ∷ (u ++ more)) ≡ begins_statement (t ∷ (u ++ rest))
statement_same t u rest more h = begins_same (reserved t) (u ++ more) (u ++ rest) (starts_same (is kinds.LeftParen) u rest more h)

begins_not_root : (o : Option Keyword) (v : Lexemes) → begins_with o v ≡ true → same_keyword w.Root o ≡ false
begins_not_root None v h = refl
begins_not_root (Some w.Root) v h = absurd (cc)
begins_not_root (Some w.This) v h = refl
begins_not_root (Some w.Match) v h = refl
begins_not_root (Some w.If) v h = refl
begins_not_root (Some w.Else) v h = refl
begins_not_root (Some w.True) v h = refl
begins_not_root (Some w.False) v h = refl
begins_not_root (Some w.Null) v h = refl
begins_not_root (Some w.Let) v h = refl
begins_not_root (Some w.Meta) v h = refl
begins_not_root (Some w.Map) v h = refl
begins_not_root (Some w.Underscore) v h = refl

not_root_first : (u v : Lexemes) → begins_statement (u ++ v) ≡ true → starts (is_reserved w.Root) u ≡ false
not_root_first [] v h = refl
not_root_first (t ∷ u) v h = begins_not_root (reserved t) (u ++ v) h

-- a reserved name of those that begin a statement
begins_word : (o : Option Keyword) (v : Lexemes) → begins_with o v ≡ true → (o ≡ Some w.Let) ⊎ ((o ≡ Some w.Map) ⊎ (o ≡ Some w.Meta))
begins_word (Some w.Let) v h = inl refl
begins_word (Some w.Map) v h = inr (inl refl)
begins_word (Some w.Meta) v h = inr (inr refl)
begins_word _ v h = absurd (cc)

-- Only `meta` begins a statement before some tokens and not before others.
begins_both : (o : Option Keyword) (x y : Lexemes) (b : Bool) → begins_with o x ≡ false → begins_with o y ≡ b → (b ≡ false) ⊎ (o ≡ Some w.Meta)
begins_both o x y false h h' = inl refl
begins_both (Some w.Let) x y true h h' = absurd (cc)
begins_both (Some w.Map) x y true h h' = absurd (cc)
begins_both (Some w.Meta) x y true h h' = inr refl
begins_both None x y true h h' = absurd (cc)
begins_both (Some _) x y true h h' = absurd (cc)

-- ---- the parts

abbrev pub Stmts : ℕ → List Stmt → Lexemes → Type 0
Stmts m = Separated separates_statements Stmt (IsStmt (Nested m))

abbrev pub MoreStmts : ℕ → List Stmt → Lexemes → Type 0
MoreStmts m = Repeated Stmt (TurnOf separates_statements (IsStmt (Nested m)))

unfoldable pub FirstTail : ℕ → ℕ × List Key → Draft → Lexemes → Type 0
FirstTail m x = Seq (Behind kinds.Assign Query (IsQuery (Nested m))) (λ q. Image (Assigned (x.0) (x.1) q) (MoreStmts m))

unfoldable pub DraftTail : ℕ → Query → Option (ℕ × List Key) → Draft → Lexemes → Type 0
DraftTail m q None = Nil (Alone q)
DraftTail m q (Some x) = Either (is kinds.Assign) (FirstTail m x) (Nil (Alone q))

unfoldable pub QueryFirst : ℕ → Draft → Lexemes → Type 0
QueryFirst m = Seq (IsQuery (Nested m)) (λ q. DraftTail m q (target_of q))

unfoldable pub StmtsFirst : ℕ → Draft → Lexemes → Type 0
StmtsFirst m d u = Image All (Stmts m) d u × (starts (is_reserved w.Root) u ≡ false)

unfoldable pub AnyDraft : ℕ → Draft → Lexemes → Type 0
AnyDraft m d u = StmtsFirst m d u ⊎ QueryFirst m d u

pub draft_alone : (m : ℕ) (q : Query) (o : Option (ℕ × List Key)) → DraftTail m q o (Alone q) []
unfolding DraftTail
draft_alone m q None = (refl, refl)
draft_alone m q (Some x) = inr ((refl, refl), refl)

pub alone_draft : (m : ℕ) (q : Query) (u : Lexemes) → IsQuery (Nested m) q u → QueryFirst m (Alone q) u
unfolding QueryFirst
alone_draft m q u s = (q, u, [], simp append-nil, s, draft_alone m q (target_of q))

module _ {fuel n : ℕ} {inner : Reader Query} (N : Lawful Query fuel n 0 0 (below 9) Nested inner) where
  -- ---- statements

  statements_lawful : Lawful (List Stmt) (suc fuel) n 0 0 (λ _. stmts_cont) Stmts (r.statements inner)
  unfolding r.statements r.more_stmts
  statements_lawful = separated_lawful separates_statements stmts_cont (stmt_lawful N) line_flat kinds.Nl refl
      (λ x t h. line_rank t.kind h) (λ x t h. (or_false (nat_lt (rank t.kind) 9) (separates_statements t.kind) h).0) (λ t h. (or_false (nat_lt (rank t.kind) 9) (separates_statements t.kind) h).1)

  more_stmts_lawful : Lawful (List Stmt) (suc fuel) n 0 0 (λ _. stmts_cont) MoreStmts (r.more_stmts inner)
  unfolding r.more_stmts
  more_stmts_lawful = more_lawful separates_statements stmts_cont (stmt_lawful N) line_flat kinds.Nl refl
      (λ x t h. line_rank t.kind h) (λ x t h. (or_false (nat_lt (rank t.kind) 9) (separates_statements t.kind) h).0) (λ t h. (or_false (nat_lt (rank t.kind) 9) (separates_statements t.kind) h).1)

  -- ---- a query, and what may stand behind it where it is a target

  first_tail_lawful : (x : ℕ × List Key) → Lawful Draft (suc fuel) n 0 0 anything (λ m. FirstTail m x) (r.assigned_first inner x)
  unfolding r.assigned_first FirstTail
  first_tail_lawful x = seq_lawful {S = λ m q. Image (Assigned (x.0) (x.1) q) (MoreStmts m)} (assigned_lawful N) (λ q. map_lawful anything (Assigned (x.0) (x.1) q) more_stmts_lawful (λ a t h. absurd (cc)))
      (λ m q d v rest (xs, same, s) stops. follows m q d v rest xs s stops)
    where
      follows : (m : ℕ) (q : Query) (d : Draft) (v rest : Lexemes) (xs : List Stmt) → MoreStmts m xs v → Stops (anything d) rest → Stops (below 9 q) (v ++ rest)
      follows m q d _ rest _ none s = stops_anything (below 9) q d rest s
      follows m q d _ rest _ (rules.Repeated.more {u} {v} (t, v', e, h, s') tl) s = rw e (line_rank t.kind h)

  first_tail_begins : (m : ℕ) (x : ℕ × List Key) (d : Draft) (u : Lexemes) → FirstTail m x d u → Begins (is kinds.Assign) u
  unfolding FirstTail
  first_tail_begins m x d w (q, u, v, e, s, s') = (let (t, u', e', h) = behind_begins kinds.Assign Query (IsQuery (Nested m)) q u s in (t, u' ++ v, e ∙ ap (λ y. y ++ v) e', h))

  draft_tail_lawful : (q : Query) (o : Option (ℕ × List Key)) → Lawful Draft (suc fuel) n 0 0 anything (λ m. DraftTail m q o) (r.target_or_alone inner q o)
  unfolding DraftTail
  draft_tail_lawful q None = pure_lawful (suc fuel) n 0 anything (Alone q)
  draft_tail_lawful q (Some x) = branch_lawful (is kinds.Assign) (first_tail_lawful x) (pure_lawful (suc fuel) n 0 anything (Alone q))
      (λ m d u s. begins_some (is kinds.Assign) u (first_tail_begins m x d u s))
      (λ m d s t h. absurd (cc))
      (Alone q, [], inr ((refl, refl), refl))

  draft_follows : (m : ℕ) (q : Query) (o : Option (ℕ × List Key)) (d : Draft) (v rest : Lexemes) → DraftTail m q o d v → Stops (anything d) rest → Stops (below 9 q) (v ++ rest)
  unfolding DraftTail
  draft_follows m q None d v rest (same, e) stops = rw e (stops_anything (below 9) q d rest stops)
  draft_follows m q (Some x) d v rest (inl (s, _)) stops = (let (t, v', e, h) = first_tail_begins m x d v s in rw e (over_rank 9 10 refl q t (ap rank (is_kind kinds.Assign t h))))
  draft_follows m q (Some x) d v rest (inr ((same, e), _)) stops = rw e (stops_anything (below 9) q d rest stops)

  query_first_lawful : Lawful Draft (suc fuel) n 0 0 anything QueryFirst (r.query_first inner)
  unfolding r.query_first QueryFirst
  query_first_lawful = seq_lawful {S = λ m q. DraftTail m q (target_of q)} (query_by_lawful N) (λ q. draft_tail_lawful q (target_of q)) (λ m q d v rest s stops. draft_follows m q (target_of q) d v rest s stops)

  -- ---- the first two tokens decide

  all_lawful : Lawful Draft (suc fuel) n 0 0 anything (λ m. Image All (Stmts m)) (mapped All (r.statements inner))
  all_lawful = map_lawful anything All statements_lawful (λ a t h. absurd (cc))

  first_begins : (m : ℕ) (d : Draft) (u v : Lexemes) → StmtsFirst m d u → begins_statement (u ++ v) ≡ true
  unfolding StmtsFirst
  first_begins m d u v ((xs, same, s), r) = stmts_begin (Nested m) xs u v s r

  first_calm : (m : ℕ) (d : Draft) (u v : Lexemes) → QueryFirst m d u → begins_statement (u ++ v) ≡ false
  unfolding QueryFirst
  first_calm m d w v (q, u, u', e, s, s') = ap (λ y. begins_statement (y ++ v)) e ∙ ap begins_statement (append_assoc u u' v) ∙ query_calm (Nested m) q u (u' ++ v) s

  draft_first : (ts : Lexemes) → begins_statement ts ≡ true → r.draft inner ts ≡ mapped All (r.statements inner) ts
  unfolding r.draft
  draft_first ts h = rw h refl

  draft_second : (ts : Lexemes) → begins_statement ts ≡ false → r.draft inner ts ≡ r.query_first inner ts
  unfolding r.draft
  draft_second ts h = rw h refl

  draft_got : (ts : Lexemes) (d : Draft) (rest : Lexemes) (b : Bool) → begins_statement ts ≡ b → r.draft inner ts ≡ Got d rest → Read Draft 0 0 (AnyDraft n) (r.draft inner) ts d rest
  unfolding AnyDraft StmtsFirst
  draft_got ts d rest true h g =
      let x = all_lawful.got ts d rest (sym (draft_first ts h) ∙ g) in
      let s : StmtsFirst n d x.u = (x.reads, not_root_first x.u rest (ap begins_statement (sym x.whole) ∙ h)) in
      record { u = x.u; whole = x.whole; reads = inl s; again = λ more e. draft_first (x.u ++ more) (first_begins n d x.u more s) ∙ x.again more e; level = x.level }
  draft_got ts d rest false h g =
      let x = query_first_lawful.got ts d rest (sym (draft_second ts h) ∙ g) in
      record { u = x.u; whole = x.whole; reads = inr x.reads; again = λ more e. draft_second (x.u ++ more) (first_calm n d x.u more x.reads) ∙ x.again more e; level = x.level }

  draft_all : (m : ℕ) (d : Draft) (u rest : Lexemes) → AnyDraft m d u → Stops (anything d) rest → (r.draft inner (u ++ rest) ≡ Got d rest) ⊎ (r.draft inner (u ++ rest) ≡ Deep)
  unfolding AnyDraft StmtsFirst
  draft_all m d u rest (inl (s, r)) stops = let e = draft_first (u ++ rest) (first_begins m d u rest (s, r)) in rw e (all_lawful.all m d u rest s stops)
  draft_all m d u rest (inr s) stops = let e = draft_second (u ++ rest) (first_calm m d u rest s) in rw e (query_first_lawful.all m d u rest s stops)

  -- ---- where it is stuck: never at the token by which it is decided

  null_query : IsQuery (Nested n) e.Null (sample_word w.Null ∷ [])
  null_query = g.plain_query (null_plain (Nested n))

  abbrev assigned_null : Lexemes
  assigned_null = sample kinds.Assign ∷ sample_word w.Null ∷ []

  null_assigned : Behind kinds.Assign Query (IsQuery (Nested n)) e.Null assigned_null
  null_assigned = behind (sample kinds.Assign) refl null_query

  let_made : (t : Lexeme) → IsReserved w.Let t → (x : Stmt) × (u : Lexemes) × IsStmt (Nested n) x (t ∷ u)
  let_made t h = (st.Let t.line [] e.Null, sample kinds.Name ∷ assigned_null, g.«let» t (sample kinds.Name) h refl null_assigned)

  meta_made : (t : Lexeme) → IsReserved w.Meta t → (x : Stmt) × (u : Lexemes) × IsStmt (Nested n) x (t ∷ u)
  meta_made t h = (st.Meta t.line None e.Null, assigned_null, g.«meta» t h absent null_assigned)

  map_made : (t : Lexeme) → IsReserved w.Map t → (x : Stmt) × (u : Lexemes) × IsStmt (Nested n) x (t ∷ u)
  map_made t h =
      (let (q, u, s) = N.inhabited in (
        st.Map t.at [] (ms.Let [] q ∷ []),
        sample kinds.Name ∷ sample kinds.LeftBrace ∷ ((sample_word w.Let ∷ sample kinds.Name ∷ sample kinds.Assign ∷ u) ++ sample kinds.RightBrace ∷ []),
        g.«map» t (sample kinds.Name) h refl (bracketed (sample kinds.LeftBrace) (sample kinds.RightBrace) refl
            (single (g.map_let (sample_word w.Let) (sample kinds.Name) (sample_reserved w.Let) refl (behind (sample kinds.Assign) refl s))) refl),
      ))

  stmt_made : (t : Lexeme) → (reserved t ≡ Some w.Let) ⊎ ((reserved t ≡ Some w.Map) ⊎ (reserved t ≡ Some w.Meta)) → (x : Stmt) × (u : Lexemes) × IsStmt (Nested n) x (t ∷ u)
  stmt_made t (inl h) = let_made t h
  stmt_made t (inr (inl h)) = map_made t h
  stmt_made t (inr (inr h)) = meta_made t h

  not_dead : (c : Draft → Lexeme → Bool) (R : ℕ → Draft → Lexemes → Type 0) (f : Reader Draft) → Lawful Draft (suc fuel) n 0 0 c R f → (t : Lexeme) (d : Draft) (u : Lexemes) → R n d (t ∷ u) →
      ((more : Lexemes) → f (t ∷ more) ≡ Stuck (t ∷ more)) → ⊥
  not_dead c R f F t d u s dead =
      let again = dead u in
      ⊎_elim (λ e. (let e' : Stuck (t ∷ u) ≡ Got d [] = sym again ∙ e in cc)) (λ e. (let e' : Stuck (t ∷ u) ≡ Deep = sym again ∙ e in cc)) (simp append-nil at (F.all n d (t ∷ u) [] s tt))

  dead_stmts : (t : Lexeme) (rest : Lexemes) → begins_statement (t ∷ rest) ≡ true → ((more : Lexemes) → mapped All (r.statements inner) (t ∷ more) ≡ Stuck (t ∷ more)) → ⊥
  dead_stmts t rest h dead =
      (let (x, u, s) = stmt_made t (begins_word (reserved t) rest h) in
      not_dead anything (λ m. Image All (Stmts m)) (mapped All (r.statements inner)) all_lawful t (All (x ∷ [])) u (x ∷ [], refl, single s) dead)

  meta_query : (t : Lexeme) → IsReserved w.Meta t → IsQuery (Nested n) (e.Call (word t) []) (t ∷ sample kinds.LeftParen ∷ sample kinds.RightParen ∷ [])
  meta_query t h = g.plain_query (g.logic (g.comparison_alone (g.sum_alone (g.product_alone (g.unary_alone (g.item_alone (g.head_alone
      (g.IsHead.meta_call t h (bracketed (sample kinds.LeftParen) (sample kinds.RightParen) refl empty refl)))))))))

  dead_meta : (t : Lexeme) → IsReserved w.Meta t → ((more : Lexemes) → r.query_first inner (t ∷ more) ≡ Stuck (t ∷ more)) → ⊥
  dead_meta t h dead = not_dead anything QueryFirst (r.query_first inner) query_first_lawful t (Alone (e.Call (word t) [])) (sample kinds.LeftParen ∷ sample kinds.RightParen ∷ [])
      (alone_draft n (e.Call (word t) []) _ (meta_query t h)) dead

  sample_draft : Viable (AnyDraft n) []
  unfolding AnyDraft
  sample_draft = (Alone e.Null, sample_word w.Null ∷ [], inr (alone_draft n e.Null (sample_word w.Null ∷ []) null_query))

  still_dead : (f : Reader Draft) (b : Bool) (t : Lexeme) (u rest : Lexemes) → ((ts : Lexemes) → begins_statement ts ≡ b → r.draft inner ts ≡ f ts) → begins_statement (t ∷ (u ++ rest)) ≡ b → DeadAt f (t ∷ u) rest → DeadAt (r.draft inner) (t ∷ u) rest
  still_dead f b t u [] same h dead = tt
  still_dead f b t u (x ∷ rest) same h dead = λ more. same (t ∷ (u ++ x ∷ more)) (statement_same t u (x ∷ rest) (x ∷ more) refl ∙ h) ∙ dead more

  stuck_first : (ts u rest : Lexemes) → ts ≡ u ++ rest → begins_statement ts ≡ true → Viable (Image All (Stmts n)) u → DeadAt (mapped All (r.statements inner)) u rest → Blocked Draft (AnyDraft n) (r.draft inner) ts rest
  unfolding AnyDraft StmtsFirst
  stuck_first ts [] [] whole h v dead = absurd (let h' : false ≡ true = ap begins_statement (sym whole) ∙ h in cc)
  stuck_first ts [] (t ∷ rest) whole h v dead = absurd (dead_stmts t rest (ap begins_statement (sym whole) ∙ h) dead)
  stuck_first ts (t ∷ u) rest whole h (d, more, s) dead =
      let h' = ap begins_statement (sym whole) ∙ h in
      record {
        u = t ∷ u;
        whole = whole;
        viable = (d, more, inl (s, begins_not_root (reserved t) (u ++ rest) h'));
        dead = still_dead (mapped All (r.statements inner)) true t u rest draft_first h' dead;
      }

  second_dead : (t : Lexeme) (rest : Lexemes) → begins_statement (t ∷ rest) ≡ false → ((more : Lexemes) → r.query_first inner (t ∷ more) ≡ Stuck (t ∷ more)) → (more : Lexemes) (b : Bool) → begins_statement (t ∷ more) ≡ b → r.draft inner (t ∷ more) ≡ Stuck (t ∷ more)
  second_dead t rest h dead more b h' =
      ⊎_elim (λ e. draft_second (t ∷ more) (h' ∙ e) ∙ dead more) (λ e. absurd (dead_meta t e dead)) (begins_both (reserved t) rest more b h h')

  stuck_second : (ts u rest : Lexemes) → ts ≡ u ++ rest → begins_statement ts ≡ false → Viable (QueryFirst n) u → DeadAt (r.query_first inner) u rest → Blocked Draft (AnyDraft n) (r.draft inner) ts rest
  unfolding AnyDraft
  stuck_second ts [] [] whole h v dead = record { u = []; whole = whole; viable = sample_draft; dead = tt }
  stuck_second ts [] (t ∷ rest) whole h v dead =
      record { u = []; whole = whole; viable = sample_draft; dead = λ more. second_dead t rest (ap begins_statement (sym whole) ∙ h) dead more (begins_statement (t ∷ more)) refl }
  stuck_second ts (t ∷ u) rest whole h (d, more, s) dead =
      record { u = t ∷ u; whole = whole; viable = (d, more, inr s); dead = still_dead (r.query_first inner) false t u rest draft_second (ap begins_statement (sym whole) ∙ h) dead }

  draft_stuck : (ts rest : Lexemes) (b : Bool) → begins_statement ts ≡ b → r.draft inner ts ≡ Stuck rest → Blocked Draft (AnyDraft n) (r.draft inner) ts rest
  draft_stuck ts rest true h g = (let x = all_lawful.stuck ts rest (sym (draft_first ts h) ∙ g) in stuck_first ts x.u rest x.whole h x.viable x.dead)
  draft_stuck ts rest false h g = (let x = query_first_lawful.stuck ts rest (sym (draft_second ts h) ∙ g) in stuck_second ts x.u rest x.whole h x.viable x.dead)

  draft_deep : (ts : Lexemes) (b : Bool) → begins_statement ts ≡ b → r.draft inner ts ≡ Deep → Opens (suc fuel) 0 ts
  draft_deep ts true h g = all_lawful.deep ts (sym (draft_first ts h) ∙ g)
  draft_deep ts false h g = query_first_lawful.deep ts (sym (draft_second ts h) ∙ g)

  pub draft_lawful : Lawful Draft (suc fuel) n 0 0 anything AnyDraft (r.draft inner)
  draft_lawful = record {
    got = λ ts d rest g. draft_got ts d rest (begins_statement ts) refl g;
    all = draft_all;
    stuck = λ ts rest g. draft_stuck ts rest (begins_statement ts) refl g;
    deep = λ ts g. draft_deep ts (begins_statement ts) refl g;
    inhabited = sample_draft;
  }
