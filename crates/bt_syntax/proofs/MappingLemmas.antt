-- What the readers of whole mappings answer, in the words of the grammar.
use Rattle.std.proofs.Common.{◌≡◌, ℕ, suc, ◌<◌, Bool, true, false, List, [], ◌∷◌, ◌++◌, Option, Some, None, length, ◌⊎◌, inl, inr, refl, sym, ap, ◌∙◌, subst, append-nil, append_assoc, arith}
use Rattle.bt_lexer.specs.declared.token.Kind.TheVariants as kinds
use Rattle.bt_syntax.specs.declared.keywords.Keyword.TheVariants as w
use Rattle.bt_tree.specs.declared.tree.Key.{Key}
use Rattle.bt_tree.specs.declared.tree.Query.{Query}
use Rattle.bt_tree.specs.declared.tree.Stmt.{Stmt}
use Rattle.bt_tree.specs.declared.tree.Stmt.TheVariants as st
use Rattle.bt_tree.specs.declared.tree.Mapping.{Mapping}
use Rattle.bt_tree.specs.declared.tree.Mapping.TheVariants as mapping
use Rattle.bt_syntax.specs.Lexemes.{Lexeme, Lexemes}
use Rattle.bt_syntax.specs.Places.{NoneFrom, FirstBad}
use Rattle.bt_syntax.specs.Brackets.{deep_at}
use Rattle.bt_syntax.specs.Rules.{Repeated, Behind}
use Rattle.bt_syntax.specs.Grammar as g
use Rattle.bt_syntax.specs.Grammar.{separates_statements, IsReserved, IsKey, IsQuery, IsStmt, IsMapping, IsCheck, Nested, ReadsMapping, ReadsCheck}
use Rattle.bt_syntax.specs.Reading.{Res, Got, Stuck, Deep, Reader, map_res, starts}
use Rattle.bt_syntax.specs.Readers as r
use Rattle.bt_syntax.specs.Readers.{is, is_reserved, target_of, Draft, Alone, Assigned, All, finish, first_line}
use Rattle.bt_syntax.proofs.Lawful.{Lawful}
use Rattle.bt_syntax.proofs.Branches.{starts_front, starts_more}
use Rattle.bt_syntax.proofs.TokenLemmas.{below}
use Rattle.bt_syntax.proofs.Forms.{behind_begins}
use Rattle.bt_syntax.proofs.Lists.{separated_into, separated_from}
use Rattle.bt_syntax.proofs.HeadLemmas.{starts_at}
use Rattle.bt_syntax.proofs.FirstTokens.{query_begins}
use Rattle.bt_syntax.proofs.QueryLemmas.{query_by_lawful, query_lawful, other_word}
use Rattle.bt_syntax.proofs.BeginLemmas.{stmt_some}
use Rattle.bt_syntax.proofs.TargetLemmas.{query_target, target_query}
use Rattle.bt_syntax.proofs.DraftLemmas.{anything, Stmts, MoreStmts, FirstTail, DraftTail, QueryFirst, StmtsFirst, AnyDraft, alone_draft, draft_lawful}
use Rattle.bt_syntax.proofs.WholeLists.{Somehow, one_value, whole_read, too_long, too_short, never_deep, read_or_bad}

-- ---- from a mapping to what it is read as at first

-- the draft of a mapping that begins on a line
record Drafted (m : ℕ) (x : Mapping) (u : Lexemes) : Type 0 where
  draft : Draft
  reads : AnyDraft m draft u
  done : x ≡ finish (first_line u) draft

root_drafted : (m : ℕ) (x : Stmt) (u : Lexemes) (rest : List Stmt) (v : Lexemes) → IsStmt (Nested m) x u → MoreStmts m rest v → starts (is_reserved w.Root) u ≡ true → Drafted m (mapping.Statements (x ∷ rest)) (u ++ v)
unfolding AnyDraft QueryFirst DraftTail FirstTail
root_drafted m _ _ rest v (g.«root» {xs} {q} {u} {v = a} t h s s') tl b =
    (let (q', s2, e) = target_query (Nested m) t xs u h s in
    let (t', a', e', h') = behind_begins kinds.Assign Query (IsQuery (Nested m)) q a s' in
    record {
      draft = Assigned t.at xs q rest;
      reads = inr (
        q',
        t ∷ u,
        a ++ v,
        append_assoc (t ∷ u) a v,
        s2,
        subst (λ o. DraftTail m q' o (Assigned t.at xs q rest) (a ++ v)) (sym e)
            (inl ((q, a, v, refl, s', (rest, refl, tl)), starts_more (is kinds.Assign) a v (starts_at (is kinds.Assign) t' a a' true e' h'))),
      );
      done = refl;
    })
root_drafted m _ _ rest v (g.«meta» {x} {q} {u} {v = a} t h s s') tl b = absurd (let e : true ≡ false = sym b ∙ other_word w.Root w.Meta refl t h in cc)
root_drafted m _ _ rest v (g.«let» {q} {u} t name h h' s) tl b = absurd (let e : true ≡ false = sym b ∙ other_word w.Root w.Let refl t h in cc)
root_drafted m _ _ rest v (g.«map» {xs} {u} t name h h' s) tl b = absurd (let e : true ≡ false = sym b ∙ other_word w.Root w.Map refl t h in cc)

stmts_drafted : (m : ℕ) (xs : List Stmt) (u : Lexemes) (b : Bool) → starts (is_reserved w.Root) u ≡ b → Stmts m xs u → Drafted m (mapping.Statements xs) u
unfolding AnyDraft StmtsFirst
stmts_drafted m xs u false h s = record { draft = All xs; reads = inl ((xs, refl, s), h); done = refl }
stmts_drafted m xs u true h s =
    (let (x, u1, rest, v, e, s', tl, same) = separated_from separates_statements Stmt (IsStmt (Nested m)) xs u s in
    let h' = starts_front (is_reserved w.Root) u1 v (stmt_some (Nested m) x u1 s') (ap (starts (is_reserved w.Root)) (sym e) ∙ h) in
    subst (λ y. Drafted m (mapping.Statements y) u) (sym same) (subst (Drafted m (mapping.Statements (x ∷ rest))) (sym e) (root_drafted m x u1 rest v s' tl h')))

mapping_drafted : (m : ℕ) (x : Mapping) (u : Lexemes) → IsMapping (Nested m) x u → Drafted m x u
unfolding AnyDraft
mapping_drafted m _ _ (g.query_alone {q} {u} t s) = record { draft = Alone q; reads = inr (alone_draft m q (t ∷ u) s); done = refl }
mapping_drafted m _ _ (g.statements {xs} {u} s) = stmts_drafted m xs u (starts (is_reserved w.Root) u) refl s

-- ---- and back

alone_mapping : (m : ℕ) (q : Query) (u : Lexemes) → IsQuery (Nested m) q u → IsMapping (Nested m) (mapping.Query (first_line u) q) u
alone_mapping m q u s = (let (t, v, e, h) = query_begins (Nested m) q u s in go t u v e s)
  where
    go : (t : Lexeme) (u v : Lexemes) → u ≡ t ∷ v → IsQuery (Nested m) q u → IsMapping (Nested m) (mapping.Query (first_line u) q) u
    go t [] v e s = absurd (cc)
    go t (t' ∷ u) v e s = g.query_alone t' s

root_mapping : (m at : ℕ) (xs : List Key) (q : Query) (rest : List Stmt) (t : Lexeme) (u v a z : Lexemes) → u ≡ t ∷ v → at ≡ t.at → IsReserved w.Root t → Repeated Key (Behind kinds.Dot Key IsKey) xs v →
    Behind kinds.Assign Query (IsQuery (Nested m)) q a → MoreStmts m rest z → IsMapping (Nested m) (finish (first_line (u ++ (a ++ z))) (Assigned at xs q rest)) (u ++ (a ++ z))
root_mapping m at xs q rest t u v a z e place h s s' tl =
    rw e (rw place (g.statements (subst (Stmts m (st.Root t.at t.line xs q ∷ rest)) (append_assoc (t ∷ v) a z)
    (separated_into separates_statements Stmt (IsStmt (Nested m)) (st.Root t.at t.line xs q) (t ∷ (v ++ a)) rest z (g.«root» t h s s') tl))))

tail_mapping : (m : ℕ) (q : Query) (o : Option (ℕ × List Key)) (d : Draft) (u v : Lexemes) → target_of q ≡ o → IsQuery (Nested m) q u → DraftTail m q o d v → IsMapping (Nested m) (finish (first_line (u ++ v)) d) (u ++ v)
unfolding DraftTail FirstTail
tail_mapping m q None d u v e s (same, e') = rw same (rw e' (rw append-nil (alone_mapping m q u s)))
tail_mapping m q (Some p) d u v e s (inr ((same, e'), _)) = rw same (rw e' (rw append-nil (alone_mapping m q u s)))
tail_mapping m q (Some p) d u v e s (inl ((q', a, z, e', s', (rest, same, tl)), _)) =
    (let x = query_target (Nested m) q u p s e in rw same (rw e' (root_mapping m (p.0) (p.1) q' rest x.t u x.v a z x.whole x.place x.reads_root x.reads_keys s' tl)))

draft_mapping : (m : ℕ) (d : Draft) (u : Lexemes) → AnyDraft m d u → IsMapping (Nested m) (finish (first_line u) d) u
unfolding AnyDraft StmtsFirst QueryFirst
draft_mapping m d u (inl ((xs, same, s), _)) = rw same (g.statements s)
draft_mapping m d w (inr (q, u, v, e, s, tl)) = rw e (tail_mapping m q (target_of q) d u v refl s tl)

-- ---- what is finished with the line of its first token

module _ {A : Type 0} {c : A → Lexeme → Bool} {R : ℕ → A → Lexemes → Type 0} (f : ℕ → Reader A) (F : (k : ℕ) → Lawful A (suc k) (suc k) 0 0 c R (f k)) (S : ℕ → Mapping → Lexemes → Type 0) (done : ℕ → A → Mapping)
    (into : (m : ℕ) (a : A) (u : Lexemes) → R m a u → S m (done (first_line u) a) u) (from : (m : ℕ) (x : Mapping) (u : Lexemes) → S m x u → (a : A) × R m a u × (x ≡ done (first_line u) a)) where
  abbrev finished : ℕ → Reader Mapping
  finished k ts = map_res (done (first_line ts)) (f k ts)

  bad_finished : (ts rest : Lexemes) → FirstBad A (Somehow R) ts rest → FirstBad Mapping (Somehow S) ts rest
  bad_finished ts rest b =
      let (a, more, (m, s)) = b.viable in
      record {
        u = b.u;
        whole = b.whole;
        viable = (done (first_line (b.u ++ more)) a, more, (m, into m a (b.u ++ more) s));
        bad = none_from b.u rest b.bad;
        none = λ x (m, s). (let (a, r, same) = from m x ts s in b.none a (m, r));
      }
    where
      none_from : (u rest : Lexemes) → NoneFrom (Somehow R) u rest → NoneFrom (Somehow S) u rest
      none_from u [] f = tt
      none_from u (t ∷ rest) f = λ x more (m, s). (let (a, r, same) = from m x (u ++ t ∷ more) s in f a more (m, r))

  module _ (k : ℕ) (ts : Lexemes) where
    read_from : (y : Res A) (x : Mapping) → f k ts ≡ y → map_res (done (first_line ts)) y ≡ Got x [] → Somehow S x ts
    read_from (Got a rest) x e h =
        let h' : Got (done (first_line ts) a) rest ≡ Got x [] = h in
        let same : done (first_line ts) a ≡ x = cc in
        let same' : rest ≡ [] = cc in
        (let (m, r) = whole_read f F k ts a (e ∙ ap (λ y. Got a y) same') in subst (λ y. Somehow S y ts) same (m, into m a ts r))
    read_from (Stuck rest) x e h = absurd (cc)
    read_from Deep x e h = absurd (cc)

    long_from : (y : Res A) (x : Mapping) (t : Lexeme) (rest : Lexemes) → f k ts ≡ y → map_res (done (first_line ts)) y ≡ Got x (t ∷ rest) → FirstBad Mapping (Somehow S) ts (t ∷ rest)
    long_from (Got a rest') x t rest e h =
        let h' : Got (done (first_line ts) a) rest' ≡ Got x (t ∷ rest) = h in
        let same : rest' ≡ t ∷ rest = cc in
        bad_finished ts (t ∷ rest) (too_long f F k ts a t rest (e ∙ ap (λ y. Got a y) same))
    long_from (Stuck rest') x t rest e h = absurd (cc)
    long_from Deep x t rest e h = absurd (cc)

    short_from : (y : Res A) (rest : Lexemes) → f k ts ≡ y → map_res (done (first_line ts)) y ≡ Stuck rest → FirstBad Mapping (Somehow S) ts rest
    short_from (Got a rest') rest e h = absurd (cc)
    short_from (Stuck rest') rest e h =
        let h' : ◌≡◌ {A = Res Mapping} (Stuck rest') (Stuck rest) = h in
        let same : rest' ≡ rest = cc in
        bad_finished ts rest (too_short f F k ts rest (e ∙ ap (λ y. Stuck y) same))
    short_from Deep rest e h = absurd (cc)

  deep_from : (ts : Lexemes) (y : Res A) → f 64 ts ≡ y → map_res (done (first_line ts)) y ≡ Deep → deep_at 0 ts ≡ None → ⊥
  deep_from ts (Got a rest) e h = absurd (cc)
  deep_from ts (Stuck rest) e h = absurd (cc)
  deep_from ts Deep e h = λ n. never_deep f F ts n e

  pub one_finished : (x y : Mapping) (u : Lexemes) → Somehow S x u → Somehow S y u → x ≡ y
  one_finished x y u (m, s) (m', s') =
      (let (a, r, same) = from m x u s in let (b, r', same') = from m' y u s' in
      same ∙ ap (done (first_line u)) (one_value f F a b u (m, r) (m', r')) ∙ sym same')

  pub finished_or_bad : (ts : Lexemes) → ((x : Mapping) × Somehow S x ts) ⊎ ((rest : Lexemes) × FirstBad Mapping (Somehow S) ts rest)
  finished_or_bad ts = go (read_or_bad f F ts)
    where
      go : ((a : A) × Somehow R a ts) ⊎ ((rest : Lexemes) × FirstBad A (Somehow R) ts rest) → ((x : Mapping) × Somehow S x ts) ⊎ ((rest : Lexemes) × FirstBad Mapping (Somehow S) ts rest)
      go (inl (a, (m, r))) = inl (done (first_line ts) a, (m, into m a ts r))
      go (inr (rest, b)) = inr (rest, bad_finished ts rest b)

-- ---- mappings

drafts : (k : ℕ) → Lawful Draft (suc k) (suc k) 0 0 anything AnyDraft (r.draft (r.query k))
drafts k = draft_lawful (query_lawful k)

mapping_from : (m : ℕ) (x : Mapping) (u : Lexemes) → IsMapping (Nested m) x u → (d : Draft) × AnyDraft m d u × (x ≡ finish (first_line u) d)
mapping_from m x u s = (let d = mapping_drafted m x u s in (d.draft, d.reads, d.done))

pub mapping_read : (ts : Lexemes) (x : Mapping) → r.mapping 64 ts ≡ Got x [] → ReadsMapping x ts
unfolding r.mapping r.mapping_by
mapping_read ts x h = read_from (λ k. r.draft (r.query k)) drafts (λ m. IsMapping (Nested m)) finish draft_mapping mapping_from 64 ts (r.draft (r.query 64) ts) x refl h

pub mapping_longer : (ts : Lexemes) (x : Mapping) (rest : Lexemes) → r.mapping 64 ts ≡ Got x rest → 0 < length rest → FirstBad Mapping ReadsMapping ts rest
unfolding r.mapping r.mapping_by
mapping_longer ts x [] h l = absurd (omega arith)
mapping_longer ts x (t ∷ rest) h l = long_from (λ k. r.draft (r.query k)) drafts (λ m. IsMapping (Nested m)) finish draft_mapping mapping_from 64 ts (r.draft (r.query 64) ts) x t rest refl h

pub mapping_stuck : (ts rest : Lexemes) → r.mapping 64 ts ≡ Stuck rest → FirstBad Mapping ReadsMapping ts rest
unfolding r.mapping r.mapping_by
mapping_stuck ts rest h = short_from (λ k. r.draft (r.query k)) drafts (λ m. IsMapping (Nested m)) finish draft_mapping mapping_from 64 ts (r.draft (r.query 64) ts) rest refl h

pub mapping_shallow : (ts : Lexemes) → deep_at 0 ts ≡ None → r.mapping 64 ts ≡ Deep → ⊥
unfolding r.mapping r.mapping_by
mapping_shallow ts n h = deep_from (λ k. r.draft (r.query k)) drafts (λ m. IsMapping (Nested m)) finish draft_mapping mapping_from ts (r.draft (r.query 64) ts) refl h n

pub one_mapping : (x y : Mapping) (u : Lexemes) → ReadsMapping x u → ReadsMapping y u → x ≡ y
one_mapping = one_finished (λ k. r.draft (r.query k)) drafts (λ m. IsMapping (Nested m)) finish draft_mapping mapping_from

pub mapping_or_bad : (ts : Lexemes) → ((x : Mapping) × ReadsMapping x ts) ⊎ ((rest : Lexemes) × FirstBad Mapping ReadsMapping ts rest)
mapping_or_bad = finished_or_bad (λ k. r.draft (r.query k)) drafts (λ m. IsMapping (Nested m)) finish draft_mapping mapping_from

-- ---- a query alone

queries : (k : ℕ) → Lawful Query (suc k) (suc k) 0 0 (below 9) (λ m. IsQuery (Nested m)) (r.query_by (r.query k))
queries k = query_by_lawful (query_lawful k)

check_into : (m : ℕ) (q : Query) (u : Lexemes) → IsQuery (Nested m) q u → IsCheck (Nested m) (mapping.Query (first_line u) q) u
check_into m q u s = (let (t, v, e, h) = query_begins (Nested m) q u s in go t u v e s)
  where
    go : (t : Lexeme) (u v : Lexemes) → u ≡ t ∷ v → IsQuery (Nested m) q u → IsCheck (Nested m) (mapping.Query (first_line u) q) u
    go t [] v e s = absurd (cc)
    go t (t' ∷ u) v e s = g.check t' s

check_from : (m : ℕ) (x : Mapping) (u : Lexemes) → IsCheck (Nested m) x u → (q : Query) × IsQuery (Nested m) q u × (x ≡ mapping.Query (first_line u) q)
check_from m _ _ (g.check {q} {u} t s) = (q, s, refl)

pub check_read : (ts : Lexemes) (x : Mapping) → r.check 64 ts ≡ Got x [] → ReadsCheck x ts
unfolding r.check r.check_by
check_read ts x h = read_from (λ k. r.query_by (r.query k)) queries (λ m. IsCheck (Nested m)) mapping.Query check_into check_from 64 ts (r.query_by (r.query 64) ts) x refl h

pub check_longer : (ts : Lexemes) (x : Mapping) (rest : Lexemes) → r.check 64 ts ≡ Got x rest → 0 < length rest → FirstBad Mapping ReadsCheck ts rest
unfolding r.check r.check_by
check_longer ts x [] h l = absurd (omega arith)
check_longer ts x (t ∷ rest) h l = long_from (λ k. r.query_by (r.query k)) queries (λ m. IsCheck (Nested m)) mapping.Query check_into check_from 64 ts (r.query_by (r.query 64) ts) x t rest refl h

pub check_stuck : (ts rest : Lexemes) → r.check 64 ts ≡ Stuck rest → FirstBad Mapping ReadsCheck ts rest
unfolding r.check r.check_by
check_stuck ts rest h = short_from (λ k. r.query_by (r.query k)) queries (λ m. IsCheck (Nested m)) mapping.Query check_into check_from 64 ts (r.query_by (r.query 64) ts) rest refl h

pub check_shallow : (ts : Lexemes) → deep_at 0 ts ≡ None → r.check 64 ts ≡ Deep → ⊥
unfolding r.check r.check_by
check_shallow ts n h = deep_from (λ k. r.query_by (r.query k)) queries (λ m. IsCheck (Nested m)) mapping.Query check_into check_from ts (r.query_by (r.query 64) ts) refl h n

pub one_check : (x y : Mapping) (u : Lexemes) → ReadsCheck x u → ReadsCheck y u → x ≡ y
one_check = one_finished (λ k. r.query_by (r.query k)) queries (λ m. IsCheck (Nested m)) mapping.Query check_into check_from

pub check_or_bad : (ts : Lexemes) → ((x : Mapping) × ReadsCheck x ts) ⊎ ((rest : Lexemes) × FirstBad Mapping ReadsCheck ts rest)
check_or_bad = finished_or_bad (λ k. r.query_by (r.query k)) queries (λ m. IsCheck (Nested m)) mapping.Query check_into check_from
