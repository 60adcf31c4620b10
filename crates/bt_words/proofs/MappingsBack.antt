-- What is printed for a mapping is read back as the mapping without its places, wherever its words come to stand.
use Rattle.std.proofs.Common.{◌≡◌, ℕ, Bool, true, false, ◌&&◌, nat_eq, if◌then◌else◌, List, [], ◌∷◌, ◌++◌, map, Option, Some, None, refl, sym, ap, ◌∙◌, subst, arith}
use Rattle.bt_lexer.specs.declared.token.Kind.{Kind}
use Rattle.bt_lexer.specs.declared.token.Kind.TheVariants as k
use Rattle.bt_syntax.specs.declared.keywords.Keyword.TheVariants as w
use Rattle.bt_tree.specs.declared.tree.Key.{Key}
use Rattle.bt_tree.specs.declared.tree.Query.{Query}
use Rattle.bt_tree.specs.declared.tree.MapStmt.{MapStmt}
use Rattle.bt_tree.specs.declared.tree.Stmt.{Stmt}
use Rattle.bt_tree.specs.declared.tree.Mapping.{Mapping}
use Rattle.bt_tree.specs.declared.tree.Mapping.TheVariants as m
use Rattle.bt_syntax.specs.Lexemes.{Lexeme, Lexemes}
use Rattle.bt_tree.specs.Same.{query_erased, map_stmt_erased, stmt_erased, mapping_erased}
use Rattle.bt_syntax.specs.Brackets.{opens, step, deep_at, max_open}
use Rattle.bt_syntax.specs.Rules as rule
use Rattle.bt_syntax.specs.Rules.{Repeated, Separated, Behind, Bracketed, Optional}
use Rattle.bt_syntax.specs.Grammar as g
use Rattle.bt_syntax.specs.Grammar.{separates_cases, separates_statements, key_of, IsKey, IsQuery, IsMapStmt, IsStmt, IsMapping, Nested, ReadsMapping}
use Rattle.bt_syntax.specs.Reading.{Res, Got, Stuck, Deep}
use Rattle.bt_syntax.specs.Readers as r
use Rattle.bt_syntax.proofs.FirstTokens.{query_begins}
use Rattle.bt_syntax.proofs.MappingLemmas.{mapping_read, mapping_longer, mapping_stuck, mapping_shallow, one_mapping}
use Rattle.bt_words.specs.Erasing.{erased, res_erased}
use Rattle.bt_words.specs.Printing as print
use Rattle.bt_words.specs.Printing.{Piece, Space, Line, Token, Pieces, words_of, words, placeless, mark_word, reserved_word, key_word, query}
use Rattle.bt_words.proofs.Keeping.{Kept, none, same, lost, parted, mark_stands, Back, Printable, joined, ended}
use Rattle.bt_words.proofs.RulesBack.{bracketed_back, separated_back, led}
use Rattle.bt_words.proofs.TokensBack.{same_stands, spelled_reserved, word_stands, key_back, line_stands}
use Rattle.bt_words.proofs.QueriesBack.{query_back, nested_back}
use Rattle.bt_words.proofs.MappingsBlind.{mapping_blind}

abbrev AreKeys : List Key → Lexemes → Type 0
AreKeys = Repeated Key (Behind k.Dot Key IsKey)

keys_back : (xs : List Key) (u : Lexemes) → AreKeys xs u → Back (List Key) AreKeys xs u (print.keys xs)
keys_back _ _ rule.none = record { reads = rule.none; kept = none }
keys_back _ _ (rule.more {a = x} {rest} {v} (rule.behind {u} dot h (t, whole, is)) rs) =
    let b = key_back x t is in let c = keys_back rest v rs in
    subst (λ z. Back (List Key) AreKeys (x ∷ rest) (dot ∷ (z ++ v)) (print.keys (x ∷ rest))) (sym whole)
    (record {
      reads = rule.more (rule.behind (mark_word k.Dot) refl (key_word x, refl, b.reads)) c.reads;
      kept = same dot (mark_word k.Dot) (mark_stands k.Dot refl dot h) (same t (key_word x) b.stands c.kept);
    })

optional_key_back : (x : Option Key) (u : Lexemes) → Optional Key IsKey x u → Back (Option Key) (Optional Key IsKey) x u (print.optional_key x)
optional_key_back _ _ rule.absent = record { reads = rule.absent; kept = none }
optional_key_back _ _ (rule.present {a = x} {u} (t, whole, is)) =
    let b = key_back x t is in
    subst (λ z. Back (Option Key) (Optional Key IsKey) (Some x) z (print.optional_key (Some x))) (sym whole)
    (record { reads = rule.present (key_word x, refl, b.reads); kept = same t (key_word x) b.stands none })

module _ {R : Query → Lexemes → Type 0} (H : Printable Query R query_erased query) where
  assigned_back : (q : Query) (u : Lexemes) → Behind k.Assign Query R q u → Back Query (Behind k.Assign Query R) (query_erased q) u (print.assigned q)
  assigned_back _ _ (rule.behind {a = q} {u} t h s) = let b = H q u s in record { reads = rule.behind (mark_word k.Assign) refl b.reads; kept = same t (mark_word k.Assign) (mark_stands k.Assign refl t h) b.kept }

module _ (I : Query → Lexemes → Type 0) (H : Printable Query I query_erased query) where
  map_stmt_back : Printable MapStmt (IsMapStmt I) map_stmt_erased print.map_stmt
  map_stmt_back _ _ (g.map_root {xs} {q} {u} {v} t h ks s) =
      let b = keys_back xs u ks in let c = assigned_back H q v s in
      led t (reserved_word w.Root) (word_stands w.Root t h) (joined (print.keys xs) (print.assigned q) (g.map_root (reserved_word w.Root) (spelled_reserved w.Root) b.reads c.reads) b.kept c.kept)
  map_stmt_back _ _ (g.map_let {q} {u} t name h h' s) =
      let c = assigned_back H q u s in
      record {
        reads = g.map_let (reserved_word w.Let) (placeless k.Name name.text) (spelled_reserved w.Let) refl c.reads;
        kept = same t (reserved_word w.Let) (word_stands w.Let t h) (same name (placeless k.Name name.text) (same_stands k.Name name h') c.kept);
      }

  stmt_back : Printable Stmt (IsStmt I) stmt_erased print.stmt
  stmt_back _ _ (g.«root» {xs} {q} {u} {v} t h ks s) =
      let b = keys_back xs u ks in let c = assigned_back (query_back I H) q v s in
      led t (reserved_word w.Root) (word_stands w.Root t h) (joined (print.keys xs) (print.assigned q) (g.«root» (reserved_word w.Root) (spelled_reserved w.Root) b.reads c.reads) b.kept c.kept)
  stmt_back _ _ (g.«meta» {x} {q} {u} {v} t h o s) =
      let b = optional_key_back x u o in let c = assigned_back (query_back I H) q v s in
      led t (reserved_word w.Meta) (word_stands w.Meta t h) (joined (print.optional_key x) (print.assigned q) (g.«meta» (reserved_word w.Meta) (spelled_reserved w.Meta) b.reads c.reads) b.kept c.kept)
  stmt_back _ _ (g.«let» {q} {u} t name h h' s) =
      let c = assigned_back (query_back I H) q u s in
      record {
        reads = g.«let» (reserved_word w.Let) (placeless k.Name name.text) (spelled_reserved w.Let) refl c.reads;
        kept = same t (reserved_word w.Let) (word_stands w.Let t h) (same name (placeless k.Name name.text) (same_stands k.Name name h') c.kept);
      }
  stmt_back _ _ (g.«map» {xs} t name h h' (rule.bracketed {u} t' t'' i s i')) =
      let b = separated_back map_stmt_back separates_statements (print.mark k.Nl ∷ Space ∷ Space ∷ []) (mark_word k.Nl) (λ p. refl) refl (λ x i y z c. same x (mark_word k.Nl) (line_stands x i) c) xs u s in
      let inside : Pieces = print.between (print.mark k.Nl ∷ Space ∷ Space ∷ []) (map print.map_stmt xs) in
      let e = ended {R = Separated separates_statements MapStmt (IsMapStmt I)} {a = map map_stmt_erased xs} {u = u} {p = inside} (Line ∷ []) refl b in
      let c = bracketed_back {R = Separated separates_statements MapStmt (IsMapStmt I)} k.LeftBrace k.RightBrace refl refl t' t'' i i' {p = Line ∷ Space ∷ Space ∷ (inside ++ Line ∷ [])} (record { reads = e.reads; kept = e.kept }) in
      record {
        reads = g.«map» (reserved_word w.Map) (placeless k.Name name.text) (spelled_reserved w.Map) refl c.reads;
        kept = same t (reserved_word w.Map) (word_stands w.Map t h) (same name (placeless k.Name name.text) (same_stands k.Name name h') c.kept);
      }

  first_line : (u v : Lexemes) → Kept u v → (x : Lexeme) (y : Lexemes) → v ≡ x ∷ y → x.line ≡ 0
  first_line _ _ none x y e = absurd (cc)
  first_line _ _ (same t z st c) x y e = let h : z ≡ x = cc in ap (λ t. t.line) (sym h) ∙ ap (λ t. t.line) (sym st.bare)
  first_line _ _ (lost {u} {v} t h c) x y e = first_line u v c x y e
  first_line _ _ (parted t h c) x y e = let h : mark_word k.Comma ≡ x = cc in ap (λ t. t.line) (sym h)

  mapping_back : Printable Mapping (IsMapping I) mapping_erased print.mapping
  mapping_back _ _ (g.query_alone {q} {u} t s) =
      let b = query_back I H q (t ∷ u) s in
      let (x, v, e, f) = query_begins I (query_erased q) (words_of (query q)) b.reads in
      record {
        reads = subst (IsMapping I (m.Query 0 (query_erased q))) (sym e)
            (subst (λ n. IsMapping I (m.Query n (query_erased q)) (x ∷ v)) (first_line (t ∷ u) (words_of (query q)) b.kept x v e) (g.query_alone x (subst (IsQuery I (query_erased q)) e b.reads)));
        kept = b.kept;
      }
  mapping_back _ _ (g.statements {xs} {u} s) =
      let b = separated_back stmt_back separates_statements (print.mark k.Nl ∷ []) (mark_word k.Nl) (λ p. refl) refl (λ x i y z c. same x (mark_word k.Nl) (line_stands x i) c) xs u s in
      record { reads = g.statements b.reads; kept = b.kept }

pub words_back : (x : Mapping) (u : Lexemes) → ReadsMapping x u → Back Mapping ReadsMapping (mapping_erased x) u (print.mapping x)
words_back x u (n, s) = let b = mapping_back (Nested n) (nested_back n) x u s in record { reads = (n, b.reads); kept = b.kept }

-- ---- brackets

separator_step : (d : ℕ) (kd : Kind) → separates_cases kd ≡ true → (opens kd ≡ false) × (step d kd ≡ d)
separator_step d k.Comma h = (refl, refl)
separator_step d k.Nl h = (refl, refl)
separator_step d _ h = absurd (cc)

comma_step : (d : ℕ) (kd : Kind) → kd ≡ k.Comma → (opens kd ≡ false) × (step d kd ≡ d)
comma_step d kd h = separator_step d kd (ap separates_cases h)

flat_token : (d : ℕ) (t : Lexeme) (u : Lexemes) → (opens t.kind ≡ false) × (step d t.kind ≡ d) → deep_at d (t ∷ u) ≡ None → deep_at d u ≡ None
flat_token d t u (o, s) h = sym (ap (λ n. deep_at n u) s) ∙ sym (ap (λ b. if b && nat_eq d max_open then Some t.at else deep_at (step d t.kind) u) o) ∙ h

none_deep : (d : ℕ) (b : Bool) (t : Lexeme) (o : Option ℕ) → (if b then Some t.at else o) ≡ None → (b ≡ false) × (o ≡ None)
none_deep d true t o h = absurd (cc)
none_deep d false t o h = (refl, h)

pub kept_shallow : (u v : Lexemes) → Kept u v → (d : ℕ) → deep_at d u ≡ None → deep_at d v ≡ None
kept_shallow _ _ none d h = refl
kept_shallow _ _ (same {u} {v} t x st c) d h =
    let (e, h') = none_deep d (opens t.kind && nat_eq d max_open) t (deep_at (step d t.kind) u) h in
    let ih = kept_shallow u v c (step d t.kind) h' in
    ap (λ b. if b then Some x.at else deep_at (step d x.kind) v) (ap (λ kd. opens kd && nat_eq d max_open) st.kind ∙ e) ∙ ap (λ kd. deep_at (step d kd) v) st.kind ∙ ih
kept_shallow _ _ (lost {u} {v} t l c) d h = kept_shallow u v c d (flat_token d t u (comma_step d t.kind l) h)
kept_shallow _ _ (parted {u} {v} t l c) d h = kept_shallow u v c d (flat_token d t u (separator_step d t.kind l) h)

erased_shallow : (u : Lexemes) (d : ℕ) → deep_at d (map erased u) ≡ None → deep_at d u ≡ None
erased_shallow [] d h = refl
erased_shallow (t ∷ u) d h =
    let (e, h') = none_deep d (opens t.kind && nat_eq d max_open) (erased t) (deep_at (step d t.kind) (map erased u)) h in
    ap (λ b. if b then Some t.at else deep_at (step d t.kind) u) e ∙ erased_shallow u (step d t.kind) h'

-- ---- the parser gives what is read

pub complete : (x : Mapping) (ts : Lexemes) → ReadsMapping x ts → deep_at 0 ts ≡ None → r.mapping 64 ts ≡ Got x []
complete x ts s shallow = go (r.mapping 64 ts) refl
  where
    go : (o : Res Mapping) → r.mapping 64 ts ≡ o → r.mapping 64 ts ≡ Got x []
    go (Got y []) h = h ∙ ap (λ z. Got z []) (one_mapping y x ts (mapping_read ts y h) s)
    go (Got y (t ∷ rest)) h = absurd ((mapping_longer ts y (t ∷ rest) h (omega arith)).none x s)
    go (Stuck rest) h = absurd ((mapping_stuck ts rest h).none x s)
    go Deep h = absurd (mapping_shallow ts shallow h)

got_from : (o : Res Mapping) (x : Mapping) → Got x [] ≡ res_erased mapping_erased o → (y : Mapping) × (o ≡ Got y []) × (mapping_erased y ≡ x)
got_from (Got y []) x h = (y, refl, cc)
got_from (Got y (t ∷ rest)) x h = absurd (cc)
got_from (Stuck rest) x h = absurd (cc)
got_from Deep x h = absurd (cc)

-- Tokens that are alike but for places are read alike but for places.
pub relocated : (x : Mapping) (us : Lexemes) → ReadsMapping x (map erased us) → deep_at 0 us ≡ None → deep_at 0 (map erased us) ≡ None → (y : Mapping) × ReadsMapping y us × (mapping_erased y ≡ x)
relocated x us s shallow shallow' =
    let (y, h, e) = got_from (r.mapping 64 us) x (sym (complete x (map erased us) s shallow') ∙ (mapping_blind 64).same us) in
    (y, mapping_read us y h, e)

-- The words that are printed for a mapping that was read are read as the same mapping, wherever they come to stand, and nest no deeper.
pub read_back : (x : Mapping) (ts us : Lexemes) → ReadsMapping x ts → deep_at 0 ts ≡ None → map erased us ≡ words x → (y : Mapping) × ReadsMapping y us × (mapping_erased y ≡ mapping_erased x) × (deep_at 0 us ≡ None)
read_back x ts us s shallow e =
    let b = words_back x ts s in
    let flat : deep_at 0 (map erased us) ≡ None = ap (deep_at 0) e ∙ kept_shallow ts (words x) b.kept 0 shallow in
    let flat' : deep_at 0 us ≡ None = erased_shallow us 0 flat in
    let (y, s', e') = relocated (mapping_erased x) us (subst (ReadsMapping (mapping_erased x)) (sym e) b.reads) flat' flat in
    (y, s', e', flat')
