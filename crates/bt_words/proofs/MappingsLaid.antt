-- What is printed for a mapping that was read is laid out so that its text has its tokens.
use Rattle.std.proofs.Common.{◌≡◌, ℕ, Bool, true, false, ◌&&◌, ◌||◌, List, [], ◌∷◌, ◌++◌, map, Option, Some, None, inl, refl, sym, ap, ◌∙◌, subst, append_assoc}
use Rattle.bt_lexer.specs.declared.token.Kind.{Kind}
use Rattle.bt_lexer.specs.declared.token.Kind.TheVariants as k
use Rattle.bt_lexer.specs.Lines.{is_line_feed, is_soft_after}
use Rattle.bt_syntax.specs.declared.keywords.Keyword.TheVariants as w
use Rattle.bt_tree.specs.declared.tree.Key.{Key}
use Rattle.bt_tree.specs.declared.tree.Query.{Query}
use Rattle.bt_tree.specs.declared.tree.MapStmt.{MapStmt}
use Rattle.bt_tree.specs.declared.tree.Stmt.{Stmt}
use Rattle.bt_tree.specs.declared.tree.Mapping.{Mapping}
use Rattle.bt_syntax.specs.Lexemes.{Lexeme, Lexemes}
use Rattle.bt_syntax.specs.Rules as rule
use Rattle.bt_syntax.specs.Rules.{Repeated, Separated, Behind, Bracketed, Optional}
use Rattle.bt_syntax.specs.Grammar as g
use Rattle.bt_syntax.specs.Grammar.{separates_statements, IsQuery, IsMapStmt, IsStmt, IsMapping, Nested, ReadsMapping}
use Rattle.bt_words.specs.Printing as print
use Rattle.bt_words.specs.Printing.{Piece, Space, Line, Token, Pieces, placeless, mark_word, reserved_word, key_word, query}
use Rattle.bt_words.specs.Printing.{text_of}
use Rattle.bt_words.proofs.TextReads.{Apart, Lined, closes_next}
use Rattle.bt_words.proofs.Layouts.{last_kind, no_lines_append, last_append, lined_append, follow, follow_dot, before_space, closed_mark, Solid, Tail, Steps, steps_none, steps_append, tail_append, tail_none, spaced_tail, worded, space_tail, word_tail, follow_is_dot, end_stops}
use Rattle.bt_words.proofs.QueriesLaid.{Laid, query_laid, nested_laid, dot_token, key_end, key_cut}

-- a statement, before which a line feed stands
record Stated (p : Pieces) : Type 0 where
  apart : (r : Pieces) → Apart false r → follow (text_of r) ≡ true → Apart false (p ++ r)
  lined : (b : Option Kind) (r : Pieces) → ((y : Option Kind) → is_soft_after y ≡ false → Lined y r) → Lined b (p ++ r)
  opens : (r : Pieces) → closes_next (p ++ r) ≡ false

-- a query or a statement of one line
solid_stated : {p : Pieces} → Solid p → ((r : Pieces) → closes_next (p ++ r) ≡ false) → Stated p
solid_stated {p} s o = record { apart = s.apart; lined = λ b r h. lined_append p r b s.lines (h (last_kind b p) (s.ends b)); opens = o }

keys_steps : (xs : List Key) → Steps (print.keys xs)
keys_steps [] = steps_none
keys_steps (x ∷ xs) = steps_append (dot_token (key_word x) (key_end x) (key_cut x true)) (keys_steps xs)

assigned_tail : (q : Query) → Solid (query q) → Tail (print.assigned q)
assigned_tail q s = spaced_tail k.Assign refl s

-- `root`, keys and an assignment
rooted : (xs : List Key) {x : Pieces} → Tail x → Solid (print.keyword w.Root ∷ (print.keys xs ++ x))
rooted xs {x} t =
    let steps = keys_steps xs in
    record {
      apart = λ r a f. subst (λ z. Apart false (print.keyword w.Root ∷ z)) (sym (append_assoc (print.keys xs) x r))
          (first (print.keys xs ++ (x ++ r)) (steps.after (x ++ r) (follow_is_dot (text_of (x ++ r)) (t.after r f))) (steps.apart (x ++ r) (t.apart r a f) (follow_is_dot (text_of (x ++ r)) (t.after r f))));
      lines = (refl, no_lines_append (print.keys xs) x steps.lines t.lines);
      ends = λ b. ap is_soft_after (last_append (Some k.Name) (print.keys xs) x) ∙ t.ends (last_kind (Some k.Name) (print.keys xs)) (steps.ends (Some k.Name) refl);
    }
  where
    first : (p : Pieces) → follow_dot (text_of p) ≡ true → Apart false p → Apart false (print.keyword w.Root ∷ p)
    first p f a = (inl (end_stops k.Name (text_of p) refl f), inl refl, a)

-- a name behind a word
named : (v : Lexeme) → is_line_feed v.kind ≡ false → (u : List ℕ) {x : Pieces} → Tail x → Solid (Token v ∷ Space ∷ print.name u ∷ x)
named v n u t = worded v n (word_tail (placeless k.Name u) refl t)

optional_tail : (x : Option Key) → Tail (print.optional_key x)
optional_tail None = tail_none
optional_tail (Some x) = space_tail (word_tail (key_word x) (key_end x) tail_none)

-- ---- statements with a line feed between them

-- what stands between statements
record Divides (separator : Pieces) : Type 0 where
  apart : (r : Pieces) → Apart false r → Apart false (separator ++ r)
  after : (r : Pieces) → follow (text_of (separator ++ r)) ≡ true
  lined : (b : Option Kind) (r : Pieces) → is_soft_after b ≡ false → closes_next r ≡ false → Lined (Some k.Nl) r → Lined b (separator ++ r)

both_false : (a b : Bool) → a ≡ false → b ≡ false → (true && (a || b)) ≡ false
both_false a b p q = rw (p, q) refl

line_divides : Divides (print.mark k.Nl ∷ [])
line_divides = record { apart = λ r a. closed_mark k.Nl refl false r a; after = λ r. refl; lined = λ b r h o l. (both_false (is_soft_after b) (closes_next r) h o, l) }

indented_divides : Divides (print.mark k.Nl ∷ Space ∷ Space ∷ [])
indented_divides = record { apart = λ r a. closed_mark k.Nl refl false (Space ∷ Space ∷ r) a; after = λ r. refl; lined = λ b r h o l. (both_false (is_soft_after b) (closes_next r) h o, l) }

module _ {separator : Pieces} (D : Divides separator) {A : Type 0} {R : A → Lexemes → Type 0} {P : A → Pieces} (H : Laid A R P Stated) where
  -- behind a statement
  record More (x : Pieces) : Type 0 where
    apart : (r : Pieces) → Apart false r → follow (text_of r) ≡ true → Apart false (x ++ r)
    after : (r : Pieces) → follow (text_of r) ≡ true → follow (text_of (x ++ r)) ≡ true
    lined : (b : Option Kind) (r : Pieces) → is_soft_after b ≡ false → ((y : Option Kind) → is_soft_after y ≡ false → Lined y r) → Lined b (x ++ r)

  more_none : More []
  more_none = record { apart = λ r a f. a; after = λ r f. f; lined = λ b r s h. h b s }

  more_append : {p x : Pieces} → Stated p → More x → More (separator ++ (p ++ x))
  more_append {p} {x} s m = record {
    apart = λ r a f. subst (Apart false) (sym (whole r)) (D.apart (p ++ (x ++ r)) (s.apart (x ++ r) (m.apart r a f) (m.after r f)));
    after = λ r f. subst (λ z. follow (text_of z) ≡ true) (sym (whole r)) (D.after (p ++ (x ++ r)));
    lined = λ b r c h. subst (Lined b) (sym (whole r)) (D.lined b (p ++ (x ++ r)) c (s.opens (x ++ r)) (s.lined (Some k.Nl) (x ++ r) (λ y z. m.lined y r z h)));
  }
    where
      whole : (r : Pieces) → (separator ++ (p ++ x)) ++ r ≡ separator ++ (p ++ (x ++ r))
      whole r = append_assoc separator (p ++ x) r ∙ ap (λ z. separator ++ z) (append_assoc p x r)

  stated_more : {p x : Pieces} → Stated p → More x → Stated (p ++ x)
  stated_more {p} {x} s m = record {
    apart = λ r a f. subst (Apart false) (sym (append_assoc p x r)) (s.apart (x ++ r) (m.apart r a f) (m.after r f));
    lined = λ b r h. subst (Lined b) (sym (append_assoc p x r)) (s.lined b (x ++ r) (λ y z. m.lined y r z h));
    opens = λ r. subst (λ z. closes_next z ≡ false) (sym (append_assoc p x r)) (s.opens (x ++ r));
  }

  behind_laid : Laid (List A) (Separated separates_statements A R) (λ xs. print.behind_each separator (map P xs)) More
  behind_laid _ _ (rule.single {a} {u} r) = more_append (H a u r) more_none
  behind_laid _ _ (Separated.then {a} {rest} {u} {v} t r h rs) = more_append (H a u r) (behind_laid rest v rs)

  between_laid : Laid (List A) (Separated separates_statements A R) (λ xs. print.between separator (map P xs)) Stated
  between_laid _ _ (rule.single {a} {u} r) = stated_more (H a u r) more_none
  between_laid _ _ (Separated.then {a} {rest} {u} {v} t r h rs) = stated_more (H a u r) (behind_laid rest v rs)

or_right : (b : Bool) → (b || true) ≡ true
or_right true = refl
or_right false = refl

-- the body of a map
body_stated : (u : List ℕ) (ps : List Pieces) → Stated (print.between (print.mark k.Nl ∷ Space ∷ Space ∷ []) ps) → Stated (print.keyword w.Map ∷ Space ∷ print.name u ∷ print.body ps)
body_stated u ps s = record {
  apart = λ r a f. before_space false (reserved_word w.Map) (print.name u ∷ (print.body ps ++ r)) (before_space false (placeless k.Name u) (block ++ r)
      (closed_mark k.LeftBrace refl false (Line ∷ Space ∷ Space ∷ (((inside ++ Line ∷ []) ++ print.mark k.RightBrace ∷ []) ++ r)) (subst (Apart false) (sym (whole r)) (s.apart (Line ∷ print.mark k.RightBrace ∷ r) (closed_mark k.RightBrace refl false r a) refl))));
  lined = λ b r h. (refl, (refl, (refl, (refl, subst (Lined (Some k.Nl)) (sym (whole r)) (s.lined (Some k.Nl) (Line ∷ print.mark k.RightBrace ∷ r) (λ y z. (or_right (is_soft_after y), (refl, h (Some k.RightBrace) refl))))))));
  opens = λ r. refl;
}
  where
    inside : Pieces
    inside = print.between (print.mark k.Nl ∷ Space ∷ Space ∷ []) ps

    block : Pieces
    block = print.bracketed k.LeftBrace k.RightBrace (Line ∷ Space ∷ Space ∷ (inside ++ Line ∷ []))

    whole : (r : Pieces) → ((inside ++ Line ∷ []) ++ print.mark k.RightBrace ∷ []) ++ r ≡ inside ++ (Line ∷ print.mark k.RightBrace ∷ r)
    whole r = append_assoc (inside ++ Line ∷ []) (print.mark k.RightBrace ∷ []) r ∙ append_assoc inside (Line ∷ []) (print.mark k.RightBrace ∷ r)

module _ (I : Query → Lexemes → Type 0) (H : Laid Query I query Solid) where
  map_stmt_laid : Laid MapStmt (IsMapStmt I) print.map_stmt Stated
  map_stmt_laid _ _ (g.map_root {xs} {q} t h ks (rule.behind {u = v} t' h' s)) = solid_stated (rooted xs (assigned_tail q (H q v s))) (λ r. refl)
  map_stmt_laid _ _ (g.map_let {q} t name h h' (rule.behind {u = v} t' h'' s)) = solid_stated (named (reserved_word w.Let) refl name.text (assigned_tail q (H q v s))) (λ r. refl)

  stmt_laid : Laid Stmt (IsStmt I) print.stmt Stated
  stmt_laid _ _ (g.«root» {xs} {q} t h ks (rule.behind {u = v} t' h' s)) = solid_stated (rooted xs (assigned_tail q (query_laid I H q v s))) (λ r. refl)
  stmt_laid _ _ (g.«meta» {x} {q} t h o (rule.behind {u = v} t' h' s)) =
      solid_stated (word_tail (reserved_word w.Meta) refl (tail_append (optional_tail x) (assigned_tail q (query_laid I H q v s)))) (λ r. refl)
  stmt_laid _ _ (g.«let» {q} t name h h' (rule.behind {u = v} t' h'' s)) = solid_stated (named (reserved_word w.Let) refl name.text (assigned_tail q (query_laid I H q v s))) (λ r. refl)
  stmt_laid _ _ (g.«map» {xs} t name h h' (rule.bracketed {u = v} t' t'' i s i')) = body_stated name.text (map print.map_stmt xs) (between_laid indented_divides map_stmt_laid xs v s)

  append_none : (p : Pieces) → p ++ [] ≡ p
  append_none [] = refl
  append_none (x ∷ p) = ap (λ y. x ∷ y) (append_none p)

  stated_whole : (p : Pieces) → ((r : Pieces) → Apart false r → follow (text_of r) ≡ true → Apart false (p ++ r)) → ((b : Option Kind) (r : Pieces) → ((y : Option Kind) → is_soft_after y ≡ false → Lined y r) → Lined b (p ++ r)) →
      Apart false p × Lined None p
  stated_whole p a l = (subst (Apart false) (append_none p) (a [] tt refl), subst (Lined None) (append_none p) (l None [] (λ y z. tt)))

  mapping_laid : Laid Mapping (IsMapping I) print.mapping (λ p. Apart false p × Lined None p)
  mapping_laid _ _ (g.query_alone {q} {u} t s) =
      let b = query_laid I H q (t ∷ u) s in
      stated_whole (query q) b.apart (λ x r h. lined_append (query q) r x b.lines (h (last_kind x (query q)) (b.ends x)))
  mapping_laid _ _ (g.statements {xs} {u} s) = let b = between_laid line_divides stmt_laid xs u s in stated_whole (print.between (print.mark k.Nl ∷ []) (map print.stmt xs)) b.apart b.lined

pub laid_out : (x : Mapping) (u : Lexemes) → ReadsMapping x u → Apart false (print.mapping x) × Lined None (print.mapping x)
laid_out x u (n, s) = mapping_laid (Nested n) (nested_laid n) x u s
