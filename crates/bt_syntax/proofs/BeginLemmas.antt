-- The first two tokens tell a query from a statement that begins with `let`, `map` or `meta`.
use Rattle.std.proofs.Common.{◌≡◌, ℕ, Bool, true, false, not, List, [], ◌∷◌, ◌++◌, Option, Some, None, refl, sym, ap, ◌∙◌, append_assoc}
use Rattle.bt_lexer.specs.declared.token.Kind.{Kind}
use Rattle.bt_lexer.specs.declared.token.Kind.TheVariants as kinds
use Rattle.bt_value.specs.declared.names.PrefixOp.{PrefixOp}
use Rattle.bt_syntax.specs.declared.keywords.Keyword.{Keyword}
use Rattle.bt_syntax.specs.declared.keywords.Keyword.TheVariants as w
use Rattle.bt_tree.specs.declared.tree.Key.{Key}
use Rattle.bt_tree.specs.declared.tree.Query.{Query}
use Rattle.bt_tree.specs.declared.tree.Stmt.{Stmt}
use Rattle.bt_syntax.specs.Lexemes.{Lexeme, Lexemes, reserved, reserved_in}
use Rattle.bt_syntax.specs.Rules.{Separated, single, Behind, behind, Bracketed, Optional, absent, present}
use Rattle.bt_syntax.specs.Rules as rules
use Rattle.bt_syntax.specs.Grammar as g
use Rattle.bt_syntax.specs.Grammar.{IsReserved, free_in, is_free, head_in, reserved_head, prefix_op, key_in, separates_statements, IsKey, IsHead, IsItem, IsUnary, IsProduct, IsSum, IsComparison, IsLogic, IsPlain, IsMatch, IsIf, IsQuery, IsStmt}
use Rattle.bt_syntax.specs.Reading.{starts}
use Rattle.bt_syntax.specs.Readers.{is, is_reserved, begins_with, begins_statement}
use Rattle.bt_syntax.proofs.Branches.{starts_more}
use Rattle.bt_syntax.proofs.TokenLemmas.{kind_is, word_is, no_word}
use Rattle.bt_syntax.proofs.FirstTokens.{bracketed_begins}
use Rattle.bt_syntax.proofs.HeadLemmas.{starts_at}

-- no statement that isn't a query begins with this reserved name, or with a token that is none
abbrev calm_word : Option Keyword → Bool
calm_word (Some w.Let) = false
calm_word (Some w.Map) = false
calm_word (Some w.Meta) = false
calm_word _ = true

calm_with : (o : Option Keyword) (v : Lexemes) → calm_word o ≡ true → begins_with o v ≡ false
calm_with (Some w.Let) v h = absurd (cc)
calm_with (Some w.Map) v h = absurd (cc)
calm_with (Some w.Meta) v h = absurd (cc)
calm_with _ v h = refl

calm_token : (t : Lexeme) (o : Option Keyword) (v : Lexemes) → reserved t ≡ o → calm_word o ≡ true → begins_statement (t ∷ v) ≡ false
calm_token t o v e h = ap (λ y. begins_with y v) e ∙ calm_with o v h

reserved_calm : (t : Lexeme) (o : Option Keyword) (q : Query) → reserved_head t o ≡ Some q → calm_word o ≡ true
reserved_calm t None q h = absurd (cc)
reserved_calm t (Some w.Let) q h = absurd (cc)
reserved_calm t (Some w.Map) q h = absurd (cc)
reserved_calm t (Some w.Meta) q h = absurd (cc)
reserved_calm t (Some _) q h = refl

mark_calm : (kd : Kind) → ((u : List ℕ) → reserved_in kd u ≡ None) → (t : Lexeme) (v : Lexemes) → t.kind ≡ kd → begins_statement (t ∷ v) ≡ false
mark_calm kd f t v h = calm_token t None v (no_word kd f t h) refl

token_calm : (kd : Kind) (t : Lexeme) (q : Query) (v : Lexemes) → t.kind ≡ kd → head_in kd t ≡ Some q → begins_statement (t ∷ v) ≡ false
token_calm kinds.Name t q v k h = calm_token t (reserved t) v refl (reserved_calm t (reserved t) q h)
token_calm kinds.Int t q v k h = mark_calm kinds.Int (λ u. refl) t v k
token_calm kinds.Text t q v k h = mark_calm kinds.Text (λ u. refl) t v k
token_calm kinds.Var t q v k h = mark_calm kinds.Var (λ u. refl) t v k
token_calm _ t q v k h = absurd (cc)

free_none : (kd : Kind) (o : Option Keyword) → free_in kd o ≡ true → o ≡ None
free_none kinds.Name None h = refl
free_none kinds.Name (Some v) h = absurd (cc)
free_none _ o h = absurd (cc)

free_calm : (t : Lexeme) (v : Lexemes) → is_free t ≡ true → begins_statement (t ∷ v) ≡ false
free_calm t v h = calm_token t None v (free_none t.kind (reserved t) h) refl

bracket_calm : (opening closing : Kind) (A : Type 0) (R : A → Lexemes → Type 0) (a : A) (u v : Lexemes) → ((x : List ℕ) → reserved_in opening x ≡ None) → Bracketed opening closing A R a u → begins_statement (u ++ v) ≡ false
bracket_calm opening closing A R a u v f s = (let (t, u', e, h) = bracketed_begins opening closing A R a u s in rw e (mark_calm opening f t (u' ++ v) h))

prefix_calm : (kd : Kind) (op : PrefixOp) (t : Lexeme) (v : Lexemes) → t.kind ≡ kd → prefix_op kd ≡ Some op → begins_statement (t ∷ v) ≡ false
prefix_calm kinds.Bang op t v k h = mark_calm kinds.Bang (λ u. refl) t v k
prefix_calm kinds.Minus op t v k h = mark_calm kinds.Minus (λ u. refl) t v k
prefix_calm _ op t v k h = absurd (cc)

meta_calm : (t : Lexeme) (u : Lexemes) → IsReserved w.Meta t → starts (is kinds.LeftParen) u ≡ true → begins_statement (t ∷ u) ≡ false
meta_calm t u h s = ap (λ y. begins_with y u) h ∙ ap not s

module _ (I : Query → Lexemes → Type 0) where
  head_calm : (q : Query) (u v : Lexemes) → IsHead I q u → begins_statement (u ++ v) ≡ false
  head_calm _ _ v (g.IsHead.token {q} t h) = token_calm t.kind t q v refl h
  head_calm _ _ v (g.IsHead.name t h) = free_calm t v h
  head_calm _ _ v (g.IsHead.metadata t h) = mark_calm kinds.At (λ u. refl) t v h
  head_calm _ _ v (g.IsHead.meta_key t t' h h') = mark_calm kinds.At (λ u. refl) t (t' ∷ v) h
  head_calm _ _ v (g.IsHead.call {xs} {u} t h s) = free_calm t (u ++ v) h
  head_calm _ _ v (g.IsHead.meta_call {xs} {u} t h s) =
      (let (t', u', e, h') = bracketed_begins kinds.LeftParen kinds.RightParen _ _ xs u s in
      meta_calm t (u ++ v) h (starts_more (is kinds.LeftParen) u v (starts_at (is kinds.LeftParen) t' u u' true e (kind_is kinds.LeftParen t' h'))))
  head_calm _ _ v (g.IsHead.parens {q} {u} s) = bracket_calm kinds.LeftParen kinds.RightParen _ _ _ u v (λ x. refl) s
  head_calm _ _ v (g.IsHead.«list» {qs} {u} s) = bracket_calm kinds.LeftBracket kinds.RightBracket _ _ _ u v (λ x. refl) s
  head_calm _ _ v (g.IsHead.object {xs} {u} s) = bracket_calm kinds.LeftBrace kinds.RightBrace _ _ _ u v (λ x. refl) s

  calm_more : (u x v : Lexemes) → begins_statement (u ++ (x ++ v)) ≡ false → begins_statement ((u ++ x) ++ v) ≡ false
  calm_more u x v h = ap begins_statement (append_assoc u x v) ∙ h

  item_calm : (q : Query) (u v : Lexemes) → IsItem I q u → begins_statement (u ++ v) ≡ false
  item_calm q u v (g.head_alone s) = head_calm q u v s
  item_calm _ _ v (g.suffixed {q} {x} {xs} {u} {v = u'} s m) = calm_more u u' v (head_calm q u (u' ++ v) s)

  unary_calm : (q : Query) (u v : Lexemes) → IsUnary I q u → begins_statement (u ++ v) ≡ false
  unary_calm q u v (g.item_alone s) = item_calm q u v s
  unary_calm _ _ v (g.prefixed {q} {op} {u} t h s) = prefix_calm t.kind op t (u ++ v) refl h

  product_calm : (q : Query) (u v : Lexemes) → IsProduct I q u → begins_statement (u ++ v) ≡ false
  product_calm q u v (g.unary_alone s) = unary_calm q u v s
  product_calm _ _ v (g.multiplied {q} {x} {xs} {u} {v = u'} s m) = calm_more u u' v (unary_calm q u (u' ++ v) s)

  sum_calm : (q : Query) (u v : Lexemes) → IsSum I q u → begins_statement (u ++ v) ≡ false
  sum_calm q u v (g.product_alone s) = product_calm q u v s
  sum_calm _ _ v (g.added {q} {x} {xs} {u} {v = u'} s m) = calm_more u u' v (product_calm q u (u' ++ v) s)

  comparison_calm : (q : Query) (u v : Lexemes) → IsComparison I q u → begins_statement (u ++ v) ≡ false
  comparison_calm q u v (g.sum_alone s) = sum_calm q u v s
  comparison_calm _ _ v (g.compared {q} {r} {op} {u} {v = u'} t s h m) = calm_more u (t ∷ u') v (sum_calm q u (t ∷ (u' ++ v)) s)

  logic_calm : (q : Query) (u v : Lexemes) → IsLogic I q u → begins_statement (u ++ v) ≡ false
  logic_calm q u v (g.comparison_alone s) = comparison_calm q u v s
  logic_calm _ _ v (g.all_of {q} {r} {qs} {u} {v = u'} s m) = calm_more u u' v (comparison_calm q u (u' ++ v) s)
  logic_calm _ _ v (g.any_of {q} {r} {qs} {u} {v = u'} s m) = calm_more u u' v (comparison_calm q u (u' ++ v) s)

  plain_calm : (q : Query) (u v : Lexemes) → IsPlain I q u → begins_statement (u ++ v) ≡ false
  plain_calm q u v (g.logic s) = logic_calm q u v s
  plain_calm _ _ v (g.first_of {q} {r} {qs} {u} {v = u'} s m) = calm_more u u' v (unary_calm q u (u' ++ v) s)

  match_calm : (q : Query) (u v : Lexemes) → IsMatch I q u → begins_statement (u ++ v) ≡ false
  match_calm _ _ v (g.«match» {q} {xs} {u} {v = u'} t h s s') = calm_token t (Some w.Match) ((u ++ u') ++ v) h refl

  if_calm : (q : Query) (u v : Lexemes) → IsIf I q u → begins_statement (u ++ v) ≡ false
  if_calm _ _ v (g.«if» {x} {xs} {q} {u} {v = u'} t h s s') = calm_token t (Some w.If) ((u ++ u') ++ v) h refl

  -- what begins as a query is no other statement
  pub query_calm : (q : Query) (u v : Lexemes) → IsQuery I q u → begins_statement (u ++ v) ≡ false
  query_calm q u v (g.match_query s) = match_calm q u v s
  query_calm q u v (g.if_query s) = if_calm q u v s
  query_calm q u v (g.plain_query s) = plain_calm q u v s

  -- ---- statements

  key_not_paren : (kd : Kind) (t : Lexeme) (x : Key) → t.kind ≡ kd → key_in kd t.text ≡ Some x → is kinds.LeftParen t ≡ false
  key_not_paren kinds.Name t x k h = rw k refl
  key_not_paren kinds.Text t x k h = rw k refl
  key_not_paren _ t x k h = absurd (cc)

  no_paren : (R : Query → Lexemes → Type 0) (x : Option Key) (q : Query) (u v rest : Lexemes) → Optional Key IsKey x u → Behind kinds.Assign Query R q v → starts (is kinds.LeftParen) ((u ++ v) ++ rest) ≡ false
  no_paren R _ _ _ _ rest absent (behind {a} {u = v} t h s) = rw h refl
  no_paren R _ q _ v rest (present {a = x} {u} (t, e, h)) s = rw e (key_not_paren t.kind t x refl h)

  stmt_begins : (x : Stmt) (u v : Lexemes) → IsStmt I x u → starts (is_reserved w.Root) u ≡ false → begins_statement (u ++ v) ≡ true
  stmt_begins _ _ v (g.«root» {xs} {q} {u} {v = u'} t h s s') r = absurd (let e : true ≡ false = sym (word_is w.Root t h) ∙ r in cc)
  stmt_begins _ _ v (g.«meta» {x} {q} {u} {v = u'} t h s s') r = ap (λ y. begins_with y ((u ++ u') ++ v)) h ∙ ap not (no_paren (IsQuery I) x q u u' v s s')
  stmt_begins _ _ v (g.«let» {q} {u} t name h h' s) r = ap (λ y. begins_with y (name ∷ (u ++ v))) h
  stmt_begins _ _ v (g.«map» {xs} {u} t name h h' s) r = ap (λ y. begins_with y (name ∷ (u ++ v))) h

  pub stmt_some : (x : Stmt) (u : Lexemes) → IsStmt I x u → u ≡ [] → ⊥
  stmt_some _ _ (g.«root» {xs} {q} {u} {v} t h s s') e = let e' : t ∷ (u ++ v) ≡ [] = e in cc
  stmt_some _ _ (g.«meta» {x} {q} {u} {v} t h s s') e = let e' : t ∷ (u ++ v) ≡ [] = e in cc
  stmt_some _ _ (g.«let» {q} {u} t name h h' s) e = let e' : t ∷ (name ∷ u) ≡ [] = e in cc
  stmt_some _ _ (g.«map» {xs} {u} t name h h' s) e = let e' : t ∷ (name ∷ u) ≡ [] = e in cc

  front_not_root : (u v : Lexemes) → (u ≡ [] → ⊥) → starts (is_reserved w.Root) (u ++ v) ≡ false → starts (is_reserved w.Root) u ≡ false
  front_not_root [] v some h = absurd (some refl)
  front_not_root (t ∷ u) v some h = h

  -- statements of which the first doesn't begin with `root` begin as no query does
  pub stmts_begin : (xs : List Stmt) (u v : Lexemes) → Separated separates_statements Stmt (IsStmt I) xs u → starts (is_reserved w.Root) u ≡ false → begins_statement (u ++ v) ≡ true
  stmts_begin _ _ v (single {a = x} {u} s) r = stmt_begins x u v s r
  stmts_begin _ _ v (rules.Separated.then {a = x} {rest} {u} {v = u'} t s h tl) r =
      ap begins_statement (append_assoc u (t ∷ u') v) ∙ stmt_begins x u (t ∷ (u' ++ v)) s (front_not_root u (t ∷ u') (stmt_some x u s) r)

  pub stmts_some : (xs : List Stmt) (u : Lexemes) → Separated separates_statements Stmt (IsStmt I) xs u → u ≡ [] → ⊥
  stmts_some _ _ (single {a = x} {u} s) e = stmt_some x u s e
  stmts_some _ _ (rules.Separated.then {a = x} {rest} {u} {v} t s h tl) e = stmt_some x u s (front_empty u (t ∷ v) e)
    where
      front_empty : (u v : Lexemes) → u ++ v ≡ [] → u ≡ []
      front_empty [] v e = refl
      front_empty (t ∷ u) v e = absurd (cc)
