-- Chains of `&&`, of `||` and of `|` are read rightly.
use Rattle.std.proofs.Common.{◌≡◌, ℕ, suc, Bool, true, false, List, [], ◌∷◌, ◌++◌, Option, Some, None, refl, sym, ap, ◌∙◌, subst, append-nil, append_assoc, lit≤, pos}
use Rattle.bt_lexer.specs.declared.token.Kind.{Kind}
use Rattle.bt_lexer.specs.declared.token.Kind.TheVariants as kinds
use Rattle.bt_syntax.specs.declared.keywords.Keyword.{Keyword}
use Rattle.bt_syntax.specs.declared.keywords.Keyword.TheVariants as w
use Rattle.bt_tree.specs.declared.tree.Query.{Query, out-Query}
use Rattle.bt_tree.specs.declared.tree.Query.TheOpen.{Query-F}
use Rattle.bt_tree.specs.declared.tree.Query.TheVariants as e
use Rattle.bt_syntax.specs.Lexemes.{Lexeme, Lexemes, reserved, number}
use Rattle.bt_syntax.specs.Rules.{Repeated, none, Behind}
use Rattle.bt_syntax.specs.Grammar as g
use Rattle.bt_syntax.specs.Grammar.{word, head_in, reserved_head, IsHead, IsItem, IsUnary, IsProduct, IsSum, IsComparison, IsLogic, IsPlain, Nested}
use Rattle.bt_syntax.specs.Reading.{Reader, seq}
use Rattle.bt_syntax.specs.Readers as r
use Rattle.bt_syntax.specs.Readers.{is, or_of, coalesce_of, and_or, coalesce_if, is_unary, unary_layer}
use Rattle.bt_syntax.proofs.Lawful.{Stops, stops_wider, Lawful, Seq, Nil, Image, seq_lawful, map_lawful, same_lawful, pure_lawful}
use Rattle.bt_syntax.proofs.Many.{Begins}
use Rattle.bt_syntax.proofs.TokenLemmas.{is_kind, rank, below, below_wider, ends_mark, over_rank}
use Rattle.bt_syntax.proofs.Forms.{behind_lawful, behind_begins, repeated_lawful, repeated_follows, repeated_none}
use Rattle.bt_tree.proofs.Layers.{out-Null, out-True, out-False, out-Int, out-Quoted, out-This, out-Root, out-Name, out-Var, out-Metadata, out-Meta, out-Call, out-Paren, out-List, out-Object, out-Item, out-Prefix, out-Product, out-Sum, out-Compare, out-And, out-Or}
use Rattle.bt_syntax.proofs.OperatorLemmas.{unary_lawful, comparison_lawful}

-- ---- which queries are unary

layered : (q : Query) (x : Query-F Query) (b : Bool) → out-Query q ≡ x → unary_layer x ≡ b → is_unary q ≡ b
layered q x b o e = ap unary_layer o ∙ e

same_unary : (q p : Query) → Some q ≡ Some p → is_unary q ≡ true → is_unary p ≡ true
same_unary q p h u = let e : q ≡ p = cc in subst (λ y. is_unary y ≡ true) e u

reserved_unary : (t : Lexeme) (o : Option Keyword) (q : Query) → reserved_head t o ≡ Some q → is_unary q ≡ true
reserved_unary t None q h = absurd (cc)
reserved_unary t (Some w.Null) q h = same_unary e.Null q h (layered e.Null _ true out-Null refl)
reserved_unary t (Some w.True) q h = same_unary e.True q h (layered e.True _ true out-True refl)
reserved_unary t (Some w.False) q h = same_unary e.False q h (layered e.False _ true out-False refl)
reserved_unary t (Some w.This) q h = same_unary e.This q h (layered e.This _ true out-This refl)
reserved_unary t (Some w.Root) q h = same_unary (e.Root t.at) q h (layered (e.Root t.at) _ true (out-Root t.at) refl)
reserved_unary t (Some _) q h = absurd (cc)

token_unary : (kd : Kind) (t : Lexeme) (q : Query) → head_in kd t ≡ Some q → is_unary q ≡ true
token_unary kinds.Name t q h = reserved_unary t (reserved t) q h
token_unary kinds.Int t q h = same_unary (e.Int (pos (number t))) q h (layered (e.Int (pos (number t))) _ true (out-Int (pos (number t))) refl)
token_unary kinds.Text t q h = same_unary (e.Quoted (word t)) q h (layered (e.Quoted (word t)) _ true (out-Quoted (word t)) refl)
token_unary kinds.Var t q h = same_unary (e.Var (word t)) q h (layered (e.Var (word t)) _ true (out-Var (word t)) refl)
token_unary _ t q h = absurd (cc)

module _ (I : Query → Lexemes → Type 0) where
  head_unary : (q : Query) (u : Lexemes) → IsHead I q u → is_unary q ≡ true
  head_unary _ _ (g.IsHead.token {q} t h) = token_unary t.kind t q h
  head_unary _ _ (g.IsHead.name t h) = layered _ _ true (out-Name (word t)) refl
  head_unary _ _ (g.IsHead.metadata t h) = layered _ _ true out-Metadata refl
  head_unary _ _ (g.IsHead.meta_key {x} t t' h h') = layered _ _ true (out-Meta x) refl
  head_unary _ _ (g.IsHead.call {xs} {u} t h s) = layered _ _ true (out-Call (word t) xs) refl
  head_unary _ _ (g.IsHead.meta_call {xs} {u} t h s) = layered _ _ true (out-Call (word t) xs) refl
  head_unary _ _ (g.IsHead.parens {q} {u} s) = layered _ _ true (out-Paren q) refl
  head_unary _ _ (g.IsHead.«list» {qs} {u} s) = layered _ _ true (out-List qs) refl
  head_unary _ _ (g.IsHead.object {xs} {u} s) = layered _ _ true (out-Object xs) refl

  item_unary : (q : Query) (u : Lexemes) → IsItem I q u → is_unary q ≡ true
  item_unary q u (g.head_alone s) = head_unary q u s
  item_unary _ _ (g.suffixed {q} {x} {xs} {u} {v} s m) = layered _ _ true (out-Item q (x ∷ xs)) refl

  unary_is : (q : Query) (u : Lexemes) → IsUnary I q u → is_unary q ≡ true
  unary_is q u (g.item_alone s) = item_unary q u s
  unary_is _ _ (g.prefixed {q} {op} {u} t h s) = layered _ _ true (out-Prefix op q) refl

  not_unary : {P : Type 0} (q : Query) (x : Query-F Query) → out-Query q ≡ x → unary_layer x ≡ false → is_unary q ≡ true → P
  not_unary q x o n h = absurd (let e : true ≡ false = sym h ∙ layered q x false o n in cc)

  product_unary : (q : Query) (u : Lexemes) → IsProduct I q u → is_unary q ≡ true → IsUnary I q u
  product_unary q u (g.unary_alone s) h = s
  product_unary _ _ (g.multiplied {q} {x} {xs} {u} {v} s m) h = not_unary _ _ (out-Product q (x ∷ xs)) refl h

  sum_unary : (q : Query) (u : Lexemes) → IsSum I q u → is_unary q ≡ true → IsUnary I q u
  sum_unary q u (g.product_alone s) h = product_unary q u s h
  sum_unary _ _ (g.added {q} {x} {xs} {u} {v} s m) h = not_unary _ _ (out-Sum q (x ∷ xs)) refl h

  comparison_unary : (q : Query) (u : Lexemes) → IsComparison I q u → is_unary q ≡ true → IsUnary I q u
  comparison_unary q u (g.sum_alone s) h = sum_unary q u s h
  comparison_unary _ _ (g.compared {q} {r} {op} {u} {v} t s h' m) h = not_unary _ _ (out-Compare q op r) refl h

  logic_unary : (q : Query) (u : Lexemes) → IsLogic I q u → is_unary q ≡ true → IsUnary I q u
  logic_unary q u (g.comparison_alone s) h = comparison_unary q u s h
  logic_unary _ _ (g.all_of {q} {r} {qs} {u} {v} s m) h = not_unary _ _ (out-And q (r ∷ qs)) refl h
  logic_unary _ _ (g.any_of {q} {r} {qs} {u} {v} s m) h = not_unary _ _ (out-Or q (r ∷ qs)) refl h

  pub unary_logic : (q : Query) (u : Lexemes) → IsUnary I q u → IsLogic I q u
  unary_logic q u s = g.comparison_alone (g.sum_alone (g.product_alone (g.unary_alone s)))

module _ {fuel n : ℕ} {inner : Reader Query} (N : Lawful Query fuel n 0 0 (below 9) Nested inner) where
  -- ---- logic = comp | comp "&&" comp { "&&" comp } | comp "||" comp { "||" comp }

  abbrev Ands : ℕ → List Query → Lexemes → Type 0
  Ands m = Repeated Query (Behind kinds.And Query (IsComparison (Nested m)))

  abbrev Ors : ℕ → List Query → Lexemes → Type 0
  Ors m = Repeated Query (Behind kinds.Or Query (IsComparison (Nested m)))

  and_begins : (m : ℕ) (q : Query) (u : Lexemes) → Behind kinds.And Query (IsComparison (Nested m)) q u → Begins (is kinds.And) u
  and_begins m q u s = behind_begins kinds.And Query (IsComparison (Nested m)) q u s

  or_begins : (m : ℕ) (q : Query) (u : Lexemes) → Behind kinds.Or Query (IsComparison (Nested m)) q u → Begins (is kinds.Or) u
  or_begins m q u s = behind_begins kinds.Or Query (IsComparison (Nested m)) q u s

  and_over : (q : Query) (t : Lexeme) → is kinds.And t ≡ true → below 6 q t ≡ false
  and_over q t h = over_rank 6 6 refl q t (ap rank (is_kind kinds.And t h))

  or_over : (q : Query) (t : Lexeme) → is kinds.Or t ≡ true → below 6 q t ≡ false
  or_over q t h = over_rank 6 7 refl q t (ap rank (is_kind kinds.Or t h))

  ands_lawful : Lawful (List Query) (suc fuel) n 0 0 (below 7) Ands (r.ands inner)
  unfolding r.ands
  ands_lawful = repeated_lawful (below {A = Query} 7 e.Null) (is kinds.And) (behind_lawful kinds.And (λ d. refl) (comparison_lawful N)) and_begins and_over
      (λ q t h. below_wider 6 7 (lit≤ tt) q e.Null t h) (λ t h. ends_mark 7 kinds.And refl e.Null t h)

  ors_lawful : Lawful (List Query) (suc fuel) n 0 0 (below 8) Ors (r.ors inner)
  unfolding r.ors
  ors_lawful = repeated_lawful (below {A = Query} 8 e.Null) (is kinds.Or) (behind_lawful kinds.Or (λ d. refl) (comparison_lawful N)) or_begins or_over
      (λ q t h. below_wider 6 8 (lit≤ tt) q e.Null t h) (λ t h. ends_mark 8 kinds.Or refl e.Null t h)

  AndOr : ℕ → Query → List Query → Query → Lexemes → Type 0
  AndOr m q [] = Image (or_of q) (Ors m)
  AndOr m q (x ∷ qs) = Nil (e.And q (x ∷ qs))

  and_or_lawful : (q : Query) (qs : List Query) → Lawful Query (suc fuel) n 0 0 (below 8) (λ m. AndOr m q qs) (and_or inner q qs)
  unfolding AndOr
  and_or_lawful q [] = map_lawful (below 8) (or_of q) ors_lawful (λ a t h. h)
  and_or_lawful q (x ∷ qs) = pure_lawful (suc fuel) n 0 (below 8) (e.And q (x ∷ qs))

  and_or_follows : (m : ℕ) (q : Query) (qs : List Query) (b : Query) (v rest : Lexemes) → AndOr m q qs b v → Stops (below 8 b) rest → Stops (below 7 qs) (v ++ rest)
  unfolding AndOr
  and_or_follows m q [] b v rest (xs, same, s) stops = repeated_follows Query (Behind kinds.Or Query (IsComparison (Nested m))) (below {A = Query} 7 q) (below 8 b) (is kinds.Or) (or_begins m)
      (λ t h. over_rank 7 7 refl q t (ap rank (is_kind kinds.Or t h))) (λ t h. below_wider 7 8 (lit≤ tt) q b t h) xs v rest s stops
  and_or_follows m q (x ∷ qs) b v rest (same, e) stops = rw e (stops_wider (below {A = Query} 7 q) (below 8 b) (below_wider 7 8 (lit≤ tt) q b) rest stops)

  LogicTail : ℕ → Query → Query → Lexemes → Type 0
  LogicTail m q = Seq (Ands m) (AndOr m q)

  tail_lawful : (q : Query) → Lawful Query (suc fuel) n 0 0 (below 8) (λ m. LogicTail m q) (seq (r.ands inner) (and_or inner q))
  unfolding LogicTail
  tail_lawful q = seq_lawful {S = λ m. AndOr m q} ands_lawful (and_or_lawful q) (λ m qs b v rest s stops. and_or_follows m q qs b v rest s stops)

  tail_follows : (m : ℕ) (q b : Query) (v rest : Lexemes) → LogicTail m q b v → Stops (below 8 b) rest → Stops (below 6 q) (v ++ rest)
  unfolding LogicTail
  tail_follows m q b v rest (qs, u1, v1, e, s, s') stops =
      let inner_stops = and_or_follows m q qs b v1 rest s' stops in
      let outer = repeated_follows Query (Behind kinds.And Query (IsComparison (Nested m))) (below {A = Query} 6 q) (below {A = Query} 7 q) (is kinds.And) (and_begins m) (and_over q) (λ t h. below_wider 6 7 (lit≤ tt) q q t h) qs u1 (v1 ++ rest) s inner_stops in
      rw e (rw append_assoc outer)

  logic_into : (m : ℕ) (b q : Query) (u : Lexemes) (qs : List Query) (u1 v1 : Lexemes) → IsComparison (Nested m) q u → Ands m qs u1 → AndOr m q qs b v1 → IsLogic (Nested m) b (u ++ (u1 ++ v1))
  unfolding AndOr
  logic_into m b q u [] u1 v1 s a ([], same, o) =
      let e1 = repeated_none Query (Behind kinds.And Query (IsComparison (Nested m))) u1 a in
      let e2 = repeated_none Query (Behind kinds.Or Query (IsComparison (Nested m))) v1 o in
      rw e1 (rw e2 (rw append-nil (rw same (g.comparison_alone s))))
  logic_into m b q u [] u1 v1 s a (x ∷ xs, same, o) =
      let e1 = repeated_none Query (Behind kinds.And Query (IsComparison (Nested m))) u1 a in
      rw e1 (rw same (g.any_of s o))
  logic_into m b q u (x ∷ qs) u1 v1 s a (same, e) = rw e (rw append-nil (rw same (g.all_of s a)))

  logic_from : (m : ℕ) (b : Query) (w : Lexemes) → IsLogic (Nested m) b w → Seq (IsComparison (Nested m)) (LogicTail m) b w
  unfolding LogicTail AndOr
  logic_from m b w (g.comparison_alone s) = (b, w, [], simp append-nil, s, ([], [], [], refl, none, ([], refl, none)))
  logic_from m _ _ (g.all_of {q} {r = x} {qs} {u} {v} s a) = (q, u, v, refl, s, (x ∷ qs, v, [], simp append-nil, a, (refl, refl)))
  logic_from m _ _ (g.any_of {q} {r = x} {qs} {u} {v} s o) = (q, u, v, refl, s, ([], [], v, refl, none, (x ∷ qs, refl, o)))

  pub logic_lawful : Lawful Query (suc fuel) n 0 0 (below 8) (λ m. IsLogic (Nested m)) (r.logic inner)
  unfolding r.logic LogicTail
  logic_lawful = same_lawful (seq_lawful {S = LogicTail} (comparison_lawful N) tail_lawful tail_follows) (λ m. IsLogic (Nested m))
      (λ m b w (q, u, v, e, s, (qs, u1, v1, e', a, o)). rw e (rw e' (logic_into m b q u qs u1 v1 s a o)))
      logic_from

  -- ---- plain = coal | logic

  abbrev Pipes : ℕ → List Query → Lexemes → Type 0
  Pipes m = Repeated Query (Behind kinds.Pipe Query (IsUnary (Nested m)))

  pipe_begins : (m : ℕ) (q : Query) (u : Lexemes) → Behind kinds.Pipe Query (IsUnary (Nested m)) q u → Begins (is kinds.Pipe) u
  pipe_begins m q u s = behind_begins kinds.Pipe Query (IsUnary (Nested m)) q u s

  pipes_lawful : Lawful (List Query) (suc fuel) n 0 0 (below 9) Pipes (r.pipes inner)
  unfolding r.pipes
  pipes_lawful = repeated_lawful (below {A = Query} 9 e.Null) (is kinds.Pipe) (behind_lawful kinds.Pipe (λ d. refl) (unary_lawful N)) pipe_begins
      (λ q t h. over_rank 3 8 refl q t (ap rank (is_kind kinds.Pipe t h)))
      (λ q t h. below_wider 3 9 (lit≤ tt) q e.Null t h) (λ t h. ends_mark 9 kinds.Pipe refl e.Null t h)

  PlainTail : ℕ → Bool → Query → Query → Lexemes → Type 0
  PlainTail m true q = Image (coalesce_of q) (Pipes m)
  PlainTail m false q = Nil q

  plain_tail_lawful : (b : Bool) (q : Query) → Lawful Query (suc fuel) n 0 0 (below 9) (λ m. PlainTail m b q) (coalesce_if inner b q)
  unfolding PlainTail
  plain_tail_lawful true q = map_lawful (below 9) (coalesce_of q) pipes_lawful (λ a t h. h)
  plain_tail_lawful false q = pure_lawful (suc fuel) n 0 (below 9) q

  plain_follows : (m : ℕ) (y : Bool) (q b : Query) (v rest : Lexemes) → PlainTail m y q b v → Stops (below 9 b) rest → Stops (below 8 q) (v ++ rest)
  unfolding PlainTail
  plain_follows m true q b v rest (xs, same, s) stops = repeated_follows Query (Behind kinds.Pipe Query (IsUnary (Nested m))) (below 8 q) (below 9 b) (is kinds.Pipe) (pipe_begins m)
      (λ t h. over_rank 8 8 refl q t (ap rank (is_kind kinds.Pipe t h))) (λ t h. below_wider 8 9 (lit≤ tt) q b t h) xs v rest s stops
  plain_follows m false q b v rest (same, e) stops = rw e (stops_wider (below 8 q) (below 9 b) (below_wider 8 9 (lit≤ tt) q b) rest stops)

  plain_into : (m : ℕ) (y : Bool) (q b : Query) (u v : Lexemes) → is_unary q ≡ y → IsLogic (Nested m) q u → PlainTail m y q b v → IsPlain (Nested m) b (u ++ v)
  unfolding PlainTail
  plain_into m true q b u v h s ([], same, p) = (let e = repeated_none Query (Behind kinds.Pipe Query (IsUnary (Nested m))) v p in rw e (rw append-nil (rw same (g.logic s))))
  plain_into m true q b u v h s (x ∷ xs, same, p) = rw same (g.first_of (logic_unary (Nested m) q u s h) p)
  plain_into m false q b u v h s (same, e) = rw e (rw append-nil (rw same (g.logic s)))

  plain_alone : (m : ℕ) (y : Bool) (q : Query) → PlainTail m y q q []
  unfolding PlainTail
  plain_alone m true q = ([], refl, none)
  plain_alone m false q = (refl, refl)

  plain_from : (m : ℕ) (b : Query) (w : Lexemes) → IsPlain (Nested m) b w → Seq (IsLogic (Nested m)) (λ q. PlainTail m (is_unary q) q) b w
  unfolding PlainTail
  plain_from m b w (g.logic s) = (b, w, [], simp append-nil, s, plain_alone m (is_unary b) b)
  plain_from m _ _ (g.first_of {q} {r = x} {qs} {u} {v} s p) =
      (q, u, v, refl, unary_logic (Nested m) q u s, subst (λ y. PlainTail m y q (e.Coalesce q (x ∷ qs)) v) (sym (unary_is (Nested m) q u s)) (x ∷ qs, refl, p))

  pub plain_lawful : Lawful Query (suc fuel) n 0 0 (below 9) (λ m. IsPlain (Nested m)) (r.plain inner)
  unfolding r.plain
  plain_lawful = same_lawful (seq_lawful {S = λ m q. PlainTail m (is_unary q) q} logic_lawful (λ q. plain_tail_lawful (is_unary q) q) (λ m q b v rest s stops. plain_follows m (is_unary q) q b v rest s stops))
      (λ m. IsPlain (Nested m))
      (λ m b w (q, u, v, e, s, t). rw e (plain_into m (is_unary q) q b u v refl s t))
      plain_from
