-- Operators and their operands are read rightly.
use Rattle.std.proofs.Common.{◌≡◌, ℕ, suc, ◌+◌, true, false, [], ◌∷◌, ◌++◌, Option, Some, is_some, inl, inr, refl, sym, ap, ◌∙◌, append-nil, lit≤}
use Rattle.bt_lexer.specs.declared.token.Kind.{Kind}
use Rattle.bt_lexer.specs.declared.token.Kind.TheVariants as kinds
use Rattle.bt_value.specs.declared.names.Op.{Op}
use Rattle.bt_value.specs.declared.names.Op.TheVariants as op
use Rattle.bt_value.specs.declared.names.PrefixOp.{PrefixOp}
use Rattle.bt_value.specs.declared.names.PrefixOp.TheVariants as po
use Rattle.bt_syntax.specs.declared.keywords.Keyword.{Keyword}
use Rattle.bt_syntax.specs.declared.keywords.Keyword.TheVariants as w
use Rattle.bt_tree.specs.declared.tree.Query.{Query}
use Rattle.bt_tree.specs.declared.tree.Query.TheVariants as e
use Rattle.bt_tree.specs.declared.tree.Term.{Term}
use Rattle.bt_syntax.specs.Lexemes.{Lexemes, reserved}
use Rattle.bt_syntax.specs.Rules.{none}
use Rattle.bt_syntax.specs.Grammar as g
use Rattle.bt_syntax.specs.Grammar.{prefix_op, product_op, sum_op, comparison_op, IsItem, IsUnary, IsFactor, IsProduct, IsTerm, IsSum, IsComparison, IsLogic, IsPlain, Nested}
use Rattle.bt_syntax.specs.Reading.{Reader, pure, branch}
use Rattle.bt_syntax.specs.Readers as r
use Rattle.bt_syntax.specs.Readers.{is, is_prefix, is_product, is_sum, is_comparison, term_of, product_of, sum_of, or_of, coalesce_of, and_or, coalesce_if, is_unary, unary_layer}
use Rattle.bt_syntax.proofs.Lawful.{Stops, stops_wider, Lawful, Seq, Nil, Image, seq_lawful, map_lawful, same_lawful, pure_lawful}
use Rattle.bt_syntax.proofs.Branches.{Either, branch_lawful}
use Rattle.bt_syntax.proofs.Many.{Begins, begins_some}
use Rattle.bt_syntax.proofs.TokenLemmas.{sample, sample_word, rank, below, below_wider, ends_test, over_rank, Flat}
use Rattle.bt_syntax.proofs.Forms.{AfterAs, after_as_lawful, Chain, chain_lawful, repeated_none}
use Rattle.bt_syntax.proofs.FirstTokens.{head_first, head_first_in, item_begins}
use Rattle.bt_syntax.proofs.SuffixLemmas.{item_lawful}

-- ---- the operators' tokens

prefix_flat : (kd : Kind) (x : PrefixOp) → prefix_op kd ≡ Some x → Flat kd
prefix_flat kinds.Bang x h = λ d. refl
prefix_flat kinds.Minus x h = λ d. refl
prefix_flat _ x h = absurd (cc)

product_flat : (kd : Kind) (x : Op) → product_op kd ≡ Some x → Flat kd
product_flat kinds.Star x h = λ d. refl
product_flat kinds.Slash x h = λ d. refl
product_flat kinds.Percent x h = λ d. refl
product_flat _ x h = absurd (cc)

product_rank : (kd : Kind) → is_some (product_op kd) ≡ true → rank kd ≡ 3
product_rank kinds.Star h = refl
product_rank kinds.Slash h = refl
product_rank kinds.Percent h = refl
product_rank _ h = absurd (cc)

sum_flat : (kd : Kind) (x : Op) → sum_op kd ≡ Some x → Flat kd
sum_flat kinds.Plus x h = λ d. refl
sum_flat kinds.Minus x h = λ d. refl
sum_flat _ x h = absurd (cc)

sum_rank : (kd : Kind) → is_some (sum_op kd) ≡ true → rank kd ≡ 4
sum_rank kinds.Plus h = refl
sum_rank kinds.Minus h = refl
sum_rank _ h = absurd (cc)

comparison_flat : (kd : Kind) (x : Op) → comparison_op kd ≡ Some x → Flat kd
comparison_flat kinds.Equal x h = λ d. refl
comparison_flat kinds.NotEqual x h = λ d. refl
comparison_flat kinds.Less x h = λ d. refl
comparison_flat kinds.LessEqual x h = λ d. refl
comparison_flat kinds.Greater x h = λ d. refl
comparison_flat kinds.GreaterEqual x h = λ d. refl
comparison_flat _ x h = absurd (cc)

comparison_rank : (kd : Kind) → is_some (comparison_op kd) ≡ true → rank kd ≡ 5
comparison_rank kinds.Equal h = refl
comparison_rank kinds.NotEqual h = refl
comparison_rank kinds.Less h = refl
comparison_rank kinds.LessEqual h = refl
comparison_rank kinds.Greater h = refl
comparison_rank kinds.GreaterEqual h = refl
comparison_rank _ h = absurd (cc)

head_not_prefix : (kd : Kind) (o : Option Keyword) → head_first_in kd o ≡ true → is_some (prefix_op kd) ≡ false
head_not_prefix kinds.Bang o h = absurd (cc)
head_not_prefix kinds.Minus o h = absurd (cc)
head_not_prefix _ o h = refl

pub null_item : (I : Query → Lexemes → Type 0) → IsItem I e.Null (sample_word w.Null ∷ [])
unfolding reserved
null_item I = g.head_alone (g.IsHead.token (sample_word w.Null) refl)

module _ {fuel n : ℕ} {inner : Reader Query} (N : Lawful Query fuel n 0 0 (below 9) Nested inner) where
  -- ---- unary = [ "!" | "-" ] item

  abbrev Prefixed : ℕ → Query → Lexemes → Type 0
  Prefixed m = AfterAs (λ t. prefix_op t.kind) (λ x. Image (e.Prefix x) (IsItem (Nested m)))

  prefixed_lawful : Lawful Query (suc fuel) n 0 0 (below 3) Prefixed (r.prefixed inner)
  unfolding r.prefixed
  prefixed_lawful = after_as_lawful {S = λ m x. Image (e.Prefix x) (IsItem (Nested m))} (λ t. prefix_op t.kind) (λ t x h d. prefix_flat t.kind x h (d + 0)) (sample kinds.Bang, po.Not, refl)
      (λ x. map_lawful (below 3) (e.Prefix x) (item_lawful N) (λ a t h. h))

  unary_parts : Lawful Query (suc fuel) n 0 0 (below 3) (λ m. Either is_prefix (Prefixed m) (IsItem (Nested m))) (r.unary inner)
  unfolding r.unary
  unary_parts = branch_lawful is_prefix prefixed_lawful (item_lawful N)
      (λ m q u (t, x, v, e, h, s) e'. (let e'' : t ∷ v ≡ [] = sym e ∙ e' in cc))
      (λ m q s t h. absurd (begins_some head_first [] (item_begins (Nested m) q [] s) refl))
      (e.Null, sample_word w.Null ∷ [], inr (null_item (Nested n), refl))

  pub unary_lawful : Lawful Query (suc fuel) n 0 0 (below 3) (λ m. IsUnary (Nested m)) (r.unary inner)
  unary_lawful = same_lawful unary_parts (λ m. IsUnary (Nested m)) into from
    where
      into : (m : ℕ) (q : Query) (u : Lexemes) → Either is_prefix (Prefixed m) (IsItem (Nested m)) q u → IsUnary (Nested m) q u
      into m q u (inl ((t, x, v, e, h, (y, same, s)), _)) = rw e (rw same (g.prefixed t h s))
      into m q u (inr (s, _)) = g.item_alone s

      from : (m : ℕ) (q : Query) (u : Lexemes) → IsUnary (Nested m) q u → Either is_prefix (Prefixed m) (IsItem (Nested m)) q u
      from m q u (g.item_alone s) = (let (t, v, e, h) = item_begins (Nested m) q u s in inr (s, rw e (head_not_prefix t.kind (reserved t) h)))
      from m _ _ (g.prefixed {q} {op} {u} t h s) = inl ((t, op, u, refl, h, (q, refl, s)), ap is_some h)

  -- ---- prod = unary { ( "*" | "/" | "%" ) unary }

  FactorParts : ℕ → Term Query → Lexemes → Type 0
  FactorParts m = AfterAs (λ t. product_op t.kind) (λ x. Image (term_of x) (IsUnary (Nested m)))

  factor_from : (m : ℕ) (x : Term Query) (u : Lexemes) → IsFactor (Nested m) x u → FactorParts m x u
  unfolding FactorParts
  factor_from m _ _ (g.factor {q} {op} {u} t h s) = (t, op, u, refl, h, (q, refl, s))

  factor_lawful : Lawful (Term Query) (suc fuel) n 0 0 (below 3) (λ m. IsFactor (Nested m)) (r.factor inner)
  unfolding r.factor FactorParts
  factor_lawful = same_lawful
      (after_as_lawful {S = λ m x. Image (term_of x) (IsUnary (Nested m))} (λ t. product_op t.kind) (λ t x h d. product_flat t.kind x h (d + 0)) (sample kinds.Star, op.Mul, refl)
      (λ x. map_lawful (below 3) (term_of x) unary_lawful (λ a t h. h)))
      (λ m. IsFactor (Nested m))
      (λ m x u (t, o, v, e, h, (q, same, s)). rw e (rw same (g.factor t h s)))
      factor_from

  factor_begins : (m : ℕ) (x : Term Query) (u : Lexemes) → IsFactor (Nested m) x u → Begins is_product u
  factor_begins m _ _ (g.factor {q} {op} {u} t h s) = (t, u, refl, ap is_some h)

  pub product_lawful : Lawful Query (suc fuel) n 0 0 (below 4) (λ m. IsProduct (Nested m)) (r.product inner)
  unfolding r.product r.factors
  product_lawful = same_lawful
      (chain_lawful (below {A = Query} 4 e.Null) is_product product_of unary_lawful factor_lawful factor_begins
      (λ x t h. over_rank 3 3 refl x t (product_rank t.kind h)) (λ x t h. below_wider 3 4 (lit≤ tt) x e.Null t h) (λ t h. ends_test is_product 4 3 (λ t h. product_rank t.kind h) refl e.Null t h)
      (λ x t h. over_rank 3 3 refl x t (product_rank t.kind h)) (λ x t h. below_wider 3 4 (lit≤ tt) x e.Null t h))
      (λ m. IsProduct (Nested m)) into from
    where
      into : (m : ℕ) (b : Query) (w : Lexemes) → Chain (IsUnary (Nested m)) (IsFactor (Nested m)) product_of b w → IsProduct (Nested m) b w
      into m b w (q, u, [], v, e, s, x, same) = (let e' = repeated_none (Term Query) (IsFactor (Nested m)) v x in rw e (rw e' (rw append-nil (rw same (g.unary_alone s)))))
      into m b w (q, u, x ∷ xs, v, e, s, x', same) = rw e (rw same (g.multiplied s x'))

      from : (m : ℕ) (b : Query) (w : Lexemes) → IsProduct (Nested m) b w → Chain (IsUnary (Nested m)) (IsFactor (Nested m)) product_of b w
      from m b w (g.unary_alone s) = (b, w, [], [], simp append-nil, s, none, refl)
      from m _ _ (g.multiplied {q} {x} {xs} {u} {v} s x') = (q, u, x ∷ xs, v, refl, s, x', refl)

  -- ---- sum = prod { ( "+" | "-" ) prod }

  TermParts : ℕ → Term Query → Lexemes → Type 0
  TermParts m = AfterAs (λ t. sum_op t.kind) (λ x. Image (term_of x) (IsProduct (Nested m)))

  term_from : (m : ℕ) (x : Term Query) (u : Lexemes) → IsTerm (Nested m) x u → TermParts m x u
  unfolding TermParts
  term_from m _ _ (g.term {q} {op} {u} t h s) = (t, op, u, refl, h, (q, refl, s))

  term_lawful : Lawful (Term Query) (suc fuel) n 0 0 (below 4) (λ m. IsTerm (Nested m)) (r.term inner)
  unfolding r.term TermParts
  term_lawful = same_lawful
      (after_as_lawful {S = λ m x. Image (term_of x) (IsProduct (Nested m))} (λ t. sum_op t.kind) (λ t x h d. sum_flat t.kind x h (d + 0)) (sample kinds.Plus, op.Add, refl)
      (λ x. map_lawful (below 4) (term_of x) product_lawful (λ a t h. h)))
      (λ m. IsTerm (Nested m))
      (λ m x u (t, o, v, e, h, (q, same, s)). rw e (rw same (g.term t h s)))
      term_from

  term_begins : (m : ℕ) (x : Term Query) (u : Lexemes) → IsTerm (Nested m) x u → Begins is_sum u
  term_begins m _ _ (g.term {q} {op} {u} t h s) = (t, u, refl, ap is_some h)

  pub sum_lawful : Lawful Query (suc fuel) n 0 0 (below 5) (λ m. IsSum (Nested m)) (r.sum inner)
  unfolding r.sum r.terms
  sum_lawful = same_lawful
      (chain_lawful (below {A = Query} 5 e.Null) is_sum sum_of product_lawful term_lawful term_begins
      (λ x t h. over_rank 4 4 refl x t (sum_rank t.kind h)) (λ x t h. below_wider 4 5 (lit≤ tt) x e.Null t h) (λ t h. ends_test is_sum 5 4 (λ t h. sum_rank t.kind h) refl e.Null t h)
      (λ x t h. over_rank 4 4 refl x t (sum_rank t.kind h)) (λ x t h. below_wider 4 5 (lit≤ tt) x e.Null t h))
      (λ m. IsSum (Nested m)) into from
    where
      into : (m : ℕ) (b : Query) (w : Lexemes) → Chain (IsProduct (Nested m)) (IsTerm (Nested m)) sum_of b w → IsSum (Nested m) b w
      into m b w (q, u, [], v, e, s, x, same) = (let e' = repeated_none (Term Query) (IsTerm (Nested m)) v x in rw e (rw e' (rw append-nil (rw same (g.product_alone s)))))
      into m b w (q, u, x ∷ xs, v, e, s, x', same) = rw e (rw same (g.added s x'))

      from : (m : ℕ) (b : Query) (w : Lexemes) → IsSum (Nested m) b w → Chain (IsProduct (Nested m)) (IsTerm (Nested m)) sum_of b w
      from m b w (g.product_alone s) = (b, w, [], [], simp append-nil, s, none, refl)
      from m _ _ (g.added {q} {x} {xs} {u} {v} s x') = (q, u, x ∷ xs, v, refl, s, x', refl)

  -- ---- comp = sum | sum ( "==" | .. ) sum

  abbrev Compared : ℕ → Query → Query → Lexemes → Type 0
  Compared m q = AfterAs (λ t. comparison_op t.kind) (λ x. Image (e.Compare q x) (IsSum (Nested m)))

  abbrev MaybeCompared : ℕ → Query → Query → Lexemes → Type 0
  MaybeCompared m q = Either is_comparison (Compared m q) (Nil q)

  compared_lawful : (q : Query) → Lawful Query (suc fuel) n 0 0 (below 6) (λ m. MaybeCompared m q) (branch is_comparison (r.compared inner q) (pure q))
  unfolding r.compared
  compared_lawful q = branch_lawful is_comparison
      (after_as_lawful {S = λ m x. Image (e.Compare q x) (IsSum (Nested m))} (λ t. comparison_op t.kind) (λ t x h d. comparison_flat t.kind x h (d + 0)) (sample kinds.Equal, op.Equal, refl)
      (λ x. map_lawful (below 6) (e.Compare q x) sum_lawful (λ a t h. below_wider 5 6 (lit≤ tt) a a t h)))
      (pure_lawful (suc fuel) n 0 (below 6) q)
      (λ m b u (t, x, v, e, h, s) e'. (let e'' : t ∷ v ≡ [] = sym e ∙ e' in cc))
      (λ m b _ t h. ends_test is_comparison 6 5 (λ t h. comparison_rank t.kind h) refl b t h)
      (q, [], inr ((refl, refl), refl))

  comparison_follows : (m : ℕ) (q b : Query) (v rest : Lexemes) → MaybeCompared m q b v → Stops (below 6 b) rest → Stops (below 5 q) (v ++ rest)
  comparison_follows m q b v rest (inl ((t, x, v', e, h, s), _)) stops = rw e (over_rank 5 5 refl q t (comparison_rank t.kind (ap is_some h)))
  comparison_follows m q b v rest (inr ((same, e), _)) stops = rw e (stops_wider (below 5 q) (below 6 b) (below_wider 5 6 (lit≤ tt) q b) rest stops)

  pub comparison_lawful : Lawful Query (suc fuel) n 0 0 (below 6) (λ m. IsComparison (Nested m)) (r.comparison inner)
  unfolding r.comparison
  comparison_lawful = same_lawful (seq_lawful {S = MaybeCompared} sum_lawful compared_lawful comparison_follows) (λ m. IsComparison (Nested m)) into from
    where
      into : (m : ℕ) (b : Query) (w : Lexemes) → Seq (IsSum (Nested m)) (MaybeCompared m) b w → IsComparison (Nested m) b w
      into m b w (q, u, v, e, s, inl ((t, x, v', e', h, (y, same, s')), _)) = rw e (rw e' (rw same (g.compared t s h s')))
      into m b w (q, u, v, e, s, inr ((same, e'), _)) = rw e (rw e' (rw append-nil (rw same (g.sum_alone s))))

      from : (m : ℕ) (b : Query) (w : Lexemes) → IsComparison (Nested m) b w → Seq (IsSum (Nested m)) (MaybeCompared m) b w
      from m b w (g.sum_alone s) = (b, w, [], simp append-nil, s, inr ((refl, refl), refl))
      from m _ _ (g.compared {q} {r} {op} {u} {v} t s h s') = (q, u, t ∷ v, refl, s, inl ((t, op, v, refl, h, (r, refl, s')), ap is_some h))
