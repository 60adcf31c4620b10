-- Conditions and what stands in their braces are read rightly.
use Rattle.std.proofs.Common.{◌≡◌, ℕ, suc, List, [], ◌∷◌, ◌++◌, Option, inl, inr, refl, sym, ap, ◌∙◌, subst, append-nil}
use Rattle.bt_lexer.specs.declared.token.Kind.TheVariants as kinds
use Rattle.bt_syntax.specs.declared.keywords.Keyword.TheVariants as w
use Rattle.bt_tree.specs.declared.tree.Query.{Query}
use Rattle.bt_tree.specs.declared.tree.Query.TheVariants as e
use Rattle.bt_tree.specs.declared.tree.Branch.{Branch}
use Rattle.bt_syntax.specs.Lexemes.{Lexemes, reserved}
use Rattle.bt_syntax.specs.Grammar as g
use Rattle.bt_syntax.specs.Grammar.{IsReserved, IsPlain, IsBlock, IsBranch, AreElses, IsIf, Nested}
use Rattle.bt_syntax.specs.Reading.{Reader}
use Rattle.bt_syntax.specs.Readers as r
use Rattle.bt_syntax.specs.Readers.{is_reserved, same_keyword, branch_of, Else, More, Last, has_more, branches_of, last_of, if_of}
use Rattle.bt_syntax.proofs.Lawful.{Lawful, Seq, Image, nothing, stops_nothing, seq_lawful, map_lawful, same_lawful}
use Rattle.bt_syntax.proofs.Branches.{Either, branch_lawful}
use Rattle.bt_syntax.proofs.Many.{Turns, turns_lawful}
use Rattle.bt_syntax.proofs.TokenLemmas.{word_is, no_word, sample, below, ends_word}
use Rattle.bt_syntax.proofs.Forms.{AfterWord, after_word_lawful, bracketed_lawful}
use Rattle.bt_syntax.specs.Rules.{bracketed}
use Rattle.bt_syntax.proofs.FirstTokens.{bracketed_begins}
use Rattle.bt_syntax.proofs.LogicLemmas.{plain_lawful}
use Rattle.bt_syntax.proofs.MatchLemmas.{stops_bracket}

module _ {fuel n : ℕ} {inner : Reader Query} (N : Lawful Query fuel n 0 0 (below 9) Nested inner) where
  block_lawful : Lawful Query (suc fuel) n 0 0 nothing (λ m. IsBlock (Nested m)) (r.block inner)
  unfolding r.block
  block_lawful = bracketed_lawful kinds.LeftBrace kinds.RightBrace N refl refl refl (λ q t h. rw h refl)

  -- ---- plain "{" query "}"

  abbrev BranchParts : ℕ → Branch Query → Lexemes → Type 0
  BranchParts m = Seq (IsPlain (Nested m)) (λ p. Image (branch_of p) (IsBlock (Nested m)))

  branch_from : (m : ℕ) (x : Branch Query) (u : Lexemes) → IsBranch (Nested m) x u → BranchParts m x u
  branch_from m _ _ (g.branch {p} {q} {u} {v} s s') = (p, u, v, refl, s, (q, refl, s'))

  tested_lawful : Lawful (Branch Query) (suc fuel) n 0 0 nothing (λ m. IsBranch (Nested m)) (r.tested inner)
  unfolding r.tested
  tested_lawful = same_lawful
      (seq_lawful {S = λ m p. Image (branch_of p) (IsBlock (Nested m))} (plain_lawful N) (λ p. map_lawful nothing (branch_of p) block_lawful (λ a t h. refl))
      (λ m p b v rest (q, same, s) stops. stops_bracket (below 9 p) kinds.LeftBrace kinds.RightBrace Query (Nested m) q v rest s (λ t h. rw h refl)))
      (λ m. IsBranch (Nested m))
      (λ m x w (p, u, v, e, s, (q, same, s')). rw e (rw same (g.branch s s')))
      branch_from

  abbrev IfBranch : ℕ → Branch Query → Lexemes → Type 0
  IfBranch m = AfterWord w.If (λ t. IsBranch (Nested m))

  if_tested_lawful : Lawful (Branch Query) (suc fuel) n 0 0 nothing IfBranch (r.if_tested inner)
  unfolding r.if_tested
  if_tested_lawful = after_word_lawful {S = λ m t. IsBranch (Nested m)} w.If (λ t. tested_lawful)

  -- ---- what stands behind an `else`

  abbrev IfOrBlock : ℕ → Else → Lexemes → Type 0
  IfOrBlock m = Either (is_reserved w.If) (Image More (IfBranch m)) (Image Last (IsBlock (Nested m)))

  if_or_block_lawful : Lawful Else (suc fuel) n 0 0 nothing IfOrBlock (r.if_or_block inner)
  unfolding reserved
  if_or_block_lawful = branch_lawful (is_reserved w.If) (map_lawful nothing More if_tested_lawful (λ a t h. refl)) (map_lawful nothing Last block_lawful (λ a t h. refl))
      (λ m x u (y, same, (t, v, e, h, s)) e'. (let e'' : t ∷ v ≡ [] = sym e ∙ e' in cc))
      (λ m x (q, same, s) t h. absurd (let (t', v, e, h') = bracketed_begins kinds.LeftBrace kinds.RightBrace Query (Nested m) q [] s in let e'' : t' ∷ v ≡ [] = sym e in cc))
      sample_block
    where
      sample_block : (x : Else) × (u : Lexemes) × IfOrBlock n x u
      sample_block = (let (q, u, s) = N.inhabited in (Last q, sample kinds.LeftBrace ∷ (u ++ sample kinds.RightBrace ∷ []), inr ((q, refl, bracketed (sample kinds.LeftBrace) (sample kinds.RightBrace) refl s refl), refl)))

  abbrev ElseTurn : ℕ → Else → Lexemes → Type 0
  ElseTurn m = AfterWord w.Else (λ t. IfOrBlock m)

  else_turn_lawful : Lawful Else (suc fuel) n 0 0 nothing ElseTurn (r.else_turn inner)
  unfolding r.else_turn
  else_turn_lawful = after_word_lawful {S = λ m t. IfOrBlock m} w.Else (λ t. if_or_block_lawful)

  abbrev Elses : ℕ → List Else → Lexemes → Type 0
  Elses m = Turns has_more (ElseTurn m)

  elses_lawful : Lawful (List Else) (suc fuel) n 0 0 (below 9) Elses (r.elses inner)
  unfolding r.elses
  elses_lawful = turns_lawful (below {A = Query} 9 e.Null) (is_reserved w.Else) has_more else_turn_lawful
      (λ m x u (t, v, e, h, s). (t, v, e, word_is w.Else t h))
      (λ x t g h. refl) (λ x t h. refl) (λ t h. ends_word 9 w.Else refl e.Null t h)

  elses_into : (m : ℕ) (xs : List Else) (w : Lexemes) → Elses m xs w → AreElses (Nested m) (branches_of xs) (last_of xs) w
  elses_into m [] w e = rw e g.no_else
  elses_into m (More x ∷ xs) w (u, v, e, (t, u', e', h, inl ((y, same, (t', u2, e2, h', s)), _)), tl) =
      let same' : y ≡ x = cc in
      rw e (rw e' (rw e2 (g.else_if t t' h h' (subst (λ z. IsBranch (Nested m) z u2) same' s) (elses_into m xs v tl))))
  elses_into m (More x ∷ xs) w (u, v, e, (t, u', e', h, inr ((q, same, s), _)), tl) = absurd (cc)
  elses_into m (Last x ∷ xs) w (u, v, e, (t, u', e', h, inl ((y, same, s), _)), tl) = absurd (cc)
  elses_into m (Last x ∷ xs) w (u, v, e, (t, u', e', h, inr ((q, same, s), _)), (none, empty)) =
      let same' : q ≡ x = cc in
      rw e (rw empty (rw append-nil (rw e' (rw none (g.else_last t h (subst (λ z. IsBlock (Nested m) z u') same' s))))))

  elses_from : (m : ℕ) (ys : List (Branch Query)) (o : Option Query) (w : Lexemes) → AreElses (Nested m) ys o w → (xs : List Else) × (ys ≡ branches_of xs) × (o ≡ last_of xs) × Elses m xs w
  elses_from m _ _ _ g.no_else = ([], refl, refl, refl)
  elses_from m _ _ _ (g.else_if {x} {xs} {q} {u} {v} t t' h h' s s') =
      (let (ys, e1, e2, r) = elses_from m xs q v s' in
      (More x ∷ ys, ap (λ y. x ∷ y) e1, e2, (t ∷ t' ∷ u, v, refl, (t, t' ∷ u, refl, h, inl ((x, refl, (t', u, refl, h', s)), word_is w.If t' h')), r)))
  elses_from m _ _ _ (g.else_last {q} {u} t h s) =
      (let (t', v, e, b) = bracketed_begins kinds.LeftBrace kinds.RightBrace Query (Nested m) q u s in
      (Last q ∷ [], refl, refl, (t ∷ u, [], simp append-nil, (t, u, refl, h, inr ((q, refl, s), rw e (ap (same_keyword w.If) (no_word kinds.LeftBrace (λ u. refl) t' b)))), (refl, refl))))

  -- ---- if

  if_from : (m : ℕ) (b : Query) (w : Lexemes) → IsIf (Nested m) b w → Seq (IfBranch m) (λ x. Image (if_of x) (Elses m)) b w
  if_from m _ _ (g.«if» {x} {xs} {q} {u} {v} t h s s') =
      (let (ys, e1, e2, r) = elses_from m xs q v s' in
      (x, t ∷ u, v, refl, (t, u, refl, h, s), (ys, ap (λ y. e.If (x ∷ y) q) e1 ∙ ap (λ y. e.If (x ∷ branches_of ys) y) e2, r)))

  pub if_lawful : Lawful Query (suc fuel) n 0 0 (below 9) (λ m. IsIf (Nested m)) (r.if_query inner)
  unfolding r.if_query
  if_lawful = same_lawful
      (seq_lawful {S = λ m x. Image (if_of x) (Elses m)} if_tested_lawful (λ x. map_lawful (below 9) (if_of x) elses_lawful (λ a t h. h)) (λ m x b v rest s stops. stops_nothing (v ++ rest)))
      (λ m. IsIf (Nested m))
      (λ m b w (x, u, v, e, (t, u', e', h, s), (ys, same, r)). rw e (rw e' (rw same (g.«if» t h s (elses_into m ys v r)))))
      if_from
