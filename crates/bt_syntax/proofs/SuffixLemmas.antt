-- Suffixes and items are read rightly.
use Rattle.std.proofs.Common.{◌≡◌, ℕ, suc, ◌+◌, Bool, true, false, List, [], ◌∷◌, Some, None, inl, inr, refl, sym, ap, ◌∙◌, append-nil, lit≤}
use Rattle.bt_lexer.specs.declared.token.Kind.{Kind}
use Rattle.bt_lexer.specs.declared.token.Kind.TheVariants as kinds
use Rattle.bt_tree.specs.declared.tree.Query.{Query}
use Rattle.bt_tree.specs.declared.tree.Query.TheVariants as e
use Rattle.bt_tree.specs.declared.tree.Arg.{Arg}
use Rattle.bt_tree.specs.declared.tree.Suffix.{Suffix}
use Rattle.bt_tree.specs.declared.tree.Suffix.TheVariants as s
use Rattle.bt_syntax.specs.Lexemes.{Lexeme, Lexemes, reserved}
use Rattle.bt_syntax.specs.Rules.{none, Listed, Behind, behind, Bracketed}
use Rattle.bt_syntax.specs.Grammar as g
use Rattle.bt_syntax.specs.Grammar.{is_free, segment_of, segment_in, word, IsArg, AreArgs, IsHead, IsSuffix, IsItem, Nested}
use Rattle.bt_syntax.specs.Reading.{Reader, token, branch}
use Rattle.bt_syntax.specs.Readers as r
use Rattle.bt_syntax.specs.Readers.{is, item_of}
use Rattle.bt_syntax.proofs.Lawful.{Lawful, One, Nil, Image, map_lawful, same_lawful, wider_lawful, token_lawful, pure_lawful}
use Rattle.bt_syntax.proofs.Branches.{Either, either_some, branch_lawful}
use Rattle.bt_syntax.proofs.Many.{Begins}
use Rattle.bt_syntax.proofs.TokenLemmas.{is_kind, kind_is, sample, rank, below, below_wider, ends_mark, over_rank, free_kind, Flat}
use Rattle.bt_syntax.proofs.Forms.{After, after_lawful, behind_lawful, behind_begins, bracketed_lawful, Chain, chain_lawful, repeated_none}
use Rattle.bt_syntax.proofs.FirstTokens.{bracketed_begins}
use Rattle.bt_syntax.proofs.ArgumentLemmas.{arg_lawful, args_lawful}
use Rattle.bt_syntax.proofs.HeadLemmas.{head_lawful, starts_at}

segment_flat : (kd : Kind) (t : Lexeme) (x : Suffix Query) → segment_in kd t ≡ Some x → Flat kd
segment_flat kinds.Name t x h = λ d. refl
segment_flat kinds.Text t x h = λ d. refl
segment_flat kinds.Int t x h = λ d. refl
segment_flat _ t x h = absurd (cc)

segment_not_paren : (t : Lexeme) (x : Suffix Query) → segment_of t ≡ Some x → is kinds.LeftParen t ≡ false
segment_not_paren t x h = go (is kinds.LeftParen t) refl
  where
    go : (b : Bool) → is kinds.LeftParen t ≡ b → b ≡ false
    go true b = absurd (let e : segment_of t ≡ None = ap (λ y. segment_in y t) (is_kind kinds.LeftParen t b) in let e' : None ≡ Some x = sym e ∙ h in cc)
    go false b = refl

module _ {fuel n : ℕ} {inner : Reader Query} (N : Lawful Query fuel n 0 0 (below 9) Nested inner) where
  abbrev Within : ℕ → Suffix Query → Lexemes → Type 0
  Within m = Image s.Within (Bracketed kinds.LeftParen kinds.RightParen (Arg Query) (IsArg (Nested m)))

  within_lawful : Lawful (Suffix Query) (suc fuel) n 0 0 (below 2) Within (r.within inner)
  unfolding r.within
  within_lawful = map_lawful (below 2) s.Within (bracketed_lawful kinds.LeftParen kinds.RightParen (arg_lawful N) refl refl refl (λ x t h. rw h refl)) (λ a t h. refl)

  abbrev MethodOrName : ℕ → Lexeme → Suffix Query → Lexemes → Type 0
  MethodOrName m t = Either (is kinds.LeftParen) (Image (s.Method (word t)) (AreArgs (Nested m))) (Nil (s.Name t.text))

  bracketed_some : (A : Type 0) (R : A → Lexemes → Type 0) (f : A → Suffix Query) (q : Suffix Query) (u : Lexemes) → Image f (Bracketed kinds.LeftParen kinds.RightParen A R) q u → u ≡ [] → ⊥
  bracketed_some A R f q u (x, same, s) e = (let (t, v, e', h) = bracketed_begins kinds.LeftParen kinds.RightParen A R x u s in let e'' : t ∷ v ≡ [] = sym e' ∙ e in cc)

  method_lawful : (t : Lexeme) → Lawful (Suffix Query) (suc fuel) n 0 0 (below 2) (λ m. MethodOrName m t) (r.method_or_name inner t)
  method_lawful t = branch_lawful (is kinds.LeftParen) (map_lawful (below 2) (s.Method (word t)) (args_lawful N) (λ a t h. refl)) (pure_lawful (suc fuel) n 0 (below 2) (s.Name t.text))
      (λ m q u. bracketed_some (List (Arg Query)) (Listed (Arg Query) (IsArg (Nested m))) (s.Method (word t)) q u)
      (λ m q _ t h. ends_mark 2 kinds.LeftParen refl q t h)
      (s.Name t.text, [], inr ((refl, refl), refl))

  abbrev Named : ℕ → Suffix Query → Lexemes → Type 0
  Named m = After is_free (MethodOrName m)

  named_lawful : Lawful (Suffix Query) (suc fuel) n 0 0 (below 2) Named (r.named_suffix inner)
  unfolding r.named_suffix reserved
  named_lawful = after_lawful {S = MethodOrName} is_free (λ t h d. (let e = free_kind t h in rw e refl)) (sample kinds.Name, refl) method_lawful

  abbrev NamedOrSegment : ℕ → Suffix Query → Lexemes → Type 0
  NamedOrSegment m = Either is_free (Named m) (One segment_of)

  abbrev AfterDot : ℕ → Suffix Query → Lexemes → Type 0
  AfterDot m = Either (is kinds.LeftParen) (Within m) (NamedOrSegment m)

  named_or_segment_lawful : Lawful (Suffix Query) (suc fuel) n 0 0 (below 2) NamedOrSegment (branch is_free (r.named_suffix inner) (token segment_of))
  unfolding reserved
  named_or_segment_lawful = branch_lawful is_free named_lawful
      (wider_lawful (token_lawful (suc fuel) n 0 0 segment_of (λ t x h d. segment_flat t.kind t x h (d + 0)) (sample kinds.Text, s.Quoted [], refl)) (below 2) (λ a t h. refl))
      (λ m q u (t, v, e, h, s) e'. (let e'' : t ∷ v ≡ [] = sym e ∙ e' in cc))
      (λ m q (t, e, h) t' h'. absurd (let e'' : t ∷ [] ≡ [] = sym e in cc))
      (s.Quoted [], sample kinds.Text ∷ [], inr ((sample kinds.Text, refl, refl), refl))

  after_dot_lawful : Lawful (Suffix Query) (suc fuel) n 0 0 (below 2) AfterDot (r.after_dot inner)
  unfolding r.after_dot reserved
  after_dot_lawful = branch_lawful (is kinds.LeftParen) within_lawful named_or_segment_lawful
      (λ m q u. bracketed_some (Arg Query) (IsArg (Nested m)) s.Within q u)
      (λ m q s t h. absurd (either_some is_free (Named m) (One segment_of) q [] (λ (t, e, h) e'. (let e'' : t ∷ [] ≡ [] = sym e ∙ e' in cc)) s refl))
      (s.Quoted [], sample kinds.Text ∷ [], inr (inr ((sample kinds.Text, refl, refl), refl), refl))

  suffix_into : (m : ℕ) (dot : Lexeme) (x : Suffix Query) (u : Lexemes) → dot.kind ≡ kinds.Dot → AfterDot m x u → IsSuffix (Nested m) x (dot ∷ u)
  suffix_into m dot x u d (inl ((y, same, s), _)) = rw same (g.within dot d s)
  suffix_into m dot x u d (inr (inl ((t, v, e, h, inl ((xs, same, s), _)), _), _)) = rw e (rw same (g.method dot t d h s))
  suffix_into m dot x u d (inr (inl ((t, v, e, h, inr ((same, e'), _)), _), _)) = rw e (rw e' (rw same (g.segment {x = s.Name t.text} dot t d (ap (λ y. segment_in y t) (free_kind t h)))))
  suffix_into m dot x u d (inr (inr ((t, e, h), _), _)) = rw e (g.segment dot t d h)

  segment_from : (m : ℕ) (t : Lexeme) (x : Suffix Query) (b : Bool) → is_free t ≡ b → segment_of t ≡ Some x → NamedOrSegment m x (t ∷ [])
  segment_from m t x true f h = inl ((t, [], refl, f, inr ((segment_name t x (free_kind t f) h, refl), refl)), f)
    where
      segment_name : (t : Lexeme) (x : Suffix Query) → t.kind ≡ kinds.Name → segment_of t ≡ Some x → x ≡ s.Name t.text
      segment_name t x e h = let h' : Some (s.Name t.text) ≡ Some x = sym (ap (λ y. segment_in y t) e) ∙ h in cc
  segment_from m t x false f h = inr ((t, refl, h), f)

  suffix_from : (m : ℕ) (x : Suffix Query) (u : Lexemes) → IsSuffix (Nested m) x u → Behind kinds.Dot (Suffix Query) (AfterDot m) x u
  suffix_from m _ _ (g.segment {x} dot t d h) = behind dot d (inr (segment_from m t x (is_free t) refl h, segment_not_paren t x h))
  suffix_from m _ _ (g.method {xs} {u} dot t d h s) =
      (let (t', v, e, b) = bracketed_begins kinds.LeftParen kinds.RightParen _ _ xs u s in
      let name = free_kind t h in
      behind dot d (inr (inl ((t, u, refl, h, inl ((xs, refl, s), starts_at (is kinds.LeftParen) t' u v true e (kind_is kinds.LeftParen t' b))), h), rw name refl)))
  suffix_from m _ _ (g.within {x} {u} dot d s) =
      (let (t, v, e, b) = bracketed_begins kinds.LeftParen kinds.RightParen _ _ x u s in behind dot d (inl ((x, refl, s), starts_at (is kinds.LeftParen) t u v true e (kind_is kinds.LeftParen t b))))

  pub suffix_lawful : Lawful (Suffix Query) (suc fuel) n 0 0 (below 2) (λ m. IsSuffix (Nested m)) (r.suffix inner)
  unfolding r.suffix
  suffix_lawful = same_lawful (behind_lawful kinds.Dot (λ d. refl) after_dot_lawful) (λ m. IsSuffix (Nested m)) into suffix_from
    where
      into : (m : ℕ) (x : Suffix Query) (u : Lexemes) → Behind kinds.Dot (Suffix Query) (AfterDot m) x u → IsSuffix (Nested m) x u
      into m _ _ (behind {a = x} {u} dot d s) = suffix_into m dot x u d s

  pub suffix_begins : (m : ℕ) (x : Suffix Query) (u : Lexemes) → IsSuffix (Nested m) x u → Begins (is kinds.Dot) u
  suffix_begins m x u s = behind_begins kinds.Dot (Suffix Query) (AfterDot m) x u (suffix_from m x u s)

  -- ---- items

  dot_rank : (t : Lexeme) → is kinds.Dot t ≡ true → rank t.kind ≡ 2
  dot_rank t h = ap rank (is_kind kinds.Dot t h)

  pub item_lawful : Lawful Query (suc fuel) n 0 0 (below 3) (λ m. IsItem (Nested m)) (r.item inner)
  unfolding r.item r.suffixes
  item_lawful = same_lawful
      (chain_lawful (below {A = Query} 3 e.Null) (is kinds.Dot) item_of (head_lawful N) suffix_lawful suffix_begins
      (λ x t h. over_rank 2 2 refl x t (dot_rank t h)) (λ x t h. below_wider 2 3 (lit≤ tt) x e.Null t h) (λ t h. ends_mark 3 kinds.Dot refl e.Null t h)
      (λ x t h. over_rank 2 2 refl x t (dot_rank t h)) (λ x t h. below_wider 2 3 (lit≤ tt) x e.Null t h))
      (λ m. IsItem (Nested m)) into from
    where
      into : (m : ℕ) (b : Query) (w : Lexemes) → Chain (IsHead (Nested m)) (IsSuffix (Nested m)) item_of b w → IsItem (Nested m) b w
      into m b w (q, u, [], v, e, s, x, same) = (let e' = repeated_none (Suffix Query) (IsSuffix (Nested m)) v x in rw e (rw e' (rw append-nil (rw same (g.head_alone s)))))
      into m b w (q, u, x ∷ xs, v, e, s, x', same) = rw e (rw same (g.suffixed s x'))

      from : (m : ℕ) (b : Query) (w : Lexemes) → IsItem (Nested m) b w → Chain (IsHead (Nested m)) (IsSuffix (Nested m)) item_of b w
      from m b w (g.head_alone s) = (b, w, [], [], simp append-nil, s, none, refl)
      from m _ _ (g.suffixed {q} {x} {xs} {u} {v} s x') = (q, u, x ∷ xs, v, refl, s, x', refl)
