-- Heads are read rightly.
use Rattle.std.proofs.Common.{◌≡◌, ℕ, suc, ◌+◌, Bool, true, false, List, [], ◌∷◌, Option, Some, None, is_some, inl, inr, refl, sym, ap, ◌∙◌, lit≤}
use Rattle.bt_lexer.specs.declared.token.Kind.{Kind}
use Rattle.bt_lexer.specs.declared.token.Kind.TheVariants as kinds
use Rattle.bt_syntax.specs.declared.keywords.Keyword.{Keyword}
use Rattle.bt_syntax.specs.declared.keywords.Keyword.TheVariants as w
use Rattle.bt_tree.specs.declared.tree.Key.{Key}
use Rattle.bt_tree.specs.declared.tree.Key.TheVariants as key
use Rattle.bt_tree.specs.declared.tree.Query.{Query}
use Rattle.bt_tree.specs.declared.tree.Query.TheVariants as e
use Rattle.bt_tree.specs.declared.tree.Arg.{Arg}
use Rattle.bt_tree.specs.declared.tree.Member.{Member}
use Rattle.bt_syntax.specs.Lexemes.{Lexeme, Lexemes, reserved}
use Rattle.bt_syntax.specs.Rules.{Listed, Behind, behind, Bracketed}
use Rattle.bt_syntax.specs.Grammar as g
use Rattle.bt_syntax.specs.Grammar.{is_free, free_in, IsReserved, key_of, token_head, head_in, reserved_head, word, IsKey, IsArg, IsMember, AreArgs, IsHead, Nested}
use Rattle.bt_syntax.specs.Reading.{Reader, branch, starts}
use Rattle.bt_syntax.specs.Readers as r
use Rattle.bt_syntax.specs.Readers.{is, is_not, is_key, is_reserved, same_keyword, member_of}
use Rattle.bt_syntax.proofs.Lawful.{Lawful, One, Nil, Image, nothing, map_lawful, same_lawful, wider_lawful, token_lawful, pure_lawful}
use Rattle.bt_syntax.proofs.Branches.{Either, either_some, branch_lawful}
use Rattle.bt_syntax.proofs.Many.{Begins, begins_some}
use Rattle.bt_syntax.proofs.TokenLemmas.{is_kind, kind_is, word_is, word_kind, sample, sample_word, below, ends_mark, ends_key, key_flat, free_kind, word_not_free, no_word, Flat}
use Rattle.bt_syntax.proofs.Forms.{After, AfterMark, AfterWord, after_lawful, after_mark_lawful, after_word_lawful, behind_lawful, behind_begins, bracketed_lawful}
use Rattle.bt_syntax.proofs.Lists.{listed_lawful}
use Rattle.bt_syntax.proofs.FirstTokens.{query_first, nested_begins, begins_wider, bracketed_begins, not_bracket}
use Rattle.bt_syntax.proofs.ArgumentLemmas.{args_lawful}

-- ---- a key

pub key_lawful : (k n i : ℕ) → Lawful Key k n i i nothing (λ _. IsKey) r.key
unfolding r.key
key_lawful k n i = token_lawful k n i i key_of (λ t x h d. key_flat t.kind t.text x h (d + i)) (sample kinds.Name, key.Name [], refl)

pub key_begins : (x : Key) (u : Lexemes) → IsKey x u → Begins is_key u
key_begins x u (t, e, h) = (t, [], e, ap is_some h)

-- ---- a token alone

reserved_not_meta : (t : Lexeme) (o : Option Keyword) (q : Query) → reserved_head t o ≡ Some q → same_keyword w.Meta o ≡ false
reserved_not_meta t None q h = refl
reserved_not_meta t (Some w.Meta) q h = absurd (cc)
reserved_not_meta t (Some _) q h = refl

reserved_not_free : (t : Lexeme) (o : Option Keyword) (q : Query) → reserved_head t o ≡ Some q → free_in kinds.Name o ≡ false
reserved_not_free t None q h = absurd (cc)
reserved_not_free t (Some v) q h = refl

token_flat : (kd : Kind) (t : Lexeme) (q : Query) → head_in kd t ≡ Some q → Flat kd
token_flat kinds.Name t q h = λ d. refl
token_flat kinds.Int t q h = λ d. refl
token_flat kinds.Text t q h = λ d. refl
token_flat kinds.Var t q h = λ d. refl
token_flat _ t q h = absurd (cc)

token_not_free : (kd : Kind) (t : Lexeme) (q : Query) → head_in kd t ≡ Some q → free_in kd (reserved t) ≡ false
token_not_free kinds.Name t q h = reserved_not_free t (reserved t) q h
token_not_free _ t q h = refl

token_not_meta : (kd : Kind) (t : Lexeme) (q : Query) → t.kind ≡ kd → head_in kd t ≡ Some q → is_reserved w.Meta t ≡ false
token_not_meta kinds.Name t q e h = reserved_not_meta t (reserved t) q h
token_not_meta kinds.Int t q e h = ap (same_keyword w.Meta) (no_word kinds.Int (λ u. refl) t e)
token_not_meta kinds.Text t q e h = ap (same_keyword w.Meta) (no_word kinds.Text (λ u. refl) t e)
token_not_meta kinds.Var t q e h = ap (same_keyword w.Meta) (no_word kinds.Var (λ u. refl) t e)
token_not_meta _ t q e h = absurd (cc)

token_not_mark : (kd : Kind) → ((t : Lexeme) → head_in kd t ≡ None) → (t : Lexeme) (q : Query) → token_head t ≡ Some q → is kd t ≡ false
token_not_mark kd no_head t q h = go (is kd t) refl
  where
    go : (b : Bool) → is kd t ≡ b → b ≡ false
    go true s = absurd (let e : None ≡ Some q = sym (no_head t) ∙ ap (λ y. head_in y t) (sym (is_kind kd t s)) ∙ h in cc)
    go false s = refl

pub starts_at : (h : Lexeme → Bool) (t : Lexeme) (u v : Lexemes) (b : Bool) → u ≡ t ∷ v → h t ≡ b → starts h u ≡ b
starts_at h t u v b e s = rw e s

module _ {fuel n : ℕ} {inner : Reader Query} (N : Lawful Query fuel n 0 0 (below 9) Nested inner) where
  abbrev Parens : ℕ → Query → Lexemes → Type 0
  Parens m = Image e.Paren (Bracketed kinds.LeftParen kinds.RightParen Query (Nested m))

  parens_lawful : Lawful Query (suc fuel) n 0 0 (below 2) Parens (r.parens inner)
  unfolding r.parens
  parens_lawful = map_lawful (below 2) e.Paren (bracketed_lawful kinds.LeftParen kinds.RightParen N refl refl refl (λ q t h. rw h refl)) (λ a t h. refl)

  -- ---- lists

  pub items_inside_lawful : Lawful (List Query) fuel n 0 0 (λ _. is_not kinds.RightBracket) (λ m. Listed Query (Nested m)) (r.items_inside inner)
  unfolding r.items_inside
  items_inside_lawful = listed_lawful 9 kinds.RightBracket N (lit≤ tt) (λ m q u s. begins_wider query_first (is_not kinds.RightBracket) not_bracket u (nested_begins m q u s)) refl refl

  abbrev Lists : ℕ → Query → Lexemes → Type 0
  Lists m = Image e.List (Bracketed kinds.LeftBracket kinds.RightBracket (List Query) (Listed Query (Nested m)))

  list_lawful : Lawful Query (suc fuel) n 0 0 (below 2) Lists (r.list_head inner)
  unfolding r.list_head
  list_lawful = map_lawful (below 2) e.List (bracketed_lawful kinds.LeftBracket kinds.RightBracket items_inside_lawful refl refl refl (λ q t h. rw h refl)) (λ a t h. refl)

  -- ---- objects

  abbrev MemberParts : ℕ → Member Query → Lexemes → Type 0
  MemberParts m = AfterMark kinds.Text (λ t. Image (member_of t) (Behind kinds.Colon Query (Nested m)))

  member_from : (m : ℕ) (x : Member Query) (u : Lexemes) → IsMember (Nested m) x u → MemberParts m x u
  member_from m _ _ (g.member {q} {u} t colon h h' s) = (t, colon ∷ u, refl, h, (q, refl, behind colon h' s))

  member_into : (m : ℕ) (t : Lexeme) (q : Query) (v : Lexemes) → t.kind ≡ kinds.Text → Behind kinds.Colon Query (Nested m) q v → IsMember (Nested m) (member_of t q) (t ∷ v)
  member_into m t _ _ h (behind {a = q} {u} colon h' s) = g.member t colon h h' s

  pub member_lawful : Lawful (Member Query) fuel n 0 0 (below 9) (λ m. IsMember (Nested m)) (r.member inner)
  unfolding r.member
  member_lawful = same_lawful
      (after_mark_lawful {S = λ m t. Image (member_of t) (Behind kinds.Colon Query (Nested m))} kinds.Text (λ d. refl)
      (λ t. map_lawful (below 9) (member_of t) (behind_lawful kinds.Colon (λ d. refl) N) (λ q t h. h)))
      (λ m. IsMember (Nested m))
      (λ m x w (t, v, e, h, (q, same, s)). rw e (rw same (member_into m t q v h s)))
      member_from

  member_begins : (m : ℕ) (x : Member Query) (u : Lexemes) → IsMember (Nested m) x u → Begins (is_not kinds.RightBrace) u
  member_begins m _ _ (g.member {q} {u} t colon h h' s) = (t, colon ∷ u, refl, rw h refl)

  pub members_inside_lawful : Lawful (List (Member Query)) fuel n 0 0 (λ _. is_not kinds.RightBrace) (λ m. Listed (Member Query) (IsMember (Nested m))) (r.members_inside inner)
  unfolding r.members_inside
  members_inside_lawful = listed_lawful 9 kinds.RightBrace member_lawful (lit≤ tt) member_begins refl refl

  abbrev Objects : ℕ → Query → Lexemes → Type 0
  Objects m = Image e.Object (Bracketed kinds.LeftBrace kinds.RightBrace (List (Member Query)) (Listed (Member Query) (IsMember (Nested m))))

  object_lawful : Lawful Query (suc fuel) n 0 0 (below 2) Objects (r.object_head inner)
  unfolding r.object_head
  object_lawful = map_lawful (below 2) e.Object (bracketed_lawful kinds.LeftBrace kinds.RightBrace members_inside_lawful refl refl refl (λ q t h. rw h refl)) (λ a t h. refl)

  -- ---- metadata

  abbrev KeyOrAll : Query → Lexemes → Type 0
  KeyOrAll = Either is_key (Image e.Meta IsKey) (Nil e.Metadata)

  abbrev Metadata : ℕ → Query → Lexemes → Type 0
  Metadata m = Behind kinds.At Query KeyOrAll

  metadata_lawful : Lawful Query (suc fuel) n 0 0 (below 2) Metadata (r.metadata inner)
  unfolding r.metadata
  metadata_lawful = behind_lawful {R = λ m. KeyOrAll} kinds.At (λ d. refl)
      (branch_lawful is_key (map_lawful (below 2) e.Meta (key_lawful (suc fuel) n 0) (λ a t h. refl)) (pure_lawful (suc fuel) n 0 (below 2) e.Metadata)
      (λ m q u (x, same, s) e. begins_some is_key u (key_begins x u s) e)
      (λ m q _ t h. ends_key 2 refl q t h)
      (e.Metadata, [], inr ((refl, refl), refl)))

  -- ---- names

  abbrev CallOrName : ℕ → Lexeme → Query → Lexemes → Type 0
  CallOrName m t = Either (is kinds.LeftParen) (Image (e.Call (word t)) (AreArgs (Nested m))) (Nil (e.Name (word t)))

  bracketed_some : (opening closing : Kind) (A : Type 0) (R : A → Lexemes → Type 0) (f : A → Query) (q : Query) (u : Lexemes) → Image f (Bracketed opening closing A R) q u → u ≡ [] → ⊥
  bracketed_some opening closing A R f q u (x, same, s) e = (let (t, v, e', h) = bracketed_begins opening closing A R x u s in let e'' : t ∷ v ≡ [] = sym e' ∙ e in cc)

  args_some : (m : ℕ) (f : List (Arg Query) → Query) (q : Query) (u : Lexemes) → Image f (AreArgs (Nested m)) q u → u ≡ [] → ⊥
  args_some m f q u s e = bracketed_some kinds.LeftParen kinds.RightParen (List (Arg Query)) (Listed (Arg Query) (IsArg (Nested m))) f q u s e

  call_lawful : (t : Lexeme) → Lawful Query (suc fuel) n 0 0 (below 2) (λ m. CallOrName m t) (r.call_or_name inner t)
  call_lawful t = branch_lawful (is kinds.LeftParen) (map_lawful (below 2) (e.Call (word t)) (args_lawful N) (λ a t h. refl)) (pure_lawful (suc fuel) n 0 (below 2) (e.Name (word t)))
      (λ m q u s. args_some m (e.Call (word t)) q u s)
      (λ m q _ t h. ends_mark 2 kinds.LeftParen refl q t h)
      (e.Name (word t), [], inr ((refl, refl), refl))

  abbrev Named : ℕ → Query → Lexemes → Type 0
  Named m = After is_free (CallOrName m)

  named_lawful : Lawful Query (suc fuel) n 0 0 (below 2) Named (r.named inner)
  unfolding r.named reserved
  named_lawful = after_lawful {S = CallOrName} is_free (λ t h d. (let e = free_kind t h in rw e refl)) (sample kinds.Name, refl) call_lawful

  abbrev MetaCall : ℕ → Query → Lexemes → Type 0
  MetaCall m = AfterWord w.Meta (λ t. Image (e.Call (word t)) (AreArgs (Nested m)))

  meta_lawful : Lawful Query (suc fuel) n 0 0 (below 2) MetaCall (r.meta_call inner)
  unfolding r.meta_call
  meta_lawful = after_word_lawful {S = λ m t. Image (e.Call (word t)) (AreArgs (Nested m))} w.Meta (λ t. map_lawful (below 2) (e.Call (word t)) (args_lawful N) (λ a t h. refl))

  token_alone_lawful : Lawful Query (suc fuel) n 0 0 (below 2) (λ _. One token_head) (r.token_alone inner)
  unfolding r.token_alone reserved
  token_alone_lawful = wider_lawful (token_lawful (suc fuel) n 0 0 token_head (λ t q h d. token_flat t.kind t q h (d + 0)) (sample_word w.Null, e.Null, refl)) (below 2) (λ a t h. refl)

  -- ---- all heads

  abbrev Tail4 : ℕ → Query → Lexemes → Type 0
  Tail4 m = Either (is_reserved w.Meta) (MetaCall m) (One token_head)

  abbrev Tail3 : ℕ → Query → Lexemes → Type 0
  Tail3 m = Either is_free (Named m) (Tail4 m)

  abbrev Tail2 : ℕ → Query → Lexemes → Type 0
  Tail2 m = Either (is kinds.At) (Metadata m) (Tail3 m)

  abbrev Tail1 : ℕ → Query → Lexemes → Type 0
  Tail1 m = Either (is kinds.LeftBrace) (Objects m) (Tail2 m)

  abbrev Tail0 : ℕ → Query → Lexemes → Type 0
  Tail0 m = Either (is kinds.LeftBracket) (Lists m) (Tail1 m)

  abbrev AnyHead : ℕ → Query → Lexemes → Type 0
  AnyHead m = Either (is kinds.LeftParen) (Parens m) (Tail0 m)

  some4 : (m : ℕ) (q : Query) (u : Lexemes) → Tail4 m q u → u ≡ [] → ⊥
  some4 m q u = either_some (is_reserved w.Meta) (MetaCall m) (One token_head) q u (λ (t, e, h) e'. (let e'' : t ∷ [] ≡ [] = sym e ∙ e' in cc))

  some3 : (m : ℕ) (q : Query) (u : Lexemes) → Tail3 m q u → u ≡ [] → ⊥
  some3 m q u = either_some is_free (Named m) (Tail4 m) q u (some4 m q u)

  some2 : (m : ℕ) (q : Query) (u : Lexemes) → Tail2 m q u → u ≡ [] → ⊥
  some2 m q u = either_some (is kinds.At) (Metadata m) (Tail3 m) q u (some3 m q u)

  some1 : (m : ℕ) (q : Query) (u : Lexemes) → Tail1 m q u → u ≡ [] → ⊥
  some1 m q u = either_some (is kinds.LeftBrace) (Objects m) (Tail2 m) q u (some2 m q u)

  some0 : (m : ℕ) (q : Query) (u : Lexemes) → Tail0 m q u → u ≡ [] → ⊥
  some0 m q u = either_some (is kinds.LeftBracket) (Lists m) (Tail1 m) q u (some1 m q u)

  null4 : (m : ℕ) → Tail4 m e.Null (sample_word w.Null ∷ [])
  unfolding reserved
  null4 m = inr ((sample_word w.Null, refl, refl), refl)

  null3 : (m : ℕ) → Tail3 m e.Null (sample_word w.Null ∷ [])
  unfolding reserved
  null3 m = inr (null4 m, refl)

  tail4_lawful : Lawful Query (suc fuel) n 0 0 (below 2) Tail4 (branch (is_reserved w.Meta) (r.meta_call inner) (r.token_alone inner))
  tail4_lawful = branch_lawful (is_reserved w.Meta) meta_lawful token_alone_lawful
      (λ m q u (t, v, e, h, s) e'. (let e'' : t ∷ v ≡ [] = sym e ∙ e' in cc))
      (λ m q (t, e, h) t' h'. absurd (let e'' : t ∷ [] ≡ [] = sym e in cc))
      (e.Null, sample_word w.Null ∷ [], null4 n)

  tail3_lawful : Lawful Query (suc fuel) n 0 0 (below 2) Tail3 (branch is_free (r.named inner) (branch (is_reserved w.Meta) (r.meta_call inner) (r.token_alone inner)))
  tail3_lawful = branch_lawful is_free named_lawful tail4_lawful
      (λ m q u (t, v, e, h, s) e'. (let e'' : t ∷ v ≡ [] = sym e ∙ e' in cc))
      (λ m q s t h. absurd (some4 m q [] s refl))
      (e.Null, sample_word w.Null ∷ [], null3 n)

  tail2_lawful : Lawful Query (suc fuel) n 0 0 (below 2) Tail2 (branch (is kinds.At) (r.metadata inner) (branch is_free (r.named inner) (branch (is_reserved w.Meta) (r.meta_call inner) (r.token_alone inner))))
  tail2_lawful = branch_lawful (is kinds.At) metadata_lawful tail3_lawful
      (λ m q u s e. begins_some (is kinds.At) u (behind_begins kinds.At Query KeyOrAll q u s) e)
      (λ m q s t h. absurd (some3 m q [] s refl))
      (e.Null, sample_word w.Null ∷ [], inr (null3 n, refl))

  tail1_lawful : Lawful Query (suc fuel) n 0 0 (below 2) Tail1
      (branch (is kinds.LeftBrace) (r.object_head inner) (branch (is kinds.At) (r.metadata inner) (branch is_free (r.named inner) (branch (is_reserved w.Meta) (r.meta_call inner) (r.token_alone inner)))))
  tail1_lawful = branch_lawful (is kinds.LeftBrace) object_lawful tail2_lawful
      (λ m q u s. bracketed_some kinds.LeftBrace kinds.RightBrace (List (Member Query)) (Listed (Member Query) (IsMember (Nested m))) e.Object q u s)
      (λ m q s t h. absurd (some2 m q [] s refl))
      (e.Null, sample_word w.Null ∷ [], inr (inr (null3 n, refl), refl))

  tail0_lawful : Lawful Query (suc fuel) n 0 0 (below 2) Tail0 (branch (is kinds.LeftBracket) (r.list_head inner)
      (branch (is kinds.LeftBrace) (r.object_head inner) (branch (is kinds.At) (r.metadata inner) (branch is_free (r.named inner) (branch (is_reserved w.Meta) (r.meta_call inner) (r.token_alone inner))))))
  tail0_lawful = branch_lawful (is kinds.LeftBracket) list_lawful tail1_lawful
      (λ m q u s. bracketed_some kinds.LeftBracket kinds.RightBracket (List Query) (Listed Query (Nested m)) e.List q u s)
      (λ m q s t h. absurd (some1 m q [] s refl))
      (e.Null, sample_word w.Null ∷ [], inr (inr (inr (null3 n, refl), refl), refl))

  any_head_lawful : Lawful Query (suc fuel) n 0 0 (below 2) AnyHead (r.head inner)
  unfolding r.head
  any_head_lawful = branch_lawful (is kinds.LeftParen) parens_lawful tail0_lawful
      (λ m q u s. bracketed_some kinds.LeftParen kinds.RightParen Query (Nested m) e.Paren q u s)
      (λ m q s t h. absurd (some0 m q [] s refl))
      (e.Null, sample_word w.Null ∷ [], inr (inr (inr (inr (null3 n, refl), refl), refl), refl))

  head_into : (m : ℕ) (q : Query) (u : Lexemes) → AnyHead m q u → IsHead (Nested m) q u
  head_into m q u (inl ((x, same, s), _)) = rw same (g.IsHead.parens s)
  head_into m q u (inr (inl ((x, same, s), _), _)) = rw same (g.IsHead.«list» s)
  head_into m q u (inr (inr (inl ((x, same, s), _), _), _)) = rw same (g.IsHead.object s)
  head_into m q u (inr (inr (inr (inl (s, _), _), _), _)) = metadata_into q u s
    where
      key_into : (t : Lexeme) (q : Query) (v : Lexemes) → t.kind ≡ kinds.At → KeyOrAll q v → IsHead (Nested m) q (t ∷ v)
      key_into t q v h (inl ((x, same, (t', e, h')), _)) = rw same (rw e (g.IsHead.meta_key t t' h h'))
      key_into t q v h (inr ((same, e), _)) = rw same (rw e (g.IsHead.metadata t h))

      metadata_into : (q : Query) (u : Lexemes) → Metadata m q u → IsHead (Nested m) q u
      metadata_into _ _ (behind {a} {u} t h s) = key_into t a u h s
  head_into m q u (inr (inr (inr (inr (inl ((t, v, e, h, inl ((xs, same, s), _)), _), _), _), _), _)) = rw e (rw same (g.IsHead.call t h s))
  head_into m q u (inr (inr (inr (inr (inl ((t, v, e, h, inr ((same, e'), _)), _), _), _), _), _)) = rw e (rw e' (rw same (g.IsHead.name t h)))
  head_into m q u (inr (inr (inr (inr (inr (inl ((t, v, e, h, (xs, same, s)), _), _), _), _), _), _)) = rw e (rw same (g.IsHead.meta_call t h s))
  head_into m q u (inr (inr (inr (inr (inr (inr ((t, e, h), _), _), _), _), _), _)) = rw e (g.IsHead.token t h)

  -- a token that is a mark isn't another mark, and no name
  not_free : (kd : Kind) → ((o : Option Keyword) → free_in kd o ≡ false) → (t : Lexeme) → t.kind ≡ kd → is_free t ≡ false
  not_free kd f t h = ap (λ y. free_in y (reserved t)) h ∙ f (reserved t)

  name_not : (kd : Kind) → is kd (sample kinds.Name) ≡ false → (t : Lexeme) → t.kind ≡ kinds.Name → is kd t ≡ false
  name_not kd f t h = rw h f

  at_metadata : (m : ℕ) (q : Query) (t : Lexeme) (v : Lexemes) → t.kind ≡ kinds.At → KeyOrAll q v → AnyHead m q (t ∷ v)
  at_metadata m q t v h s = inr (inr (inr (inl (behind t h s, kind_is kinds.At t h), rw h refl), rw h refl), rw h refl)

  at_name : (m : ℕ) (q : Query) (t : Lexeme) (v : Lexemes) → t.kind ≡ kinds.Name → Tail3 m q (t ∷ v) → AnyHead m q (t ∷ v)
  at_name m q t v h s = inr (inr (inr (inr (s, name_not kinds.At refl t h), name_not kinds.LeftBrace refl t h), name_not kinds.LeftBracket refl t h), name_not kinds.LeftParen refl t h)

  call_from : (m : ℕ) (xs : List (Arg Query)) (t : Lexeme) (u : Lexemes) → AreArgs (Nested m) xs u → CallOrName m t (e.Call (word t) xs) u
  call_from m xs t u s = (let (t', v, e, h) = bracketed_begins kinds.LeftParen kinds.RightParen _ _ xs u s in inl ((xs, refl, s), starts_at (is kinds.LeftParen) t' u v true e (kind_is kinds.LeftParen t' h)))

  head_from : (m : ℕ) (q : Query) (u : Lexemes) → IsHead (Nested m) q u → AnyHead m q u
  head_from m _ _ (g.IsHead.token {q} t h) =
      inr (
        inr (
          inr (inr (inr (inr ((t, refl, h), token_not_meta t.kind t q refl h), token_not_free t.kind t q h), token_not_mark kinds.At (λ t. refl) t q h), token_not_mark kinds.LeftBrace (λ t. refl) t q h),
          token_not_mark kinds.LeftBracket (λ t. refl) t q h,
        ),
        token_not_mark kinds.LeftParen (λ t. refl) t q h,
      )
  head_from m _ _ (g.IsHead.name t h) = at_name m (e.Name (word t)) t [] (free_kind t h) (inl ((t, [], refl, h, inr ((refl, refl), refl)), h))
  head_from m _ _ (g.IsHead.metadata t h) = at_metadata m e.Metadata t [] h (inr ((refl, refl), refl))
  head_from m _ _ (g.IsHead.meta_key {x} t t' h h') = at_metadata m (e.Meta x) t (t' ∷ []) h (inl ((x, refl, (t', refl, h')), ap is_some h'))
  head_from m _ _ (g.IsHead.call {xs} {u} t h s) = at_name m (e.Call (word t) xs) t u (free_kind t h) (inl ((t, u, refl, h, call_from m xs t u s), h))
  head_from m _ _ (g.IsHead.meta_call {xs} {u} t h s) =
      at_name m (e.Call (word t) xs) t u (word_kind w.Meta t h) (inr (inl ((t, u, refl, h, (xs, refl, s)), word_is w.Meta t h), word_not_free w.Meta t h))
  head_from m _ _ (g.IsHead.parens {q} {u} s) =
      (let (t, v, e, h) = bracketed_begins kinds.LeftParen kinds.RightParen _ _ q u s in inl ((q, refl, s), starts_at (is kinds.LeftParen) t u v true e (kind_is kinds.LeftParen t h)))
  head_from m _ _ (g.IsHead.«list» {qs} {u} s) =
      (let (t, v, e, h) = bracketed_begins kinds.LeftBracket kinds.RightBracket _ _ qs u s in
      inr (inl ((qs, refl, s), starts_at (is kinds.LeftBracket) t u v true e (kind_is kinds.LeftBracket t h)), starts_at (is kinds.LeftParen) t u v false e (rw h refl)))
  head_from m _ _ (g.IsHead.object {xs} {u} s) =
      (let (t, v, e, h) = bracketed_begins kinds.LeftBrace kinds.RightBrace _ _ xs u s in
      inr (inr (inl ((xs, refl, s), starts_at (is kinds.LeftBrace) t u v true e (kind_is kinds.LeftBrace t h)), starts_at (is kinds.LeftBracket) t u v false e (rw h refl)), starts_at (is kinds.LeftParen) t u v false e (rw h refl)))

  pub head_lawful : Lawful Query (suc fuel) n 0 0 (below 2) (λ m. IsHead (Nested m)) (r.head inner)
  head_lawful = same_lawful any_head_lawful (λ m. IsHead (Nested m)) head_into head_from
