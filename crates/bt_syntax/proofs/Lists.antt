-- Lists with commas or other separators, and options, are read rightly where their parts are.
use Rattle.std.proofs.Common.{◌≡◌, ℕ, ◌+◌, ◌≤◌, Bool, true, false, ◌||◌, List, [], ◌∷◌, ◌++◌, Option, Some, None, inl, inr, refl, sym, ap, ◌∙◌, subst, append_assoc, append-nil, nat_lt}
use Rattle.std.proofs.lemmas.Bool.{not-false}
use Rattle.bt_lexer.specs.declared.token.Kind.{Kind}
use Rattle.bt_lexer.specs.declared.token.Kind.TheVariants as kinds
use Rattle.bt_syntax.specs.Lexemes.{Lexeme, Lexemes}
use Rattle.bt_syntax.specs.Rules.{Repeated, none, more, Listed, empty, last, Separated, single, Optional, absent, present}
use Rattle.bt_syntax.specs.Rules as rules
use Rattle.bt_syntax.specs.Reading.{Reader, seq, mapped, pure, branch}
use Rattle.bt_syntax.specs.Readers as r
use Rattle.bt_syntax.specs.Readers.{is, is_not, passing, expect, followed, firsts, comma_after, with_first}
use Rattle.bt_syntax.proofs.Lawful.{Stops, stops_wider, Lawful, Seq, Nil, Image, seq_lawful, map_lawful, same_lawful, wider_lawful, pure_lawful}
use Rattle.bt_syntax.proofs.Branches.{Either, branch_lawful}
use Rattle.bt_syntax.proofs.Many.{Begins, Turns, IfGoes, turns_lawful}
use Rattle.bt_syntax.proofs.TokenLemmas.{is_kind, kind_is, sample, rank, below, Flat, ender}
use Rattle.bt_syntax.proofs.Forms.{After, after_lawful, Mark, mark_lawful, Chain, chain_lawful, repeated_lawful}

pub or_false : (a b : Bool) → (a || b) ≡ false → (a ≡ false) × (b ≡ false)
or_false true b h = absurd (cc)
or_false false b h = (refl, h)

-- ---- an element, and whether a comma follows it

elem_cont : ℕ → Bool → Lexeme → Bool
elem_cont top true t = false
elem_cont top false t = nat_lt (rank t.kind) top || is kinds.Comma t

-- what goes on behind an element: nothing behind its comma
c_elem : {A : Type 0} → ℕ → A × Bool → Lexeme → Bool
unfolding elem_cont
c_elem top x t = elem_cont top (followed x) t

WithComma : {A : Type 0} → A → A × Bool → Lexemes → Type 0
WithComma x = Mark kinds.Comma (x, true)

abbrev MaybeComma : {A : Type 0} → A → A × Bool → Lexemes → Type 0
MaybeComma x = Either (is kinds.Comma) (WithComma x) (Nil (x, false))

module _ {A : Type 0} {k n : ℕ} (top : ℕ) {R : ℕ → A → Lexemes → Type 0} {p : Reader A} (closing : Kind) (P : Lawful A k n 0 0 (below top) R p) (small : top ≤ 10)
    (first : (m : ℕ) (a : A) (u : Lexemes) → R m a u → Begins (is_not closing) u) (is_end : rank closing ≡ 10) (no_comma : is kinds.Comma (sample closing) ≡ false) where
  comma_lawful : (x : A) → Lawful (A × Bool) k n 0 0 (c_elem top) (λ _. MaybeComma x) (comma_after x)
  unfolding WithComma c_elem elem_cont
  comma_lawful x = branch_lawful (is kinds.Comma)
      (wider_lawful (mark_lawful k n 0 0 kinds.Comma (λ d. refl) (x, true)) (c_elem top) (λ a t h. refl))
      (pure_lawful k n 0 (c_elem top) (x, false))
      (λ m a u (t, e, h, same) e'. (let e'' : t ∷ [] ≡ [] = sym e ∙ e' in cc))
      (λ m a (same, _) t h. (let h' = subst (λ y. c_elem top y t ≡ false) same h in (or_false (nat_lt (rank t.kind) top) (is kinds.Comma t) h').1))
      ((x, true), sample kinds.Comma ∷ [], inl ((sample kinds.Comma, refl, refl, refl), kind_is kinds.Comma (sample kinds.Comma) refl))

  IsElement : ℕ → A × Bool → Lexemes → Type 0
  IsElement m = Seq (R m) MaybeComma

  element_lawful : Lawful (A × Bool) k n 0 0 (c_elem top) IsElement (r.element p)
  unfolding IsElement WithComma c_elem elem_cont
  element_lawful = seq_lawful {S = λ m. MaybeComma} P comma_lawful follows
    where
      follows : (m : ℕ) (a : A) (b : A × Bool) (v rest : Lexemes) → MaybeComma a b v → Stops (c_elem top b) rest → Stops (below top a) (v ++ rest)
      follows m a b v rest (inl ((t, e, h, same), _)) s = rw e (ender top small kinds.Comma refl a t h)
      follows m a b v rest (inr ((e, e'), _)) s =
          rw e' (stops_wider (below top a) (elem_cont top false) (λ t h. (or_false (nat_lt (rank t.kind) top) (is kinds.Comma t) h).0) rest (subst (λ y. Stops (c_elem top y) rest) e s))

  element_begins : (m : ℕ) (x : A × Bool) (u : Lexemes) → IsElement m x u → Begins (is_not closing) u
  unfolding IsElement
  element_begins m x w (a, u, v, e, s, _) = (let (t, u', e', h) = first m a u s in (t, u' ++ v, e ∙ ap (λ y. y ++ v) e', h))

  elements_lawful : Lawful (List (A × Bool)) k n 0 0 (λ _. is_not closing) (λ m. Turns followed (IsElement m)) (r.elements closing p)
  unfolding c_elem elem_cont
  elements_lawful = turns_lawful (is_not closing) (is_not closing) followed element_lawful element_begins
      (λ a t g h. rw g refl)
      (λ a t h. ends (followed a) t (is_kind closing t (not-false (is closing t) h)))
      (λ t h. h)
    where
      ends : (b : Bool) (t : Lexeme) → t.kind ≡ closing → elem_cont top b t ≡ false
      ends true t h = refl
      ends false t h = rw (ender top small closing is_end t t h) (rw h no_comma)

  listed_into : (m : ℕ) (xs : List (A × Bool)) (w : Lexemes) → Turns followed (IsElement m) xs w → Listed A (R m) (firsts xs) w
  unfolding IsElement WithComma
  listed_into m [] w e = rw e empty
  listed_into m (x ∷ xs) w (u, v, e, (a, u1, u2, e', s, inl ((t, e2, h, same), _)), tl) =
      let tl' = subst (λ y. IfGoes (followed y) xs v (Turns followed (IsElement m) xs v)) same tl in
      rw e (rw e' (rw e2 (rw same (rw append_assoc (rules.then t s h (listed_into m xs v tl'))))))
  listed_into m (x ∷ xs) w (u, v, e, (a, u1, u2, e', s, inr ((same, e2), _)), tl) =
      let (e3, e4) = subst (λ y. IfGoes (followed y) xs v (Turns followed (IsElement m) xs v)) same tl in
      rw e (rw e' (rw e2 (rw e4 (rw e3 (rw same (simp append-nil (last s)))))))

  listed_from : (m : ℕ) (qs : List A) (w : Lexemes) → Listed A (R m) qs w → (xs : List (A × Bool)) × (qs ≡ firsts xs) × Turns followed (IsElement m) xs w
  unfolding IsElement WithComma
  listed_from m _ _ empty = ([], refl, refl)
  listed_from m _ _ (last {a} {u} s) = ((a, false) ∷ [], refl, (u, [], simp append-nil, (a, u, [], simp append-nil, s, inr ((refl, refl), refl)), (refl, refl)))
  listed_from m _ _ (rules.Listed.then {a} {rest} {u} {v} t s h l) =
      let (xs, e, r) = listed_from m rest v l in
      ((a, true) ∷ xs, ap (λ y. a ∷ y) e, (u ++ t ∷ [], v, sym (append_assoc u (t ∷ []) v), (a, u, t ∷ [], refl, s, inl ((t, refl, h, refl), kind_is kinds.Comma t h)), r))

  pub listed_lawful : Lawful (List A) k n 0 0 (λ _. is_not closing) (λ m. Listed A (R m)) (r.listed closing p)
  listed_lawful = same_lawful (map_lawful (λ _. is_not closing) firsts elements_lawful (λ a t h. h)) (λ m. Listed A (R m))
      (λ m b w (xs, same, t). rw same (listed_into m xs w t))
      (λ m b w l. listed_from m b w l)

-- ---- one or more, with a separator between them

-- turns, each of a separator and a part
abbrev pub TurnOf : {A : Type 0} → (Kind → Bool) → (A → Lexemes → Type 0) → A → Lexemes → Type 0
TurnOf separates R = After (λ t. separates t.kind) (λ t. R)

module _ (separates : Kind → Bool) (A : Type 0) (R : A → Lexemes → Type 0) where
  pub separated_into : (a : A) (u : Lexemes) (xs : List A) (v : Lexemes) → R a u → Repeated A (TurnOf separates R) xs v → Separated separates A R (a ∷ xs) (u ++ v)
  separated_into a u _ _ s none = rw append-nil (single s)
  separated_into a u _ _ s (more {a = b} {rest} {u = u'} {v} (t, v', e, h, s') tl) = rw e (rules.Separated.then t s h (separated_into b v' rest v s' tl))

  pub separated_from : (xs : List A) (w : Lexemes) → Separated separates A R xs w → Chain R (TurnOf separates R) with_first xs w
  separated_from _ _ (single {a} {u} s) = (a, u, [], [], simp append-nil, s, none, refl)
  separated_from _ _ (rules.Separated.then {a} {rest} {u} {v} t s h tl) =
      let (b, u', xs, v', e, s', r, same) = separated_from rest v tl in
      (a, u, rest, t ∷ v, refl, s, subst (λ y. Repeated A (TurnOf separates R) y (t ∷ v)) (sym same) (subst (λ y. Repeated A (TurnOf separates R) (b ∷ xs) (t ∷ y)) (sym e) (more (t, u', refl, h, s') r)), refl)

module _ {A : Type 0} {k n : ℕ} {c : A → Lexeme → Bool} {R : ℕ → A → Lexemes → Type 0} {p : Reader A} (separates : Kind → Bool) (d : Lexeme → Bool) (P : Lawful A k n 0 0 c R p)
    (flat : (kd : Kind) → separates kd ≡ true → Flat kd) (kd : Kind) (some : separates kd ≡ true)
    (over : (a : A) (t : Lexeme) → separates t.kind ≡ true → c a t ≡ false)
    (wide : (a : A) (t : Lexeme) → d t ≡ false → c a t ≡ false) (ends : (t : Lexeme) → d t ≡ false → separates t.kind ≡ false) where
  abbrev Turn : ℕ → A → Lexemes → Type 0
  Turn m = TurnOf separates (R m)

  turn_lawful : Lawful A k n 0 0 c Turn (seq (passing (λ t. separates t.kind)) (λ _. p))
  turn_lawful = after_lawful {S = λ m t. R m} (λ t. separates t.kind) (λ t h y. flat t.kind h (y + 0)) (sample kd, some) (λ t. P)

  turn_begins : (m : ℕ) (a : A) (u : Lexemes) → Turn m a u → Begins (λ t. separates t.kind) u
  turn_begins m a u (t, v, e, h, s) = (t, v, e, h)

  pub more_lawful : Lawful (List A) k n 0 0 (λ _. d) (λ m. Repeated A (Turn m)) (r.separated_more (λ t. separates t.kind) p)
  more_lawful = repeated_lawful d (λ t. separates t.kind) turn_lawful turn_begins over wide ends

  pub separated_lawful : Lawful (List A) k n 0 0 (λ _. d) (λ m. Separated separates A (R m)) (r.separated (λ t. separates t.kind) p)
  separated_lawful = same_lawful (chain_lawful d (λ t. separates t.kind) with_first P turn_lawful turn_begins over wide ends over wide)
      (λ m. Separated separates A (R m))
      (λ m xs w (a, u, ys, v, e, s, r, same). rw e (rw same (separated_into separates A (R m) a u ys v s r)))
      (λ m. separated_from separates A (R m))

-- ---- an option

module _ {A : Type 0} {k n i : ℕ} {c : A → Lexeme → Bool} {R : ℕ → A → Lexemes → Type 0} {p : Reader A} (d h : Lexeme → Bool) (P : Lawful A k n i i c R p)
    (first : (m : ℕ) (a : A) (u : Lexemes) → R m a u → Begins h u) (wide : (a : A) (t : Lexeme) → d t ≡ false → c a t ≡ false) (ends : (t : Lexeme) → d t ≡ false → h t ≡ false) where
  pub optional_lawful : Lawful (Option A) k n i i (λ _. d) (λ m. Optional A (R m)) (branch h (mapped Some p) (pure None))
  optional_lawful = same_lawful
      (branch_lawful h (map_lawful (λ _. d) Some P wide) (pure_lawful k n i (λ _. d) None)
      (λ m a u (x, same, s) e. (let (t, v, e', b) = first m x u s in let e'' : t ∷ v ≡ [] = sym e' ∙ e in cc))
      (λ m a _ t e. ends t e)
      (None, [], inr ((refl, refl), refl)))
      (λ m. Optional A (R m)) into from
    where
      into : (m : ℕ) (o : Option A) (u : Lexemes) → Either h (Image Some (R m)) (Nil None) o u → Optional A (R m) o u
      into m o u (inl ((x, same, s), _)) = rw same (present s)
      into m o u (inr ((same, e), _)) = rw same (rw e absent)

      from : (m : ℕ) (o : Option A) (u : Lexemes) → Optional A (R m) o u → Either h (Image Some (R m)) (Nil None) o u
      from m _ _ absent = inr ((refl, refl), refl)
      from m _ _ (present {a} {u} s) = (let (t, v, e, b) = first m a u s in inl ((a, refl, s), rw e b))
