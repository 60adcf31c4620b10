-- The forms that the grammar's rules are made of are read rightly where their parts are.
use Rattle.std.proofs.Common.{◌≡◌, ℕ, suc, ◌+◌, Bool, true, false, List, [], ◌∷◌, ◌++◌, Option, Some, refl, sym, ap, ◌∙◌, subst, add-one, add-zero, arith}
use Rattle.bt_lexer.specs.declared.token.Kind.{Kind}
use Rattle.bt_syntax.specs.declared.keywords.Keyword.{Keyword}
use Rattle.bt_syntax.specs.Lexemes.{Lexeme, Lexemes}
use Rattle.bt_syntax.specs.Grammar.{IsReserved}
use Rattle.bt_syntax.specs.Brackets.{step, opens, closes}
use Rattle.bt_syntax.specs.Rules.{Repeated, none, more, Behind, behind, Bracketed, bracketed}
use Rattle.bt_syntax.specs.Reading.{Reader, seq, mapped, token, many, always}
use Rattle.bt_syntax.specs.Readers as r
use Rattle.bt_syntax.specs.Readers.{is, is_not, only, passing, expect, followed, firsts, comma_after, element, elements, with_first, expect_reserved, is_reserved}
use Rattle.bt_syntax.proofs.Lawful.{Stops, stops_wider, stops_nothing, Lawful, Seq, Image, nothing, seq_lawful, map_lawful, same_lawful, shift_lawful, token_lawful}
use Rattle.bt_syntax.proofs.Many.{Begins, Turns, turns_lawful}
use Rattle.bt_syntax.proofs.TokenLemmas.{is_kind, kind_is, only_is, Flat, sample, is_word, word_is, word_kind, sample_word, sample_reserved}

-- ---- a token, and what stands behind it

abbrev pub AfterAs : {A B : Type 0} → (Lexeme → Option A) → (A → B → Lexemes → Type 0) → B → Lexemes → Type 0
AfterAs {A} f S b w = (t : Lexeme) × (a : A) × (v : Lexemes) × (w ≡ t ∷ v) × (f t ≡ Some a) × S a b v

abbrev pub After : {B : Type 0} → (Lexeme → Bool) → (Lexeme → B → Lexemes → Type 0) → B → Lexemes → Type 0
After h S b w = (t : Lexeme) × (v : Lexemes) × (w ≡ t ∷ v) × (h t ≡ true) × S t b v

module _ {A B : Type 0} {k n i j l : ℕ} {d : B → Lexeme → Bool} {S : ℕ → A → B → Lexemes → Type 0} {q : A → Reader B}
    (f : Lexeme → Option A) (level : (t : Lexeme) (a : A) → f t ≡ Some a → (d : ℕ) → step (d + i) t.kind ≡ d + j) (some : (t : Lexeme) × (a : A) × (f t ≡ Some a))
    (Q : (a : A) → Lawful B k n j l d (λ m. S m a) (q a)) where
  pub after_as_lawful : Lawful B k n i l d (λ m. AfterAs f (S m)) (seq (token f) q)
  after_as_lawful = same_lawful (seq_lawful (token_lawful k n i j f level some) Q (λ m a b v rest s stops. stops_nothing (v ++ rest))) (λ m. AfterAs f (S m))
      (λ m b w (a, u, v, e, (t, e', h), s). (t, a, v, e ∙ ap (λ y. y ++ v) e', h, s))
      (λ m b w (t, a, v, e, h, s). (a, t ∷ [], v, e, (t, refl, h), s))

module _ {B : Type 0} {k n i j l : ℕ} {d : B → Lexeme → Bool} {S : ℕ → Lexeme → B → Lexemes → Type 0} {q : Lexeme → Reader B}
    (h : Lexeme → Bool) (level : (t : Lexeme) → h t ≡ true → (d : ℕ) → step (d + i) t.kind ≡ d + j) (some : (t : Lexeme) × (h t ≡ true))
    (Q : (t : Lexeme) → Lawful B k n j l d (λ m. S m t) (q t)) where
  pub after_lawful : Lawful B k n i l d (λ m. After h (S m)) (seq (passing h) q)
  after_lawful = same_lawful
      (after_as_lawful (λ t. only (h t) t) (λ t a e. level t ((only_is (h t) t a e).0)) (let (t, e) = some in (t, t, rw e refl)) Q) (λ m. After h (S m))
      (λ m b w (t, a, v, e, o, s). (let (e', same) = only_is (h t) t a o in (t, v, e, e', subst (λ y. S m y b v) (sym same) s)))
      (λ m b w (t, v, e, e', s). (t, t, v, e, rw e' refl, s))

abbrev pub AfterMark : {B : Type 0} → Kind → (Lexeme → B → Lexemes → Type 0) → B → Lexemes → Type 0
AfterMark kd S b w = (t : Lexeme) × (v : Lexemes) × (w ≡ t ∷ v) × (t.kind ≡ kd) × S t b v

module _ {B : Type 0} {k n i j l : ℕ} {d : B → Lexeme → Bool} {S : ℕ → Lexeme → B → Lexemes → Type 0} {q : Lexeme → Reader B}
    (kd : Kind) (level : (d : ℕ) → step (d + i) kd ≡ d + j) (Q : (t : Lexeme) → Lawful B k n j l d (λ m. S m t) (q t)) where
  pub after_mark_lawful : Lawful B k n i l d (λ m. AfterMark kd (S m)) (seq (expect kd) q)
  unfolding expect
  after_mark_lawful = same_lawful
      (after_lawful (is kd) (λ t h d. (let e = is_kind kd t h in rw e (level d))) (sample kd, kind_is kd (sample kd) refl) Q) (λ m. AfterMark kd (S m))
      (λ m b w (t, v, e, h, s). (t, v, e, is_kind kd t h, s))
      (λ m b w (t, v, e, h, s). (t, v, e, kind_is kd t h, s))

abbrev pub AfterWord : {B : Type 0} → Keyword → (Lexeme → B → Lexemes → Type 0) → B → Lexemes → Type 0
AfterWord x S b w = (t : Lexeme) × (v : Lexemes) × (w ≡ t ∷ v) × IsReserved x t × S t b v

module _ {B : Type 0} {k n i l : ℕ} {d : B → Lexeme → Bool} {S : ℕ → Lexeme → B → Lexemes → Type 0} {q : Lexeme → Reader B} (x : Keyword) (Q : (t : Lexeme) → Lawful B k n i l d (λ m. S m t) (q t)) where
  pub after_word_lawful : Lawful B k n i l d (λ m. AfterWord x (S m)) (seq (expect_reserved x) q)
  unfolding expect_reserved
  after_word_lawful = same_lawful
      (after_lawful (is_reserved x) (λ t h d. (let e = word_kind x t (is_word x t h) in rw e refl)) (sample_word x, word_is x (sample_word x) (sample_reserved x)) Q) (λ m. AfterWord x (S m))
      (λ m b w (t, v, e, h, s). (t, v, e, is_word x t h, s))
      (λ m b w (t, v, e, h, s). (t, v, e, word_is x t h, s))

flat_at : (kd : Kind) (i : ℕ) → Flat kd → (d : ℕ) → step (d + i) kd ≡ d + i
flat_at kd i flat d = flat (d + i)

module _ {A : Type 0} {k n i j : ℕ} {c : A → Lexeme → Bool} {R : ℕ → A → Lexemes → Type 0} {p : Reader A} (kd : Kind) (flat : Flat kd) (P : Lawful A k n i j c R p) where
  pub behind_lawful : Lawful A k n i j c (λ m. Behind kd A (R m)) (r.behind kd p)
  behind_lawful = same_lawful (after_mark_lawful {S = λ m t. R m} kd (flat_at kd i flat) (λ t. P)) (λ m. Behind kd A (R m))
      (λ m b w (t, v, e, h, s). rw e (behind t h s))
      from
    where
      from : (m : ℕ) (b : A) (w : Lexemes) → Behind kd A (R m) b w → AfterMark kd (λ t. R m) b w
      from m _ _ (behind {a} {u} t h s) = (t, u, refl, h, s)

pub behind_begins : (kd : Kind) (A : Type 0) (R : A → Lexemes → Type 0) (a : A) (u : Lexemes) → Behind kd A R a u → Begins (is kd) u
behind_begins kd A R _ _ (behind {a} {u} t h s) = (t, u, refl, kind_is kd t h)

-- ---- one mark

abbrev pub Mark : {A : Type 0} → Kind → A → A → Lexemes → Type 0
Mark kd r a u = (t : Lexeme) × (u ≡ t ∷ []) × (t.kind ≡ kd) × (a ≡ r)

module _ {A : Type 0} (k n i j : ℕ) (kd : Kind) (level : (d : ℕ) → step (d + i) kd ≡ d + j) (a : A) where
  pub mark_lawful : Lawful A k n i j nothing (λ _. Mark kd a) (mapped (λ _. a) (expect kd))
  unfolding expect
  mark_lawful = same_lawful
      (map_lawful nothing (λ _. a)
      (token_lawful k n i j (λ t. only (is kd t) t) (λ t b o d. (let e = is_kind kd t ((only_is (is kd t) t b o).0) in rw e (level d)))
      (let e = kind_is kd (sample kd) refl in (sample kd, sample kd, rw e refl)))
      (λ b t h. refl)) (λ _. Mark kd a)
      (λ m b w (t', same, (t, e, o)). (t, e, is_kind kd t ((only_is (is kd t) t t' o).0), same))
      (λ m b w (t, e, h, same). (let e' = kind_is kd t h in (t, same, (t, e, rw e' refl))))

-- ---- brackets

open_level : (kd : Kind) → opens kd ≡ true → (d : ℕ) → step (d + 0) kd ≡ d + 1
open_level kd h d = rw h (omega arith)

close_level : (kd : Kind) → opens kd ≡ false → closes kd ≡ true → (d : ℕ) → step (d + 1) kd ≡ d + 0
close_level kd h h' d = rw h (rw h' (rw add-one (sym (add-zero d))))

stops_mark : {A : Type 0} (c : A → Lexeme → Bool) (kd : Kind) (ends : (a : A) (t : Lexeme) → t.kind ≡ kd → c a t ≡ false) (a : A) (t : Lexeme) (u rest : Lexemes) → u ≡ t ∷ [] → t.kind ≡ kd → Stops (c a) (u ++ rest)
stops_mark c kd ends a t u rest e h = rw e (ends a t h)

module _ {A : Type 0} {k n : ℕ} {c : A → Lexeme → Bool} {R : ℕ → A → Lexemes → Type 0} {p : Reader A} (opening closing : Kind) (P : Lawful A k n 0 0 c R p)
    (is_opening : opens opening ≡ true) (not_opening : opens closing ≡ false) (is_closing : closes closing ≡ true) (ends : (a : A) (t : Lexeme) → t.kind ≡ closing → c a t ≡ false) where
  Inside : ℕ → A → Lexemes → Type 0
  Inside m = AfterMark opening (λ t. Seq (R m) (Mark closing))

  inside_lawful : Lawful A (suc k) n 0 0 nothing Inside (r.bracketed opening closing p)
  unfolding Inside
  inside_lawful = after_mark_lawful {S = λ m t. Seq (R m) (Mark closing)} opening (open_level opening is_opening)
      (λ t. seq_lawful {S = λ m. Mark closing} (shift_lawful P) (λ a. mark_lawful (suc k) n 1 0 closing (close_level closing not_opening is_closing) a)
      (λ m a b v rest (t', e, h, same) stops. stops_mark c closing ends a t' v rest e h))

  pub bracketed_lawful : Lawful A (suc k) n 0 0 nothing (λ m. Bracketed opening closing A (R m)) (r.bracketed opening closing p)
  unfolding Inside
  bracketed_lawful = same_lawful inside_lawful (λ m. Bracketed opening closing A (R m))
      (λ m b w (t, v, e, h, (a, u1, u2, e1, s, (t', e2, h', same))). rw e (rw e1 (rw e2 (rw same (bracketed t t' h s h')))))
      from
    where
      from : (m : ℕ) (b : A) (w : Lexemes) → Bracketed opening closing A (R m) b w → Inside m b w
      from m _ _ (bracketed {a} {u} t t' h s h') = (t, u ++ t' ∷ [], refl, h, (a, u, t' ∷ [], refl, s, (t', refl, h', refl)))

-- ---- repetition

repeated_into : (A : Type 0) (R : A → Lexemes → Type 0) (xs : List A) (w : Lexemes) → Turns always R xs w → Repeated A R xs w
repeated_into A R [] w e = rw e none
repeated_into A R (a ∷ xs) w (u, v, e, s, m) = rw e (more s (repeated_into A R xs v m))

repeated_from : (A : Type 0) (R : A → Lexemes → Type 0) (xs : List A) (w : Lexemes) → Repeated A R xs w → Turns always R xs w
repeated_from A R _ _ none = refl
repeated_from A R _ _ (more {a} {rest} {u} {v} s m) = (u, v, refl, s, repeated_from A R rest v m)

module _ {A : Type 0} {k n i : ℕ} {c : A → Lexeme → Bool} {R : ℕ → A → Lexemes → Type 0} {p : Reader A} (d h : Lexeme → Bool) (P : Lawful A k n i i c R p)
    (first : (m : ℕ) (a : A) (u : Lexemes) → R m a u → Begins h u)
    (over : (a : A) (t : Lexeme) → h t ≡ true → c a t ≡ false)
    (wide : (a : A) (t : Lexeme) → d t ≡ false → c a t ≡ false) (ends : (t : Lexeme) → d t ≡ false → h t ≡ false) where
  pub repeated_lawful : Lawful (List A) k n i i (λ _. d) (λ m. Repeated A (R m)) (many h always p)
  repeated_lawful = same_lawful (turns_lawful d h always P first (λ a t _. over a t) wide ends) (λ m. Repeated A (R m))
      (λ m. repeated_into A (R m)) (λ m. repeated_from A (R m))

pub repeated_follows : (A : Type 0) (R : A → Lexemes → Type 0) (c d h : Lexeme → Bool) → ((a : A) (u : Lexemes) → R a u → Begins h u) → ((t : Lexeme) → h t ≡ true → c t ≡ false) →
    ((t : Lexeme) → d t ≡ false → c t ≡ false) → (xs : List A) (v rest : Lexemes) → Repeated A R xs v → Stops d rest → Stops c (v ++ rest)
repeated_follows A R c d h first over wide _ _ rest none s = stops_wider c d wide rest s
repeated_follows A R c d h first over wide _ _ rest (more {a} {rest = xs} {u} {v} s' m) s =
    let (t, x, e', b) = first a u s' in
    rw e' (over t b)

pub repeated_none : (A : Type 0) (R : A → Lexemes → Type 0) (v : Lexemes) → Repeated A R [] v → v ≡ []
repeated_none A R _ none = refl

-- a part, and parts behind it that make one value with it
abbrev pub Chain : {A B C : Type 0} → (A → Lexemes → Type 0) → (B → Lexemes → Type 0) → (A → List B → C) → C → Lexemes → Type 0
Chain {A} {B} R T f x w = (a : A) × (u : Lexemes) × (xs : List B) × (v : Lexemes) × (w ≡ u ++ v) × R a u × Repeated B T xs v × (x ≡ f a xs)

module _ {A B C : Type 0} {k n i : ℕ} {c : A → Lexeme → Bool} {e : B → Lexeme → Bool} {R : ℕ → A → Lexemes → Type 0} {T : ℕ → B → Lexemes → Type 0} {p : Reader A} {q : Reader B}
    (d h : Lexeme → Bool) (f : A → List B → C) (P : Lawful A k n i i c R p) (Q : Lawful B k n i i e T q)
    (first : (m : ℕ) (a : B) (u : Lexemes) → T m a u → Begins h u)
    (over : (b : B) (t : Lexeme) → h t ≡ true → e b t ≡ false) (wide : (b : B) (t : Lexeme) → d t ≡ false → e b t ≡ false) (ends : (t : Lexeme) → d t ≡ false → h t ≡ false)
    (over' : (a : A) (t : Lexeme) → h t ≡ true → c a t ≡ false) (wide' : (a : A) (t : Lexeme) → d t ≡ false → c a t ≡ false) where
  Tail : ℕ → A → C → Lexemes → Type 0
  Tail m a = Image (f a) (Repeated B (T m))

  chain_tail : (a : A) → Lawful C k n i i (λ _. d) (λ m. Tail m a) (mapped (f a) (many h always q))
  unfolding Tail
  chain_tail a = map_lawful (λ _. d) (f a) (repeated_lawful d h Q first over wide ends) (λ xs t s. s)

  pub chain_lawful : Lawful C k n i i (λ _. d) (λ m. Chain (R m) (T m) f) (seq p (λ a. mapped (f a) (many h always q)))
  unfolding Tail
  chain_lawful = same_lawful (seq_lawful {S = Tail} P chain_tail
      (λ m a b v rest (xs, same, s) stops. repeated_follows B (T m) (c a) d h (first m) (over' a) (wide' a) xs v rest s stops))
      (λ m. Chain (R m) (T m) f)
      (λ m x w (a, u, v, e, s, (xs, same, r)). (a, u, xs, v, e, s, r, same))
      (λ m x w (a, u, xs, v, e, s, r, same). (a, u, v, e, s, (xs, same, r)))
