-- A choice by the first token.
use Rattle.std.proofs.Common.{◌≡◌, ℕ, Bool, true, false, cond, [], ◌∷◌, ◌++◌, ◌⊎◌, inl, inr, refl, sym, ap, ◌∙◌}
use Rattle.bt_syntax.specs.Lexemes.{Lexeme, Lexemes}
use Rattle.bt_syntax.specs.Places.{Viable}
use Rattle.bt_syntax.specs.Reading.{Got, Stuck, Deep, Reader, starts, branch}
use Rattle.bt_syntax.proofs.Lawful.{Stops, DeadAt, SameHead, Read, Blocked, Opens, Lawful}

pub starts_same : (h : Lexeme → Bool) (u rest more : Lexemes) → SameHead rest more → starts h (u ++ more) ≡ starts h (u ++ rest)
starts_same h [] [] [] e = refl
starts_same h [] [] (t ∷ more) e = absurd e
starts_same h [] (t ∷ rest) [] e = absurd e
starts_same h [] (t ∷ rest) (t' ∷ more) e = ap h (sym e)
starts_same h (x ∷ u) rest more e = refl

pub starts_more : (h : Lexeme → Bool) (u rest : Lexemes) → starts h u ≡ true → starts h (u ++ rest) ≡ true
starts_more h [] rest e = absurd (cc)
starts_more h (t ∷ u) rest e = e

pub starts_front : (h : Lexeme → Bool) (u rest : Lexemes) → (u ≡ [] → ⊥) → starts h (u ++ rest) ≡ true → starts h u ≡ true
starts_front h [] rest some e = absurd (some refl)
starts_front h (t ∷ u) rest some e = e

starts_not : (h : Lexeme → Bool) (u rest : Lexemes) → starts h (u ++ rest) ≡ false → starts h u ≡ false
starts_not h [] rest e = refl
starts_not h (t ∷ u) rest e = e

-- R for what begins with a token that passes, S for all else
abbrev pub Either : {A : Type 0} → (Lexeme → Bool) → (A → Lexemes → Type 0) → (A → Lexemes → Type 0) → A → Lexemes → Type 0
Either h R S a u = (R a u × (starts h u ≡ true)) ⊎ (S a u × (starts h u ≡ false))

pub either_some : {A : Type 0} (h : Lexeme → Bool) (R S : A → Lexemes → Type 0) (a : A) (u : Lexemes) → (S a u → u ≡ [] → ⊥) → Either h R S a u → u ≡ [] → ⊥
either_some h R S a u second (inl (r, b)) e = let b' : false ≡ true = ap (starts h) (sym e) ∙ b in cc
either_some h R S a u second (inr (s, b)) e = second s e

module _ {A : Type 0} {k n i j : ℕ} {c : A → Lexeme → Bool} {R S : ℕ → A → Lexemes → Type 0} {p q : Reader A} (h : Lexeme → Bool)
    (P : Lawful A k n i j c R p) (Q : Lawful A k n i j c S q)
    (some : (m : ℕ) (a : A) (u : Lexemes) → R m a u → u ≡ [] → ⊥)
    (ends : (m : ℕ) (a : A) → S m a [] → (t : Lexeme) → c a t ≡ false → h t ≡ false)
    (sample : Viable (Either h (R n) (S n)) []) where
  branch_again : (f : Reader A) (b : Bool) → ((ts : Lexemes) → starts h ts ≡ b → branch h p q ts ≡ f ts) → (ts u rest : Lexemes) (a : A) → ts ≡ u ++ rest → starts h ts ≡ b →
      ((more : Lexemes) → SameHead rest more → f (u ++ more) ≡ Got a more) → (more : Lexemes) → SameHead rest more → branch h p q (u ++ more) ≡ Got a more
  branch_again f b same ts u rest a whole e again more s = same (u ++ more) (starts_same h u rest more s ∙ ap (starts h) (sym whole) ∙ e) ∙ again more s

  branch_first : (ts : Lexemes) → starts h ts ≡ true → branch h p q ts ≡ p ts
  branch_first ts e = rw e refl

  branch_second : (ts : Lexemes) → starts h ts ≡ false → branch h p q ts ≡ q ts
  branch_second ts e = rw e refl

  branch_read : (ts : Lexemes) (a : A) (rest : Lexemes) (b : Bool) → starts h ts ≡ b → cond b (p ts) (q ts) ≡ Got a rest → Read A i j (Either h (R n) (S n)) (branch h p q) ts a rest
  branch_read ts a rest true e g =
      let r = P.got ts a rest g in
      record {
        u = r.u;
        whole = r.whole;
        reads = inl (r.reads, starts_front h r.u rest (some n a r.u r.reads) (ap (starts h) (sym r.whole) ∙ e));
        again = branch_again p true branch_first ts r.u rest a r.whole e r.again;
        level = r.level;
      }
  branch_read ts a rest false e g =
      let r = Q.got ts a rest g in
      record {
        u = r.u;
        whole = r.whole;
        reads = inr (r.reads, starts_not h r.u rest (ap (starts h) (sym r.whole) ∙ e));
        again = branch_again q false branch_second ts r.u rest a r.whole e r.again;
        level = r.level;
      }

  other_starts : (m : ℕ) (a : A) (u rest : Lexemes) → S m a u → starts h u ≡ false → Stops (c a) rest → starts h (u ++ rest) ≡ false
  other_starts m a [] [] s e stops = refl
  other_starts m a [] (t ∷ rest) s e stops = ends m a s t stops
  other_starts m a (t ∷ u) rest s e stops = e

  branch_all : (m : ℕ) (a : A) (u rest : Lexemes) → Either h (R m) (S m) a u → Stops (c a) rest → (branch h p q (u ++ rest) ≡ Got a rest) ⊎ (branch h p q (u ++ rest) ≡ Deep)
  branch_all m a u rest (inl (r, e)) stops = let e' = starts_more h u rest e in rw e' (P.all m a u rest r stops)
  branch_all m a u rest (inr (s, e)) stops = let e' = other_starts m a u rest s e stops in rw e' (Q.all m a u rest s stops)

  branch_dead : (f : Reader A) (b : Bool) (u rest : Lexemes) → ((ts : Lexemes) → starts h ts ≡ b → branch h p q ts ≡ f ts) → starts h (u ++ rest) ≡ b →
      DeadAt f u rest → DeadAt (branch h p q) u rest
  branch_dead f b u [] same e dead = tt
  branch_dead f b u (t ∷ rest) same e dead = λ more. same (u ++ t ∷ more) (starts_same h u (t ∷ rest) (t ∷ more) refl ∙ e) ∙ dead more

  viable_first : (u rest : Lexemes) → starts h (u ++ rest) ≡ true → Viable (R n) u → Viable (Either h (R n) (S n)) u
  viable_first [] rest e v = sample
  viable_first (t ∷ u) rest e (a, more, r) = (a, more, inl (r, e))

  viable_second : (u rest : Lexemes) → starts h (u ++ rest) ≡ false → Viable (S n) u → Viable (Either h (R n) (S n)) u
  viable_second [] rest e v = sample
  viable_second (t ∷ u) rest e (a, more, r) = (a, more, inr (r, e))

  branch_stuck : (ts rest : Lexemes) (b : Bool) → starts h ts ≡ b → cond b (p ts) (q ts) ≡ Stuck rest → Blocked A (Either h (R n) (S n)) (branch h p q) ts rest
  branch_stuck ts rest true e g =
      let r = P.stuck ts rest g in
      let e' = ap (starts h) (sym r.whole) ∙ e in
      record { u = r.u; whole = r.whole; viable = viable_first r.u rest e' r.viable; dead = branch_dead p true r.u rest branch_first e' r.dead }
  branch_stuck ts rest false e g =
      let r = Q.stuck ts rest g in
      let e' = ap (starts h) (sym r.whole) ∙ e in
      record { u = r.u; whole = r.whole; viable = viable_second r.u rest e' r.viable; dead = branch_dead q false r.u rest branch_second e' r.dead }

  branch_deep : (ts : Lexemes) (b : Bool) → cond b (p ts) (q ts) ≡ Deep → Opens k i ts
  branch_deep ts true g = P.deep ts g
  branch_deep ts false g = Q.deep ts g

  pub branch_lawful : Lawful A k n i j c (λ m. Either h (R m) (S m)) (branch h p q)
  branch_lawful = record {
    got = λ ts a rest g. branch_read ts a rest (starts h ts) refl g;
    all = branch_all;
    stuck = λ ts rest g. branch_stuck ts rest (starts h ts) refl g;
    deep = λ ts g. branch_deep ts (starts h ts) g;
    inhabited = sample;
  }
