-- What makes a reader right for a relation between values and tokens, and what is made of right readers.
use Rattle.std.proofs.Common.{◌≡◌, ℕ, suc, ◌+◌, Bool, false, [], ◌∷◌, ◌++◌, Option, Some, None, ◌⊎◌, inl, inr, refl, sym, ap, ◌∙◌, subst, append_assoc, arith, ⊎_elim}
use Rattle.bt_syntax.specs.Lexemes.{Lexeme, Lexemes}
use Rattle.bt_syntax.specs.Places.{Viable}
use Rattle.bt_syntax.specs.Brackets.{opened, step}
use Rattle.bt_syntax.specs.Reading.{Res, Got, Stuck, Deep, Reader, and_then, seq, mapped, pure, token, token_as, map_res}

-- no token that goes on comes next
abbrev pub Stops : (Lexeme → Bool) → Lexemes → Type 0
Stops c [] = Unit {0}
Stops c (t ∷ rest) = c t ≡ false

-- whatever stands behind the first token of the rest, the reader is stuck there
abbrev pub DeadAt : {A : Type 0} → Reader A → Lexemes → Lexemes → Type 0
DeadAt f u [] = Unit {0}
DeadAt f u (t ∷ rest) = (more : Lexemes) → f (u ++ t ∷ more) ≡ Stuck (t ∷ more)

-- both begin with one token, or are empty
abbrev pub SameHead : Lexemes → Lexemes → Type 0
SameHead [] [] = Unit {0}
SameHead [] (t ∷ more) = ⊥
SameHead (t ∷ rest) [] = ⊥
SameHead (t ∷ rest) (t' ∷ more) = t ≡ t'

-- What is read: tokens u, which make j brackets open of i, and are read so before every rest that begins alike.
pub record Read (A : Type 0) (i j : ℕ) (R : A → Lexemes → Type 0) (f : Reader A) (ts : Lexemes) (a : A) (rest : Lexemes) : Type 0 where
  pub u : Lexemes
  pub whole : ts ≡ u ++ rest
  pub reads : R a u
  pub again : (more : Lexemes) → SameHead rest more → f (u ++ more) ≡ Got a more
  pub level : (d : ℕ) → opened (d + i) u ≡ d + j

-- Where it is stuck: behind tokens that can be completed, and whatever follows the first token of the rest.
pub record Blocked (A : Type 0) (R : A → Lexemes → Type 0) (f : Reader A) (ts rest : Lexemes) : Type 0 where
  pub u : Lexemes
  pub whole : ts ≡ u ++ rest
  pub viable : Viable R u
  pub dead : DeadAt f u rest

-- so many brackets are open in a front of the tokens, where i are before it
pub record Opens (k i : ℕ) (ts : Lexemes) : Type 0 where
  pub u : Lexemes
  pub rest : Lexemes
  pub whole : ts ≡ u ++ rest
  pub deep : (d : ℕ) → opened (d + i) u ≡ d + k

-- The reader is right for a relation that is given for each depth of nesting.
-- k: at how many open brackets it gives up; n: the depth of what it reads; i, j: how many are open before and after it; c: which tokens go on behind a value.
pub record Lawful (A : Type 0) (k n i j : ℕ) (c : A → Lexeme → Bool) (R : ℕ → A → Lexemes → Type 0) (f : Reader A) : Type 0 where
  pub got : (ts : Lexemes) (a : A) (rest : Lexemes) → f ts ≡ Got a rest → Read A i j (R n) f ts a rest
  pub all : (m : ℕ) (a : A) (u rest : Lexemes) → R m a u → Stops (c a) rest → (f (u ++ rest) ≡ Got a rest) ⊎ (f (u ++ rest) ≡ Deep)
  pub stuck : (ts rest : Lexemes) → f ts ≡ Stuck rest → Blocked A (R n) f ts rest
  pub deep : (ts : Lexemes) → f ts ≡ Deep → Opens k i ts
  pub inhabited : Viable (R n) []

pub stops_wider : (c d : Lexeme → Bool) → ((t : Lexeme) → d t ≡ false → c t ≡ false) → (rest : Lexemes) → Stops d rest → Stops c rest
stops_wider c d wider [] h = tt
stops_wider c d wider (t ∷ rest) h = wider t h

pub opened-append : (d : ℕ) (u v : Lexemes) → opened d (u ++ v) ≡ opened (opened d u) v
opened-append d [] v = refl
opened-append d (t ∷ u) v = opened-append (step d t.kind) u v

pub same_head : (v rest more : Lexemes) → SameHead rest more → SameHead (v ++ rest) (v ++ more)
same_head [] rest more h = h
same_head (x ∷ v) rest more h = refl

-- which tokens go on: none
abbrev pub nothing : {A : Type 0} → A → Lexeme → Bool
nothing a t = false

pub stops_nothing : (u : Lexemes) → Stops (λ t. false) u
stops_nothing [] = tt
stops_nothing (t ∷ u) = refl

-- ---- one after another

abbrev pub Seq : {A B : Type 0} → (A → Lexemes → Type 0) → (A → B → Lexemes → Type 0) → B → Lexemes → Type 0
Seq {A} R S b w = (a : A) × (u : Lexemes) × (v : Lexemes) × (w ≡ u ++ v) × R a u × S a b v

module _ {A B : Type 0} {k n i j l : ℕ} {c : A → Lexeme → Bool} {d : B → Lexeme → Bool} {R : ℕ → A → Lexemes → Type 0} {S : ℕ → A → B → Lexemes → Type 0} {p : Reader A} {q : A → Reader B}
    (P : Lawful A k n i j c R p) (Q : (a : A) → Lawful B k n j l d (λ m. S m a) (q a)) where
  seq_again : (a : A) (b : B) (u v r rest : Lexemes) → r ≡ v ++ rest →
      ((more : Lexemes) → SameHead r more → p (u ++ more) ≡ Got a more) → ((more : Lexemes) → SameHead rest more → q a (v ++ more) ≡ Got b more) →
      (more : Lexemes) → SameHead rest more → seq p q ((u ++ v) ++ more) ≡ Got b more
  seq_again a b u v r rest whole again again' more h =
      let e = again (v ++ more) (subst (λ y. SameHead y (v ++ more)) (sym whole) (same_head v rest more h)) in
      let e' = again' more h in
      rw append_assoc (rw e e')

  seq_got : (ts : Lexemes) (b : B) (rest : Lexemes) (x : Res A) → p ts ≡ x → and_then x q ≡ Got b rest → Read B i l (Seq (R n) (S n)) (seq p q) ts b rest
  seq_got ts b rest (Got a r) e h =
      let first = P.got ts a r e in
      let second = (Q a).got r b rest h in
      record {
        u = first.u ++ second.u;
        whole = first.whole ∙ ap (λ y. first.u ++ y) second.whole ∙ sym (append_assoc first.u second.u rest);
        reads = (a, first.u, second.u, refl, first.reads, second.reads);
        again = seq_again a b first.u second.u r rest second.whole first.again second.again;
        level = λ m. opened-append (m + i) first.u second.u ∙ ap (λ y. opened y second.u) (first.level m) ∙ second.level m;
      }
  seq_got ts b rest (Stuck r) e h = absurd (cc)
  seq_got ts b rest Deep e h = absurd (cc)

  seq_dead : (a : A) (u1 u2 : Lexemes) (rest : Lexemes) → (r : Lexemes) → r ≡ u2 ++ rest →
      ((more : Lexemes) → SameHead r more → p (u1 ++ more) ≡ Got a more) → DeadAt (q a) u2 rest → DeadAt (seq p q) (u1 ++ u2) rest
  seq_dead a u1 u2 [] r e again dead = tt
  seq_dead a u1 u2 (t ∷ rest) r e again dead = λ more.
      let first = again (u2 ++ t ∷ more) (subst (λ y. SameHead y (u2 ++ t ∷ more)) (sym e) (same_head u2 (t ∷ rest) (t ∷ more) refl)) in
      let second = dead more in
      rw append_assoc (rw first second)

  dead_first : (u rest : Lexemes) → DeadAt p u rest → DeadAt (seq p q) u rest
  dead_first u [] dead = tt
  dead_first u (t ∷ rest) dead = λ more. let first = dead more in rw first

  seq_stuck : (ts : Lexemes) (rest : Lexemes) (x : Res A) → p ts ≡ x → and_then x q ≡ Stuck rest → Blocked B (Seq (R n) (S n)) (seq p q) ts rest
  seq_stuck ts rest (Got a r) e h =
      let first = P.got ts a r e in
      let second = (Q a).stuck r rest h in
      let (b, more, s) = second.viable in
      record {
        u = first.u ++ second.u;
        whole = first.whole ∙ ap (λ y. first.u ++ y) second.whole ∙ sym (append_assoc first.u second.u rest);
        viable = (b, more, (a, first.u, second.u ++ more, append_assoc first.u second.u more, first.reads, s));
        dead = seq_dead a first.u second.u rest r second.whole first.again second.dead;
      }
  seq_stuck ts rest (Stuck r) e h =
      let h' : ◌≡◌ {A = Res B} (Stuck r) (Stuck rest) = h in
      let same : r ≡ rest = cc in
      let first = P.stuck ts r e in
      let (a, more, reads) = first.viable in
      let (b, v, s) = (Q a).inhabited in
      record {
        u = first.u;
        whole = first.whole ∙ ap (λ y. first.u ++ y) same;
        viable = (b, more ++ v, (a, first.u ++ more, v, sym (append_assoc first.u more v), reads, s));
        dead = dead_first first.u rest (subst (DeadAt p first.u) same first.dead);
      }
  seq_stuck ts rest Deep e h = absurd (cc)

  seq_deep : (ts : Lexemes) (x : Res A) → p ts ≡ x → and_then x q ≡ Deep → Opens k i ts
  seq_deep ts (Got a r) e h =
      let first = P.got ts a r e in
      let second = (Q a).deep r h in
      record {
        u = first.u ++ second.u;
        rest = second.rest;
        whole = first.whole ∙ ap (λ y. first.u ++ y) second.whole ∙ sym (append_assoc first.u second.u second.rest);
        deep = λ m. opened-append (m + i) first.u second.u ∙ ap (λ y. opened y second.u) (first.level m) ∙ second.deep m;
      }
  seq_deep ts (Stuck r) e h = absurd (cc)
  seq_deep ts Deep e h = P.deep ts e

  seq_inhabited : Viable (Seq (R n) (S n)) []
  seq_inhabited =
      let (a, u, r) = P.inhabited in
      let (b, v, s) = (Q a).inhabited in
      (b, u ++ v, (a, u, v, refl, r, s))

  module _ (follows : (m : ℕ) (a : A) (b : B) (v rest : Lexemes) → S m a b v → Stops (d b) rest → Stops (c a) (v ++ rest)) where
    seq_all : (m : ℕ) (b : B) (w rest : Lexemes) → Seq (R m) (S m) b w → Stops (d b) rest → (seq p q (w ++ rest) ≡ Got b rest) ⊎ (seq p q (w ++ rest) ≡ Deep)
    seq_all m b w rest (a, u, v, e, r, s) stops =
        let whole : w ++ rest ≡ u ++ (v ++ rest) = ap (λ y. y ++ rest) e ∙ append_assoc u v rest in
        rw whole (⊎_elim
        (λ first. rw first ((Q a).all m b v rest s stops))
        (λ first. rw first (inr refl))
        (P.all m a u (v ++ rest) r (follows m a b v rest s stops)))

    pub seq_lawful : Lawful B k n i l d (λ m. Seq (R m) (S m)) (seq p q)
    seq_lawful = record {
      got = λ ts b rest h. seq_got ts b rest (p ts) refl h;
      all = seq_all;
      stuck = λ ts rest h. seq_stuck ts rest (p ts) refl h;
      deep = λ ts h. seq_deep ts (p ts) refl h;
      inhabited = seq_inhabited;
    }

-- ---- another value

-- the value f of one that is read
abbrev pub Image : {A B : Type 0} → (A → B) → (A → Lexemes → Type 0) → B → Lexemes → Type 0
Image {A} f R b u = (a : A) × (b ≡ f a) × R a u

module _ {A B : Type 0} {k n i j : ℕ} {c : A → Lexeme → Bool} {R : ℕ → A → Lexemes → Type 0} {p : Reader A} (d : B → Lexeme → Bool) (f : A → B) (P : Lawful A k n i j c R p)
    (wider : (a : A) (t : Lexeme) → d (f a) t ≡ false → c a t ≡ false) where
  map_got : (ts : Lexemes) (b : B) (rest : Lexemes) (x : Res A) → p ts ≡ x → map_res f x ≡ Got b rest → Read B i j (Image f (R n)) (mapped f p) ts b rest
  map_got ts b rest (Got a r) e h =
      let h' : Got (f a) r ≡ Got b rest = h in
      let same : f a ≡ b = cc in
      let same' : r ≡ rest = cc in
      let first = P.got ts a r e in
      record {
        u = first.u;
        whole = first.whole ∙ ap (λ y. first.u ++ y) same';
        reads = (a, sym same, first.reads);
        again = λ more h. (let e' = first.again more (subst (λ y. SameHead y more) (sym same') h) in rw e' (ap (λ y. Got y more) same));
        level = first.level;
      }
  map_got ts b rest (Stuck r) e h = absurd (cc)
  map_got ts b rest Deep e h = absurd (cc)

  map_dead : (u rest : Lexemes) → DeadAt p u rest → DeadAt (mapped f p) u rest
  map_dead u [] dead = tt
  map_dead u (t ∷ rest) dead = λ more. let first = dead more in rw first

  map_stuck : (ts rest : Lexemes) (x : Res A) → p ts ≡ x → map_res f x ≡ Stuck rest → Blocked B (Image f (R n)) (mapped f p) ts rest
  map_stuck ts rest (Got a r) e h = absurd (cc)
  map_stuck ts rest (Stuck r) e h =
      let h' : ◌≡◌ {A = Res B} (Stuck r) (Stuck rest) = h in
      let same : r ≡ rest = cc in
      let first = P.stuck ts rest (e ∙ ap (λ y. Stuck y) same) in
      let (a, more, reads) = first.viable in
      record { u = first.u; whole = first.whole; viable = (f a, more, (a, refl, reads)); dead = map_dead first.u rest first.dead }
  map_stuck ts rest Deep e h = absurd (cc)

  map_all : (m : ℕ) (b : B) (u rest : Lexemes) → Image f (R m) b u → Stops (d b) rest → (mapped f p (u ++ rest) ≡ Got b rest) ⊎ (mapped f p (u ++ rest) ≡ Deep)
  map_all m b u rest (a, e, r) stops =
      ⊎_elim (λ first. rw first (inl (ap (λ y. Got y rest) (sym e)))) (λ first. rw first (inr refl))
      (P.all m a u rest r (stops_wider (c a) (d (f a)) (wider a) rest (subst (λ y. Stops (d y) rest) e stops)))

  map_deep : (ts : Lexemes) (x : Res A) → p ts ≡ x → map_res f x ≡ Deep → Opens k i ts
  map_deep ts (Got a r) e h = absurd (cc)
  map_deep ts (Stuck r) e h = absurd (cc)
  map_deep ts Deep e h = P.deep ts e

  pub map_lawful : Lawful B k n i j d (λ m. Image f (R m)) (mapped f p)
  map_lawful = record {
    got = λ ts b rest h. map_got ts b rest (p ts) refl h;
    all = map_all;
    stuck = λ ts rest h. map_stuck ts rest (p ts) refl h;
    deep = λ ts h. map_deep ts (p ts) refl h;
    inhabited = (let (a, u, r) = P.inhabited in (f a, u, (a, refl, r)));
  }

-- ---- another relation, more tokens that go on, more brackets round it

module _ {A : Type 0} {k n i j : ℕ} {c : A → Lexeme → Bool} {R : ℕ → A → Lexemes → Type 0} {p : Reader A} (P : Lawful A k n i j c R p) where
  pub same_lawful : (S : ℕ → A → Lexemes → Type 0) → ((m : ℕ) (a : A) (u : Lexemes) → R m a u → S m a u) → ((m : ℕ) (a : A) (u : Lexemes) → S m a u → R m a u) → Lawful A k n i j c S p
  same_lawful S into from = record {
    got = λ ts a rest h. (let r = P.got ts a rest h in record { u = r.u; whole = r.whole; reads = into n a r.u r.reads; again = r.again; level = r.level });
    all = λ m a u rest s stops. P.all m a u rest (from m a u s) stops;
    stuck = λ ts rest h. (let b = P.stuck ts rest h in let (a, more, r) = b.viable in record { u = b.u; whole = b.whole; viable = (a, more, into n a _ r); dead = b.dead });
    deep = P.deep;
    inhabited = (let (a, u, r) = P.inhabited in (a, u, into n a u r));
  }

  pub wider_lawful : (c' : A → Lexeme → Bool) → ((a : A) (t : Lexeme) → c' a t ≡ false → c a t ≡ false) → Lawful A k n i j c' R p
  wider_lawful c' wider = record { got = P.got; all = λ m a u rest r stops. P.all m a u rest r (stops_wider (c a) (c' a) (wider a) rest stops); stuck = P.stuck; deep = P.deep; inhabited = P.inhabited }

  shifted : (d : ℕ) (u : Lexemes) (m : ℕ) → opened (suc d + i) u ≡ suc d + m → opened (d + suc i) u ≡ d + suc m
  shifted d u m h =
      let e : d + suc i ≡ suc d + i = omega arith in
      let e' : d + suc m ≡ suc d + m = omega arith in
      rw e (rw e' h)

  pub shift_lawful : Lawful A (suc k) n (suc i) (suc j) c R p
  shift_lawful = record {
    got = λ ts a rest h. (let r = P.got ts a rest h in record { u = r.u; whole = r.whole; reads = r.reads; again = r.again; level = λ d. shifted d r.u j (r.level (suc d)) });
    all = P.all;
    stuck = P.stuck;
    deep = λ ts h. (let o = P.deep ts h in record { u = o.u; rest = o.rest; whole = o.whole; deep = λ d. shifted d o.u k (o.deep (suc d)) });
    inhabited = P.inhabited;
  }

-- ---- one token

abbrev pub One : {A : Type 0} → (Lexeme → Option A) → A → Lexemes → Type 0
One m a u = (t : Lexeme) × (u ≡ t ∷ []) × (m t ≡ Some a)

module _ {A : Type 0} (k n i j : ℕ) (m : Lexeme → Option A) (level : (t : Lexeme) (a : A) → m t ≡ Some a → (d : ℕ) → step (d + i) t.kind ≡ d + j) (some : (t : Lexeme) × (a : A) × (m t ≡ Some a)) where
  token_got : (ts : Lexemes) (a : A) (rest : Lexemes) → token m ts ≡ Got a rest → Read A i j (One m) (token m) ts a rest
  token_got [] a rest h = absurd (cc)
  token_got (t ∷ ts) a rest h = go (m t) refl h
    where
      go : (o : Option A) → m t ≡ o → token_as o t ts ≡ Got a rest → Read A i j (One m) (token m) (t ∷ ts) a rest
      go None e h = absurd (cc)
      go (Some b) e h =
          let h' : Got b ts ≡ Got a rest = h in
          let same : b ≡ a = cc in
          let same' : ts ≡ rest = cc in
          record {
            u = t ∷ [];
            whole = ap (λ y. t ∷ y) same';
            reads = (t, refl, e ∙ ap (λ y. Some y) same);
            again = λ more _. rw e (ap (λ y. Got y more) same);
            level = level t b e;
          }

  token_stuck : (ts rest : Lexemes) → token m ts ≡ Stuck rest → Blocked A (One m) (token m) ts rest
  token_stuck [] rest h =
      let h' : ◌≡◌ {A = Res A} (Stuck []) (Stuck rest) = h in
      let same : [] ≡ rest = cc in
      let (t, a, e) = some in
      record { u = []; whole = same; viable = (a, t ∷ [], (t, refl, e)); dead = subst (DeadAt (token m) []) same tt }
  token_stuck (t ∷ ts) rest h = go (m t) refl h
    where
      go : (o : Option A) → m t ≡ o → token_as o t ts ≡ Stuck rest → Blocked A (One m) (token m) (t ∷ ts) rest
      go None e h =
          let h' : ◌≡◌ {A = Res A} (Stuck (t ∷ ts)) (Stuck rest) = h in
          let same : t ∷ ts ≡ rest = cc in
          let (t', a, e') = some in
          record { u = []; whole = same; viable = (a, t' ∷ [], (t', refl, e')); dead = subst (DeadAt (token m) []) same (λ more. rw e refl) }
      go (Some b) e h = absurd (cc)

  token_all : (a : A) (u rest : Lexemes) → One m a u → (token m (u ++ rest) ≡ Got a rest) ⊎ (token m (u ++ rest) ≡ Deep)
  token_all a u rest (t, e, h) = rw e (rw h (inl refl))

  token_deep : (ts : Lexemes) → token m ts ≡ Deep → Opens k i ts
  token_deep [] h = absurd (cc)
  token_deep (t ∷ ts) h = go (m t) h
    where
      go : (o : Option A) → token_as o t ts ≡ Deep → Opens k i (t ∷ ts)
      go None h = absurd (cc)
      go (Some b) h = absurd (cc)

  pub token_lawful : Lawful A k n i j nothing (λ _. One m) (token m)
  token_lawful = record {
    got = token_got;
    all = λ _ a u rest r _. token_all a u rest r;
    stuck = token_stuck;
    deep = token_deep;
    inhabited = (let (t, a, e) = some in (a, t ∷ [], (t, refl, e)));
  }

-- ---- nothing

abbrev pub Nil : {A : Type 0} → A → A → Lexemes → Type 0
Nil a b u = (b ≡ a) × (u ≡ [])

module _ {A : Type 0} (k n i : ℕ) (c : A → Lexeme → Bool) (a : A) where
  pub pure_lawful : Lawful A k n i i c (λ _. Nil a) (pure a)
  pure_lawful = record {
    got = λ ts b rest h. (
        let h' : Got a ts ≡ Got b rest = h in
        let same : a ≡ b = cc in
        let same' : ts ≡ rest = cc in
        record { u = []; whole = same'; reads = (sym same, refl); again = λ more h. ap (λ y. Got y more) same; level = λ d. refl });
    all = λ _ b u rest (e, e') stops. rw e' (inl (ap (λ y. Got y rest) (sym e)));
    stuck = λ ts rest h. absurd (cc);
    deep = λ ts h. absurd (cc);
    inhabited = (a, [], (refl, refl));
  }
