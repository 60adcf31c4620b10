-- What a right reader's answer says of a whole list.
use Rattle.std.proofs.Common.{◌≡◌, ℕ, zero, suc, ◌+◌, ◌≤◌, Bool, true, false, cond, ◌&&◌, nat_eq, [], ◌∷◌, ◌++◌, Some, None, length, ◌⊎◌, inl, inr, refl, sym, ap, ◌∙◌, subst, append-nil, length-append, zero-add, arith, ⊎_elim}
use Rattle.std.proofs.lemmas.Bool.Decides.{nat_tests}
use Rattle.bt_syntax.specs.Lexemes.{Lexeme, Lexemes}
use Rattle.bt_syntax.specs.Places.{NoneFrom, FirstBad}
use Rattle.bt_syntax.specs.Brackets.{opens, closes, less_one, opened, deep_at}
use Rattle.bt_syntax.specs.Reading.{Res, Got, Stuck, Deep, Reader}
use Rattle.bt_syntax.proofs.Lawful.{DeadAt, Lawful}

-- the relation at some depth
abbrev pub Somehow : {A : Type 0} → (ℕ → A → Lexemes → Type 0) → A → Lexemes → Type 0
Somehow R a u = (m : ℕ) × R m a u

-- ---- brackets

opened_at_most : (d : ℕ) (u : Lexemes) → opened d u ≤ d + length u
opened_at_most d [] = omega arith
opened_at_most d (t ∷ u) = step_then (opens t.kind) (closes t.kind) d u (opened_at_most (suc d) u) (opened_at_most (less_one d) u) (opened_at_most d u)
  where
    step_then : (b b' : Bool) (d : ℕ) (u : Lexemes) → opened (suc d) u ≤ suc d + length u → opened (less_one d) u ≤ less_one d + length u → opened d u ≤ d + length u →
        opened (cond b (suc d) (cond b' (less_one d) d)) u ≤ d + suc (length u)
    step_then true b' d u x y z = omega arith
    step_then false true zero u x y z = omega arith
    step_then false true (suc d) u x y z = omega arith
    step_then false false d u x y z = omega arith

less : (d : ℕ) → d ≤ 64 → less_one d ≤ 64
less zero h = h
less (suc d) h = omega arith

pub shallow : (d : ℕ) (u rest : Lexemes) → d ≤ 64 → deep_at d (u ++ rest) ≡ None → opened d u ≤ 64
shallow d [] rest small h = small
shallow d (t ∷ u) rest small h = go (opens t.kind) (closes t.kind) (nat_eq d 64) refl h (shallow (suc d) u rest) (shallow (less_one d) u rest) (shallow d u rest)
  where
    go : (o c e : Bool) → nat_eq d 64 ≡ e → cond (o && e) (Some t.at) (deep_at (cond o (suc d) (cond c (less_one d) d)) (u ++ rest)) ≡ None →
        (suc d ≤ 64 → deep_at (suc d) (u ++ rest) ≡ None → opened (suc d) u ≤ 64) → (less_one d ≤ 64 → deep_at (less_one d) (u ++ rest) ≡ None → opened (less_one d) u ≤ 64) →
        (d ≤ 64 → deep_at d (u ++ rest) ≡ None → opened d u ≤ 64) → opened (cond o (suc d) (cond c (less_one d) d)) u ≤ 64
    go true c true e h up down same = absurd (cc)
    go true c false e h up down same = up (grind (arith, nat_tests)) h
    go false true _ e h up down same = down (less d small) h
    go false false _ e h up down same = same small h

module _ {A : Type 0} {c : A → Lexeme → Bool} {R : ℕ → A → Lexemes → Type 0} (f : ℕ → Reader A) (F : (k : ℕ) → Lawful A (suc k) (suc k) 0 0 c R (f k)) where
  got_whole : (k m : ℕ) (a : A) (u : Lexemes) → R m a u → (f k u ≡ Got a []) ⊎ (f k u ≡ Deep)
  got_whole k m a u r = simp append-nil at ((F k).all m a u [] r tt)

  -- with room for as many brackets as there are tokens the reader never gives up
  not_deep : (u : Lexemes) → f (length u) u ≡ Deep → ⊥
  not_deep u h =
      let o = (F (length u)).deep u h in
      let e = o.deep 0 in
      let e' : opened 0 o.u ≡ suc (length u) = e ∙ zero-add (suc (length u)) in
      let e'' : length u ≡ length o.u + length o.rest = ap length o.whole ∙ length-append o.u o.rest in
      let b = opened_at_most 0 o.u in
      omega arith

  pub one_value : (a b : A) (u : Lexemes) → Somehow R a u → Somehow R b u → a ≡ b
  one_value a b u (m, r) (m', s) =
      ⊎_elim (λ g. ⊎_elim (λ g'. (let e : Got a [] ≡ Got b [] = sym g ∙ g' in cc)) (λ h. absurd (not_deep u h)) (got_whole (length u) m' b u s)) (λ h. absurd (not_deep u h)) (got_whole (length u) m a u r)

  pub whole_read : (k : ℕ) (ts : Lexemes) (a : A) → f k ts ≡ Got a [] → Somehow R a ts
  whole_read k ts a h = (let g = (F k).got ts a [] h in (suc k, subst (R (suc k) a) (sym (g.whole ∙ (simp append-nil))) g.reads))

  -- where the tokens go on after a reading
  pub too_long : (k : ℕ) (ts : Lexemes) (a : A) (t : Lexeme) (rest : Lexemes) → f k ts ≡ Got a (t ∷ rest) → FirstBad A (Somehow R) ts (t ∷ rest)
  too_long k ts a t rest h =
      let g = (F k).got ts a (t ∷ rest) h in
      let bad : NoneFrom (Somehow R) g.u (t ∷ rest) = λ b more (m, s). (
      let again = g.again (t ∷ more) refl in
      ⊎_elim (λ e. (let e' : Got a (t ∷ more) ≡ Got b [] = sym again ∙ e in absurd (cc))) (λ e. absurd (cc)) (got_whole k m b (g.u ++ t ∷ more) s)) in
      record { u = g.u; whole = g.whole; viable = (a, [], (suc k, rw append-nil g.reads)); bad = bad; none = λ b s. bad b rest (subst (Somehow R b) g.whole s) }

  pub too_short : (k : ℕ) (ts rest : Lexemes) → f k ts ≡ Stuck rest → FirstBad A (Somehow R) ts rest
  too_short k ts rest h =
      let b = (F k).stuck ts rest h in
      let (a, more, r) = b.viable in
      record {
        u = b.u;
        whole = b.whole;
        viable = (a, more, (suc k, r));
        bad = bad b.u rest b.dead;
        none = λ a (m, s). ⊎_elim (λ e. absurd (cc)) (λ e. absurd (cc)) (got_whole k m a ts s);
      }
    where
      bad : (u rest : Lexemes) → DeadAt (f k) u rest → NoneFrom (Somehow R) u rest
      bad u [] dead = tt
      bad u (t ∷ rest) dead = λ a more (m, s). (
          let e' = dead more in
          ⊎_elim (λ e. absurd (cc)) (λ e. absurd (cc)) (got_whole k m a (u ++ t ∷ more) s))

  pub never_deep : (ts : Lexemes) → deep_at 0 ts ≡ None → f 64 ts ≡ Deep → ⊥
  never_deep ts h g =
      let o = (F 64).deep ts g in
      let b = shallow 0 o.u o.rest (omega arith) (subst (λ y. deep_at 0 y ≡ None) o.whole h) in
      let e = o.deep 0 in
      omega arith

  -- every list is read, or has a first token at which no reading is left
  pub read_or_bad : (ts : Lexemes) → ((a : A) × Somehow R a ts) ⊎ ((rest : Lexemes) × FirstBad A (Somehow R) ts rest)
  read_or_bad ts = go (f (length ts) ts) refl
    where
      go : (y : Res A) → f (length ts) ts ≡ y → ((a : A) × Somehow R a ts) ⊎ ((rest : Lexemes) × FirstBad A (Somehow R) ts rest)
      go (Got a []) h = inl (a, whole_read (length ts) ts a h)
      go (Got a (t ∷ rest)) h = inr (t ∷ rest, too_long (length ts) ts a t rest h)
      go (Stuck rest) h = inr (rest, too_short (length ts) ts rest h)
      go Deep h = absurd (not_deep ts h)
