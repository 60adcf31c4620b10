-- As many turns as come.
use Rattle.std.proofs.Common.{◌≡◌, ℕ, ◌+◌, Bool, true, false, cond, List, [], ◌∷◌, ◌++◌, ◌⊎◌, inl, inr, refl, sym, ap, ◌∙◌, subst, append_assoc, append-nil, ⊎_elim}
use Rattle.bt_syntax.specs.Lexemes.{Lexeme, Lexemes}
use Rattle.bt_syntax.specs.Places.{Viable}
use Rattle.bt_syntax.specs.Brackets.{opened}
use Rattle.bt_syntax.specs.Reading.{Res, Got, Stuck, Deep, Reader, and_then, starts, many, many_from, map_res, go_on}
use Rattle.bt_syntax.proofs.Lawful.{Stops, DeadAt, SameHead, same_head, Read, Opens, opened-append, Lawful}
use Rattle.bt_syntax.proofs.Branches.{starts_same}

-- the tokens begin with one that passes
abbrev pub Begins : (Lexeme → Bool) → Lexemes → Type 0
Begins h u = (t : Lexeme) × (v : Lexemes) × (u ≡ t ∷ v) × (h t ≡ true)

pub starts_begins : (h : Lexeme → Bool) (u rest : Lexemes) → Begins h u → starts h (u ++ rest) ≡ true
starts_begins h u rest (t, v, e, b) = rw e b

pub begins_some : (h : Lexeme → Bool) (u : Lexemes) → Begins h u → u ≡ [] → ⊥
begins_some h u (t, v, e, b) e' = let e'' : t ∷ v ≡ [] = sym e ∙ e' in cc

-- no turn follows, where none may
abbrev pub IfGoes : {A : Type 0} → Bool → List A → Lexemes → Type 0 → Type 0
IfGoes true xs v P = P
IfGoes false xs v P = (xs ≡ []) × (v ≡ [])

abbrev pub Turns : {A : Type 0} → (A → Bool) → (A → Lexemes → Type 0) → List A → Lexemes → Type 0
Turns goes R [] w = w ≡ []
Turns goes R (a ∷ xs) w = (u : Lexemes) × (v : Lexemes) × (w ≡ u ++ v) × R a u × IfGoes (goes a) xs v (Turns goes R xs v)

-- no longer than
abbrev pub NoLonger : Lexemes → Lexemes → Type 0
NoLonger [] turns = Unit {0}
NoLonger (t ∷ ts) [] = ⊥
NoLonger (t ∷ ts) (x ∷ turns) = NoLonger ts turns

pub NoLonger-refl : (ts : Lexemes) → NoLonger ts ts
NoLonger-refl [] = tt
NoLonger-refl (t ∷ ts) = NoLonger-refl ts

pub NoLonger-more : (ts turns : Lexemes) (x : Lexeme) → NoLonger ts turns → NoLonger ts (x ∷ turns)
NoLonger-more [] turns x h = tt
NoLonger-more (t ∷ ts) [] x h = absurd h
NoLonger-more (t ∷ ts) (y ∷ turns) x h = NoLonger-more ts turns y h

pub NoLonger-end : (u v turns : Lexemes) → NoLonger (u ++ v) turns → NoLonger v turns
NoLonger-end [] v turns h = h
NoLonger-end (t ∷ u) v [] h = absurd h
NoLonger-end (t ∷ u) v (x ∷ turns) h = NoLonger-more v turns x (NoLonger-end u v turns h)

module _ {A : Type 0} {k n i : ℕ} {c : A → Lexeme → Bool} {R : ℕ → A → Lexemes → Type 0} {p : Reader A} (d h : Lexeme → Bool) (goes : A → Bool) (P : Lawful A k n i i c R p)
    (first : (m : ℕ) (a : A) (u : Lexemes) → R m a u → Begins h u)
    (over : (a : A) (t : Lexeme) → goes a ≡ true → h t ≡ true → c a t ≡ false)
    (wide : (a : A) (t : Lexeme) → d t ≡ false → c a t ≡ false) (ends : (t : Lexeme) → d t ≡ false → h t ≡ false) where
  shorter : (m : ℕ) (a : A) (u v turns : Lexemes) (x : Lexeme) → R m a u → NoLonger (u ++ v) (x ∷ turns) → NoLonger v turns
  shorter m a u v turns x r l =
      let (t, w, e, b) = first m a u r in
      NoLonger-end w v turns (subst (λ y. NoLonger (y ++ v) (x ∷ turns)) e l)

  stops_end : (a : A) (rest : Lexemes) → Stops d rest → Stops (c a) rest
  stops_end a [] s = tt
  stops_end a (t ∷ rest) s = wide a t s

  stops_at : (m : ℕ) (a : A) (xs : List A) (v rest : Lexemes) → goes a ≡ true → Turns goes (R m) xs v → Stops d rest → Stops (c a) (v ++ rest)
  stops_at m a [] v rest g e s = rw e (stops_end a rest s)
  stops_at m a (b ∷ xs) v rest g (u, w, e, r, more) s =
      let (t, x, e', h) = first m b u r in
      rw e (rw e' (over a t g h))

  stops_start : (rest : Lexemes) → Stops d rest → starts h rest ≡ false
  stops_start [] s = refl
  stops_start (t ∷ rest) s = ends t s

  tail_all : (m : ℕ) (turns : Lexemes) (a : A) (xs : List A) (v rest : Lexemes) (g : Bool) → goes a ≡ g →
      (Turns goes (R m) xs v → (many_from h goes p turns (v ++ rest) ≡ Got xs rest) ⊎ (many_from h goes p turns (v ++ rest) ≡ Deep)) →
      IfGoes g xs v (Turns goes (R m) xs v) → Stops d rest →
      Stops (c a) (v ++ rest) × ((go_on g a (many_from h goes p turns (v ++ rest)) (v ++ rest) ≡ Got (a ∷ xs) rest) ⊎ (go_on g a (many_from h goes p turns (v ++ rest)) (v ++ rest) ≡ Deep))
  tail_all m turns a xs v rest true e ih r s = (stops_at m a xs v rest e r s, ⊎_elim (λ f. rw f (inl refl)) (λ f. rw f (inr refl)) (ih r))
  tail_all m turns a xs v rest false e ih (none, empty) s = (rw empty (stops_end a rest s), inl (rw empty (rw none refl)))

  many_all : (m : ℕ) (turns : Lexemes) (xs : List A) (w rest : Lexemes) → NoLonger (w ++ rest) turns → Turns goes (R m) xs w → Stops d rest →
      (many_from h goes p turns (w ++ rest) ≡ Got xs rest) ⊎ (many_from h goes p turns (w ++ rest) ≡ Deep)
  many_all m [] [] w rest l e s = rw e (inl refl)
  many_all m [] (a ∷ xs) w rest l (u, v, e, r, more) s =
      let (t, x, e', b) = first m a u r in
      let l' : NoLonger (((t ∷ x) ++ v) ++ rest) [] = subst (λ y. NoLonger ((y ++ v) ++ rest) []) e' (subst (λ y. NoLonger (y ++ rest) []) e l) in
      absurd l'
  many_all m (x ∷ turns) [] w rest l e s = let e' = stops_start rest s in rw e (rw e' (inl refl))
  many_all m (x ∷ turns) (a ∷ xs) w rest l (u, v, e, r, more) s =
      let whole : w ++ rest ≡ u ++ (v ++ rest) = ap (λ y. y ++ rest) e ∙ append_assoc u v rest in
      let b = starts_begins h u (v ++ rest) (first m a u r) in
      let l' = shorter m a u (v ++ rest) turns x r (subst (λ y. NoLonger y (x ∷ turns)) whole l) in
      let (stops, after) = tail_all m turns a xs v rest (goes a) refl (λ m'. many_all m turns xs v rest l' m' s) more s in
      rw whole (rw b (⊎_elim (λ g. rw g after) (λ g. rw g (inr refl)) (P.all m a u (v ++ rest) r stops)))

  -- what the turns read
  record Loop (ts : Lexemes) (xs : List A) (rest : Lexemes) : Type 0 where
    u : Lexemes
    whole : ts ≡ u ++ rest
    reads : Turns goes (R n) xs u
    again : (turns more : Lexemes) → NoLonger (u ++ more) turns → SameHead rest more → many_from h goes p turns (u ++ more) ≡ Got xs more
    level : (y : ℕ) → opened (y + i) u ≡ y + i

  none_again : (ts : Lexemes) → starts h ts ≡ false → (turns more : Lexemes) → SameHead ts more → many_from h goes p turns more ≡ Got [] more
  none_again ts e [] more s = refl
  none_again ts e (x ∷ turns) more s = let e' = starts_same h [] ts more s ∙ e in rw e'

  one_again : (a : A) (u : Lexemes) (r : Lexemes) → R n a u → ((more : Lexemes) → SameHead r more → p (u ++ more) ≡ Got a more) →
      (turns more : Lexemes) → NoLonger (u ++ more) turns → SameHead r more →
      (x : Lexeme) × (less : Lexemes) × (turns ≡ x ∷ less) × NoLonger more less × (many_from h goes p turns (u ++ more) ≡ go_on (goes a) a (many_from h goes p less more) more)
  one_again a u r reads again [] more l s =
      let (t, x, e', b) = first n a u reads in
      let l' : NoLonger ((t ∷ x) ++ more) [] = subst (λ y. NoLonger (y ++ more) []) e' l in
      absurd l'
  one_again a u r reads again (x ∷ less) more l s =
      let b = starts_begins h u more (first n a u reads) in
      let g = again more s in
      (x, less, refl, shorter n a u more less x reads l, rw b (rw g refl))

  none_got : (ts : Lexemes) → starts h ts ≡ false → (xs : List A) (rest : Lexemes) → Got [] ts ≡ Got xs rest → Loop ts xs rest
  none_got ts e xs rest g =
      let same : [] ≡ xs = cc in
      let same' : ts ≡ rest = cc in
      record {
        u = [];
        whole = same';
        reads = subst (λ y. Turns goes (R n) y []) same refl;
        again = λ turns more l s. (none_again rest (ap (starts h) (sym same') ∙ e) turns more s ∙ ap (λ y. Got y more) same);
        level = λ y. refl;
      }

  one_got : (ts : Lexemes) (a : A) (r : Lexemes) → Read A i i (R n) p ts a r → goes a ≡ true → (ys : List A) (r' : Lexemes) → Loop r ys r' → Loop ts (a ∷ ys) r'
  one_got ts a r one g ys r' more_of = record {
    u = one.u ++ more_of.u;
    whole = one.whole ∙ ap (λ y. one.u ++ y) more_of.whole ∙ sym (append_assoc one.u more_of.u r');
    reads = (one.u, more_of.u, refl, one.reads, subst (λ b. IfGoes b ys more_of.u (Turns goes (R n) ys more_of.u)) (sym g) more_of.reads);
    again = λ turns more l s. (
        let s' = subst (λ y. SameHead y (more_of.u ++ more)) (sym more_of.whole) (same_head more_of.u r' more s) in
        let l' = subst (λ y. NoLonger y turns) (append_assoc one.u more_of.u more) l in
        let (x, less, e, l'', f) = one_again a one.u r one.reads one.again turns (more_of.u ++ more) l' s' in
        let f' = more_of.again less more l'' s in
        rw append_assoc (f ∙ rw g (ap (map_res (λ xs. a ∷ xs)) f')));
    level = λ y. opened-append (y + i) one.u more_of.u ∙ ap (λ z. opened z more_of.u) (one.level y) ∙ more_of.level y;
  }

  last_got : (ts : Lexemes) (a : A) (r : Lexemes) → Read A i i (R n) p ts a r → goes a ≡ false → Loop ts (a ∷ []) r
  last_got ts a r one g = record {
    u = one.u;
    whole = one.whole;
    reads = (one.u, [], simp append-nil, one.reads, subst (λ b. IfGoes {A = A} b [] [] (Turns goes (R n) [] [])) (sym g) (refl, refl));
    again = λ turns more l s. (
        let (x, less, e, l'', f) = one_again a one.u r one.reads one.again turns more l s in
        f ∙ rw g refl);
    level = one.level;
  }

  module _ (turns : Lexemes) where
    abbrev tail_of : Reader A → A → Reader (List A)
    tail_of f a rest = go_on (goes a) a (many_from h goes f turns rest) rest

    module _ (ih : (ts : Lexemes) → NoLonger ts turns → (xs : List A) (rest : Lexemes) → many_from h goes p turns ts ≡ Got xs rest → Loop ts xs rest)
        (ts : Lexemes) (x : Lexeme) (l : NoLonger ts (x ∷ turns)) (xs : List A) (rest : Lexemes) where
      got_after : (a : A) (r : Lexemes) (b : Bool) → goes a ≡ b → (y : Res (List A)) → p ts ≡ Got a r → many_from h goes p turns r ≡ y → go_on b a y r ≡ Got xs rest → Loop ts xs rest
      got_after a r true b (Got ys r') e e' g =
          let g' : Got (a ∷ ys) r' ≡ Got xs rest = g in
          let same : a ∷ ys ≡ xs = cc in
          let same' : r' ≡ rest = cc in
          let one = P.got ts a r e in
          let l' = shorter n a one.u r turns x one.reads (subst (λ y. NoLonger y (x ∷ turns)) one.whole l) in
          subst (λ y. Loop ts y rest) same (subst (λ y. Loop ts (a ∷ ys) y) same' (one_got ts a r one b ys r' (ih r l' ys r' e')))
      got_after a r true b (Stuck r') e e' g = absurd (cc)
      got_after a r true b Deep e e' g = absurd (cc)
      got_after a r false b y e e' g =
          let g' : Got (a ∷ []) r ≡ Got xs rest = g in
          let same : a ∷ [] ≡ xs = cc in
          let same' : r ≡ rest = cc in
          subst (λ y. Loop ts y rest) same (subst (λ y. Loop ts (a ∷ []) y) same' (last_got ts a r (P.got ts a r e) b))

      got_read : (y : Res A) → p ts ≡ y → and_then y (tail_of p) ≡ Got xs rest → Loop ts xs rest
      got_read (Got a r) e g = got_after a r (goes a) refl (many_from h goes p turns r) e refl g
      got_read (Stuck r) e g = absurd (cc)
      got_read Deep e g = absurd (cc)

      got_start : (b : Bool) → starts h ts ≡ b → cond b (and_then (p ts) (tail_of p)) (Got [] ts) ≡ Got xs rest → Loop ts xs rest
      got_start true e g = got_read (p ts) refl g
      got_start false e g = none_got ts e xs rest g

  many_got : (turns ts : Lexemes) → NoLonger ts turns → (xs : List A) (rest : Lexemes) → many_from h goes p turns ts ≡ Got xs rest → Loop ts xs rest
  many_got [] [] l xs rest g = none_got [] refl xs rest g
  many_got [] (t ∷ ts) l xs rest g = absurd l
  many_got (x ∷ turns) ts l xs rest g = got_start turns (many_got turns) ts x l xs rest (starts h ts) refl g

  -- ---- where it is stuck
  abbrev DeadFrom : Lexemes → Lexemes → Type 0
  DeadFrom u [] = Unit {0}
  DeadFrom u (t ∷ rest) = (turns more : Lexemes) → NoLonger (u ++ t ∷ more) turns → many_from h goes p turns (u ++ t ∷ more) ≡ Stuck (t ∷ more)

  record Halt (ts rest : Lexemes) : Type 0 where
    u : Lexemes
    whole : ts ≡ u ++ rest
    viable : Viable (Turns goes (R n)) u
    dead : DeadFrom u rest

  first_dead : (u rest : Lexemes) → starts h (u ++ rest) ≡ true → DeadAt p u rest → DeadFrom u rest
  first_dead u [] e dead = tt
  first_dead u (t ∷ rest) e dead = λ turns more l. go turns more l
    where
      long : (u : Lexemes) (t : Lexeme) (more : Lexemes) → NoLonger (u ++ t ∷ more) [] → ⊥
      long [] t more l = l
      long (x ∷ u) t more l = l

      go : (turns more : Lexemes) → NoLonger (u ++ t ∷ more) turns → many_from h goes p turns (u ++ t ∷ more) ≡ Stuck (t ∷ more)
      go [] more l = absurd (long u t more l)
      go (x ∷ turns) more l =
          let b = starts_same h u (t ∷ rest) (t ∷ more) refl ∙ e in
          let g = dead more in
          rw b (rw g refl)

  IfGoes-nil : (b : Bool) → IfGoes {A = A} b [] [] (Turns goes (R n) [] [])
  IfGoes-nil true = refl
  IfGoes-nil false = (refl, refl)

  first_halt : (ts rest : Lexemes) → starts h ts ≡ true → p ts ≡ Stuck rest → Halt ts rest
  first_halt ts rest e g =
      let b = P.stuck ts rest g in
      let (a, more, r) = b.viable in
      record { u = b.u; whole = b.whole; viable = (a ∷ [], more, (b.u ++ more, [], simp append-nil, r, IfGoes-nil (goes a))); dead = first_dead b.u rest (ap (starts h) (sym b.whole) ∙ e) b.dead }

  later_dead : (a : A) (u v r rest : Lexemes) → goes a ≡ true → R n a u → ((more : Lexemes) → SameHead r more → p (u ++ more) ≡ Got a more) → r ≡ v ++ rest → DeadFrom v rest → DeadFrom (u ++ v) rest
  later_dead a u v r [] goes_on reads again e dead = tt
  later_dead a u v r (t ∷ rest) goes_on reads again e dead = λ turns more l.
      let s' = subst (λ y. SameHead y (v ++ t ∷ more)) (sym e) (same_head v (t ∷ rest) (t ∷ more) refl) in
      let l' = subst (λ y. NoLonger y turns) (append_assoc u v (t ∷ more)) l in
      let (x, less, e', l'', g) = one_again a u r reads again turns (v ++ t ∷ more) l' s' in
      let g' = dead less more l'' in
      rw append_assoc (g ∙ rw goes_on (ap (map_res (λ xs. a ∷ xs)) g'))

  later_halt : (ts : Lexemes) (a : A) (r : Lexemes) → goes a ≡ true → Read A i i (R n) p ts a r → (rest : Lexemes) → Halt r rest → Halt ts rest
  later_halt ts a r goes_on one rest b =
      let (xs, more, reads) = b.viable in
      record {
        u = one.u ++ b.u;
        whole = one.whole ∙ ap (λ y. one.u ++ y) b.whole ∙ sym (append_assoc one.u b.u rest);
        viable = (a ∷ xs, more, (one.u, b.u ++ more, append_assoc one.u b.u more, one.reads, subst (λ y. IfGoes y xs (b.u ++ more) (Turns goes (R n) xs (b.u ++ more))) (sym goes_on) reads));
        dead = later_dead a one.u b.u r rest goes_on one.reads one.again b.whole b.dead;
      }

  module _ (turns : Lexemes) (ih : (ts : Lexemes) → NoLonger ts turns → (rest : Lexemes) → many_from h goes p turns ts ≡ Stuck rest → Halt ts rest)
      (ts : Lexemes) (x : Lexeme) (l : NoLonger ts (x ∷ turns)) (rest : Lexemes) where
    halt_after : (a : A) (r : Lexemes) (b : Bool) → goes a ≡ b → (y : Res (List A)) → p ts ≡ Got a r → many_from h goes p turns r ≡ y → go_on b a y r ≡ Stuck rest → Halt ts rest
    halt_after a r true b (Got ys r') e e' g = absurd (cc)
    halt_after a r true b (Stuck r') e e' g =
        let g' : ◌≡◌ {A = Res (List A)} (Stuck r') (Stuck rest) = g in
        let one = P.got ts a r e in
        let l' = shorter n a one.u r turns x one.reads (subst (λ y. NoLonger y (x ∷ turns)) one.whole l) in
        later_halt ts a r b one rest (ih r l' rest (e' ∙ g'))
    halt_after a r true b Deep e e' g = absurd (cc)
    halt_after a r false b y e e' g = absurd (cc)

    halt_read : (y : Res A) → p ts ≡ y → starts h ts ≡ true → and_then y (tail_of turns p) ≡ Stuck rest → Halt ts rest
    halt_read (Got a r) e b g = halt_after a r (goes a) refl (many_from h goes p turns r) e refl g
    halt_read (Stuck r) e b g =
        let g' : ◌≡◌ {A = Res (List A)} (Stuck r) (Stuck rest) = g in
        let same : r ≡ rest = cc in
        first_halt ts rest b (e ∙ ap (λ y. Stuck y) same)
    halt_read Deep e b g = absurd (cc)

    halt_start : (b : Bool) → starts h ts ≡ b → cond b (and_then (p ts) (tail_of turns p)) (Got [] ts) ≡ Stuck rest → Halt ts rest
    halt_start true e g = halt_read (p ts) refl e g
    halt_start false e g = absurd (cc)

  many_stuck : (turns ts : Lexemes) → NoLonger ts turns → (rest : Lexemes) → many_from h goes p turns ts ≡ Stuck rest → Halt ts rest
  many_stuck [] ts l rest g = absurd (cc)
  many_stuck (x ∷ turns) ts l rest g = halt_start turns (many_stuck turns) ts x l rest (starts h ts) refl g

  -- ---- where it gives up
  module _ (turns : Lexemes) (ih : (ts : Lexemes) → many_from h goes p turns ts ≡ Deep → Opens k i ts) (ts : Lexemes) where
    deep_after : (a : A) (r : Lexemes) (b : Bool) (y : Res (List A)) → p ts ≡ Got a r → many_from h goes p turns r ≡ y → go_on b a y r ≡ Deep → Opens k i ts
    deep_after a r true (Got ys r') e e' g = absurd (cc)
    deep_after a r true (Stuck r') e e' g = absurd (cc)
    deep_after a r true Deep e e' g =
        let one = P.got ts a r e in
        let o = ih r e' in
        record {
          u = one.u ++ o.u;
          rest = o.rest;
          whole = one.whole ∙ ap (λ y. one.u ++ y) o.whole ∙ sym (append_assoc one.u o.u o.rest);
          deep = λ m. opened-append (m + i) one.u o.u ∙ ap (λ y. opened y o.u) (one.level m) ∙ o.deep m;
        }
    deep_after a r false y e e' g = absurd (cc)

    deep_read : (y : Res A) → p ts ≡ y → and_then y (tail_of turns p) ≡ Deep → Opens k i ts
    deep_read (Got a r) e g = deep_after a r (goes a) (many_from h goes p turns r) e refl g
    deep_read (Stuck r) e g = absurd (cc)
    deep_read Deep e g = P.deep ts e

    deep_start : (b : Bool) → cond b (and_then (p ts) (tail_of turns p)) (Got [] ts) ≡ Deep → Opens k i ts
    deep_start true g = deep_read (p ts) refl g
    deep_start false g = absurd (cc)

  many_deep : (turns ts : Lexemes) → many_from h goes p turns ts ≡ Deep → Opens k i ts
  many_deep [] ts g = absurd (cc)
  many_deep (x ∷ turns) ts g = deep_start turns (many_deep turns) ts (starts h ts) g

  many_dead : (u rest : Lexemes) → DeadFrom u rest → DeadAt (many h goes p) u rest
  many_dead u [] dead = tt
  many_dead u (t ∷ rest) dead = λ more. dead (u ++ t ∷ more) more (NoLonger-refl (u ++ t ∷ more))

  pub turns_lawful : Lawful (List A) k n i i (λ xs. d) (λ m. Turns goes (R m)) (many h goes p)
  turns_lawful = record {
    got = λ ts xs rest g. (let l = many_got ts ts (NoLonger-refl ts) xs rest g in record {
      u = l.u;
      whole = l.whole;
      reads = l.reads;
      again = λ more s. l.again (l.u ++ more) more (NoLonger-refl (l.u ++ more)) s;
      level = l.level;
    });
    all = λ m xs w rest r s. many_all m (w ++ rest) xs w rest (NoLonger-refl (w ++ rest)) r s;
    stuck = λ ts rest g. (let b = many_stuck ts ts (NoLonger-refl ts) rest g in record {
      u = b.u;
      whole = b.whole;
      viable = b.viable;
      dead = many_dead b.u rest b.dead;
    });
    deep = λ ts g. many_deep ts ts g;
    inhabited = ([], [], refl);
  }
