-- A text is read in some way.
use Rattle.std.proofs.Common.{◌≡◌, ℕ, zero, suc, ◌+◌, ◌≤◌, ◌<◌, Bool, true, false, List, [], ◌∷◌, ◌++◌, length, refl, sym, subst, ap, ◌∙◌, ◌⊎◌, inl, inr, arith, Option, Some, None, Result, Ok, Err, nat_eq, if◌then◌else◌, length-append}
use Rattle.std.specs.List.{list_all}
use Rattle.bt_lexer.specs.declared.token.Kind.{Kind}
use Rattle.bt_lexer.specs.declared.token.Kind.TheVariants.{Text}
use Rattle.bt_lexer.specs.declared.token.Token.{Token}
use Rattle.bt_lexer.specs.declared.token.LexFault.{LexFault}
use Rattle.bt_lexer.specs.declared.token.LexFault.TheVariants.{Char, Number}
use Rattle.bt_lexer.specs.declared.token.LexFault.TheVariants as faults
use Rattle.bt_lexer.specs.Bytes.{quote, is_blank, is_in_line, begins}
use Rattle.bt_lexer.specs.Strings.{begins_tripled, is_tripled}
use Rattle.bt_lexer.specs.Kinds.{kind_of}
use Rattle.bt_lexer.specs.Tokens.{IsToken, NoToken, IsGap, blank, comment, NoGap, is_dot, is_bad, before, Reads, at_end, gap, token, bad_number, bad_text, bad_char}
use Rattle.bt_lexer.specs.Lines.{HasTokens, HasFault, hardened}
use Rattle.bt_lexer.proofs.KindLemmas.{kind-tripled, kind-empty, nat_eq_same, and_left}

-- the longest front that f has a kind for, if one has
pub record Longest (f : List ℕ → Option Kind) (s : List ℕ) : Type 0 where
  pub kind : Kind
  pub u : List ℕ
  pub rest : List ℕ
  pub whole : s ≡ u ++ rest
  pub has : f u ≡ Some kind
  pub longest : (c : ℕ) (v w : List ℕ) → rest ≡ c ∷ (v ++ w) → f (u ++ c ∷ v) ≡ None

abbrev pub Nowhere : (List ℕ → Option Kind) → List ℕ → Type 0
Nowhere f s = (u rest : List ℕ) → s ≡ u ++ rest → f u ≡ None

alone : (f : List ℕ → Option Kind) (s : List ℕ) (o : Option Kind) → f [] ≡ o → ((c : ℕ) (v w : List ℕ) → s ≡ c ∷ (v ++ w) → f (c ∷ v) ≡ None) → Longest f s ⊎ Nowhere f s
alone f s (Some k) e none = inl (record { kind = k; u = []; rest = s; whole = refl; has = e; longest = none })
alone f s None e none = inr (all s none)
  where
    all : (s : List ℕ) → ((c : ℕ) (v w : List ℕ) → s ≡ c ∷ (v ++ w) → f (c ∷ v) ≡ None) → (u rest : List ℕ) → s ≡ u ++ rest → f u ≡ None
    all s none [] rest h = e
    all s none (c ∷ u) rest h = none c u rest h

longest_of : (f : List ℕ → Option Kind) (s : List ℕ) → Longest f s ⊎ Nowhere f s
longest_of f [] = alone f [] (f []) refl (λ c v w h. cc)
longest_of f (c ∷ s) = step (longest_of (λ u. f (c ∷ u)) s)
  where
    step : Longest (λ u. f (c ∷ u)) s ⊎ Nowhere (λ u. f (c ∷ u)) s → Longest f (c ∷ s) ⊎ Nowhere f (c ∷ s)
    step (inl x) = inl (record { kind = x.kind; u = c ∷ x.u; rest = x.rest; whole = ap (λ y. c ∷ y) x.whole; has = x.has; longest = x.longest })
    step (inr none) = alone f (c ∷ s) (f []) refl (λ d v w h. let same : c ≡ d = cc in subst (λ y. f (y ∷ v) ≡ None) same (none v w cc))

pub record TokenAt (s : List ℕ) : Type 0 where
  pub kind : Kind
  pub u : List ℕ
  pub rest : List ℕ
  pub whole : s ≡ u ++ rest
  pub is : IsToken kind u rest

abbrev some_kind : Kind → Option Kind
some_kind k = Some k

abbrev tripled_kind : List ℕ → Option Kind
tripled_kind u = if is_tripled u then Some Text else None

is_some_tripled : (b : Bool) (k : Kind) → (if b then Some Text else None) ≡ Some k → b ≡ true
is_some_tripled true k h = refl
is_some_tripled false k h = absurd (cc)

-- three quotation marks at the front of a front are at the front
more_tripled : (u v : List ℕ) → begins_tripled u ≡ true → begins_tripled (u ++ v) ≡ true
more_tripled [] v h = absurd (cc)
more_tripled (a ∷ []) v h = absurd (cc)
more_tripled (a ∷ b ∷ []) v h = absurd (cc)
more_tripled (a ∷ b ∷ c ∷ u) v h = h

tripled_begins : (u : List ℕ) → is_tripled u ≡ true → begins_tripled u ≡ true
tripled_begins u h = and_left _ _ h

token_or_none : (s : List ℕ) → TokenAt s ⊎ NoToken s
token_or_none s = go (begins_tripled s) refl
  where
    plain : begins_tripled s ≡ false → Longest kind_of s ⊎ Nowhere kind_of s → TokenAt s ⊎ NoToken s
    plain h (inl x) = inl (record {
      kind = x.kind;
      u = x.u;
      rest = x.rest;
      whole = x.whole;
      is = record { has = x.has; longest = x.longest; tripled = λ t. (let y : begins_tripled (x.u ++ x.rest) ≡ false = subst (λ y. begins_tripled y ≡ false) x.whole h in let z : true ≡ false = sym t ∙ y in cc) };
    })
    plain h (inr none) = inr (λ k u rest e w. let x : None ≡ some_kind k = sym (none u rest e) ∙ w.has in cc)

    tripled : begins_tripled s ≡ true → Longest tripled_kind s ⊎ Nowhere tripled_kind s → TokenAt s ⊎ NoToken s
    tripled h (inl x) =
        let is : is_tripled x.u ≡ true = is_some_tripled (is_tripled x.u) x.kind x.has in
        let front : begins_tripled x.u ≡ true = tripled_begins x.u is in
        inl (record {
          kind = x.kind;
          u = x.u;
          rest = x.rest;
          whole = x.whole;
          is = record { has = kind-tripled x.u front ∙ x.has; longest = λ c v w e. kind-tripled (x.u ++ c ∷ v) (more_tripled x.u (c ∷ v) front) ∙ x.longest c v w e; tripled = λ t. is };
        })
    tripled h (inr none) = inr (λ k u rest e w.
        let is : is_tripled u ≡ true = w.tripled (subst (λ y. begins_tripled y ≡ true) e h) in
        let n : tripled_kind u ≡ None = none u rest e in
        let m : tripled_kind u ≡ Some Text = rw is refl in
        let x : None ≡ some_kind Text = sym n ∙ m in cc)

    go : (b : Bool) → begins_tripled s ≡ b → TokenAt s ⊎ NoToken s
    go true h = tripled h (longest_of tripled_kind s)
    go false h = plain h (longest_of kind_of s)

pub record Line (v : List ℕ) : Type 0 where
  pub u : List ℕ
  pub rest : List ℕ
  pub whole : v ≡ u ++ rest
  pub inside : list_all is_in_line u ≡ true
  pub ends : begins is_in_line rest ≡ false

line_of : (v : List ℕ) → Line v
line_of [] = record { u = []; rest = []; whole = refl; inside = refl; ends = refl }
line_of (c ∷ v) = go (is_in_line c) refl (line_of v)
  where
    go : (b : Bool) → is_in_line c ≡ b → Line v → Line (c ∷ v)
    go true h l = record { u = c ∷ l.u; rest = l.rest; whole = ap (λ y. c ∷ y) l.whole; inside = rw h l.inside; ends = l.ends }
    go false h l = record { u = []; rest = c ∷ v; whole = refl; inside = refl; ends = h }

pub record GapAt (s : List ℕ) : Type 0 where
  pub u : List ℕ
  pub rest : List ℕ
  pub whole : s ≡ u ++ rest
  pub is : IsGap u rest

pub no_gap_here : (c : ℕ) (v : List ℕ) → is_blank c ≡ false → nat_eq c 35 ≡ false → NoGap (c ∷ v)
no_gap_here c v b h _ _ e (blank {rest} d x) = let same : c ≡ d = cc in let y : true ≡ false = sym x ∙ subst (λ y. is_blank y ≡ false) same b in cc
no_gap_here c v b h _ _ e (comment {u} {rest} x y) = let same : c ≡ 35 = cc in let z : nat_eq 35 35 ≡ false = subst (λ y. nat_eq y 35 ≡ false) same h in cc

gap_or_none : (s : List ℕ) → GapAt s ⊎ NoGap s
gap_or_none [] = inr (λ u rest e g. none u rest e g)
  where
    none : (u rest : List ℕ) → [] ≡ u ++ rest → IsGap u rest → ⊥
    none _ _ e (blank {rest} c h) = cc
    none _ _ e (comment {u} {rest} h ends) = cc
gap_or_none (c ∷ v) = go (is_blank c) refl (nat_eq c 35) refl
  where
    go : (b : Bool) → is_blank c ≡ b → (d : Bool) → nat_eq c 35 ≡ d → GapAt (c ∷ v) ⊎ NoGap (c ∷ v)
    go true h d k = inl (record { u = c ∷ []; rest = v; whole = refl; is = blank c h })
    go false h true k = let l = line_of v in inl (record { u = 35 ∷ l.u; rest = l.rest; whole = ap (λ y. y ∷ v) (nat_eq_same c 35 k) ∙ ap (λ y. 35 ∷ y) l.whole; is = comment l.inside l.ends })
    go false h false k = inr (no_gap_here c v h k)

pub record Read (at : ℕ) (dot : Bool) (s : List ℕ) : Type 0 where
  pub outcome : Result (List Token) LexFault
  pub reads : Reads at dot s outcome

gap_is_some : (u rest : List ℕ) → IsGap u rest → 0 < length u
gap_is_some _ _ (blank {rest} c h) = omega arith
gap_is_some _ _ (comment {u} {rest} h ends) = omega arith

pub token_is_some : (k : Kind) (u rest : List ℕ) → IsToken k u rest → 0 < length u
token_is_some k [] rest w = let x : None ≡ some_kind k = sym kind-empty ∙ w.has in absurd (cc)
token_is_some k (c ∷ u) rest w = omega arith

shorter : (n : ℕ) (s u rest : List ℕ) → length s ≤ suc n → s ≡ u ++ rest → 0 < length u → length rest ≤ n
shorter n s u rest h e some = omega (arith, ap length e, length-append u rest)

-- where no gap begins
module _ (at : ℕ) (dot : Bool) where
  no_token_read : (c : ℕ) (v : List ℕ) → NoGap (c ∷ v) → NoToken (c ∷ v) → (b : Bool) → nat_eq c quote ≡ b → Read at dot (c ∷ v)
  no_token_read c v no_gap none true h = record { outcome = Err (faults.Text at); reads = bad_text v (ap (λ y. y ∷ v) (nat_eq_same c quote h)) none }
  no_token_read c v no_gap none false h = record { outcome = Err (Char at); reads = bad_char c v refl none no_gap (λ e. let x : nat_eq quote quote ≡ false = subst (λ y. nat_eq y quote ≡ false) e h in cc) }

  token_read : (s : List ℕ) (t : TokenAt s) → ((dot : Bool) → Read (at + length t.u) dot t.rest) → (b : Bool) → is_bad t.kind dot t.u t.rest ≡ b → Read at dot s
  token_read s t more true h = record { outcome = Err (Number at); reads = bad_number t.kind t.u t.rest t.whole t.is h }
  token_read s t more false h = let m = more (is_dot t.kind) in record { outcome = before (record { kind = t.kind; from = at; to = at + length t.u }) m.outcome; reads = token t.kind t.u t.rest t.whole t.is h m.reads }

read_within : (n : ℕ) (at : ℕ) (dot : Bool) (s : List ℕ) → length s ≤ n → Read at dot s
read_within n at dot [] h = record { outcome = Ok []; reads = at_end }
read_within zero at dot (c ∷ v) h = absurd (omega arith)
read_within (suc n) at dot (c ∷ v) h = by_gap (gap_or_none (c ∷ v)) (λ at dot rest l. read_within n at dot rest l)
  where
    by_token : NoGap (c ∷ v) → TokenAt (c ∷ v) ⊎ NoToken (c ∷ v) → ((at : ℕ) (dot : Bool) (rest : List ℕ) → length rest ≤ n → Read at dot rest) → Read at dot (c ∷ v)
    by_token no_gap (inl t) ih = token_read at dot (c ∷ v) t (λ dot. ih (at + length t.u) dot t.rest (shorter n (c ∷ v) t.u t.rest h t.whole (token_is_some t.kind t.u t.rest t.is))) (is_bad t.kind dot t.u t.rest) refl
    by_token no_gap (inr none) ih = no_token_read at dot c v no_gap none (nat_eq c quote) refl

    by_gap : GapAt (c ∷ v) ⊎ NoGap (c ∷ v) → ((at : ℕ) (dot : Bool) (rest : List ℕ) → length rest ≤ n → Read at dot rest) → Read at dot (c ∷ v)
    by_gap (inl g) ih = let m = ih (at + length g.u) false g.rest (shorter n (c ∷ v) g.u g.rest h g.whole (gap_is_some g.u g.rest g.is)) in record { outcome = m.outcome; reads = gap g.u g.rest g.whole g.is m.reads }
    by_gap (inr no_gap) ih = by_token no_gap (token_or_none (c ∷ v)) ih

pub never_neither : (s : List ℕ) → ((ts : List Token) × HasTokens s ts) ⊎ ((f : LexFault) × HasFault s f)
never_neither s = let r = read_within (length s) 0 false s (omega arith) in go r.outcome r.reads
  where
    go : (r : Result (List Token) LexFault) → Reads 0 false s r → ((ts : List Token) × HasTokens s ts) ⊎ ((f : LexFault) × HasFault s f)
    go (Ok all) h = inl (hardened s None all, record { all = all; reads = h; hard = refl })
    go (Err f) h = inr (f, h)
