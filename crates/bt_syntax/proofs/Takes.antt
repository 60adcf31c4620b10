-- How many tokens readers take.
use Rattle.std.proofs.Common.{◌≡◌, ◌≤◌, ◌<◌, Bool, true, false, cond, List, [], ◌∷◌, Option, Some, None, length, refl, ap, ◌∙◌, arith}
use Rattle.bt_syntax.specs.Lexemes.{Lexeme, Lexemes}
use Rattle.bt_syntax.specs.Reading.{Res, Got, Stuck, Deep, Reader, and_then, seq, mapped, pure, token, token_as, starts, branch, many, many_from, map_res, go_on}

-- each value is read from one token or more
pub record Takes (A : Type 0) (f : Reader A) : Type 0 where
  pub less : (ts : Lexemes) (a : A) (rest : Lexemes) → f ts ≡ Got a rest → length rest < length ts

-- what is left is no longer than what there was
pub record Keeps (A : Type 0) (f : Reader A) : Type 0 where
  pub most : (ts : Lexemes) (a : A) (rest : Lexemes) → f ts ≡ Got a rest → length rest ≤ length ts

pub takes_keeps : {A : Type 0} {f : Reader A} → Takes A f → Keeps A f
takes_keeps t = record { most = λ ts a rest e. (let h = t.less ts a rest e in omega arith) }

pub pure_keeps : {A : Type 0} (a : A) → Keeps A (pure a)
pure_keeps {A} a = record { most = λ ts b rest e. go ts b rest e }
  where
    go : (ts : Lexemes) (b : A) (rest : Lexemes) → pure a ts ≡ Got b rest → length rest ≤ length ts
    go ts b rest e =
        let e' : Got a ts ≡ Got b rest = e in
        let same : ts ≡ rest = cc in
        omega (arith, ap length same)

pub token_takes : {A : Type 0} (m : Lexeme → Option A) → Takes A (token m)
token_takes {A} m = record { less = go }
  where
    pick : (o : Option A) (t : Lexeme) (ts : Lexemes) (a : A) (rest : Lexemes) → token_as o t ts ≡ Got a rest → length rest < length (t ∷ ts)
    pick None t ts a rest e = absurd (cc)
    pick (Some b) t ts a rest e =
        let e' : Got b ts ≡ Got a rest = e in
        let same : ts ≡ rest = cc in
        omega (arith, ap length same)

    go : (ts : Lexemes) (a : A) (rest : Lexemes) → token m ts ≡ Got a rest → length rest < length ts
    go [] a rest e = absurd (cc)
    go (t ∷ ts) a rest e = pick (m t) t ts a rest e

module _ {A B : Type 0} {p : Reader A} {q : A → Reader B} where
  seq_takes_from : Takes A p → ((a : A) → Keeps B (q a)) → (ts : Lexemes) (b : B) (rest : Lexemes) (y : Res A) → p ts ≡ y → and_then y q ≡ Got b rest → length rest < length ts
  seq_takes_from P Q ts b rest (Got a r) e g = let h = P.less ts a r e in let h' = (Q a).most r b rest g in omega arith
  seq_takes_from P Q ts b rest (Stuck r) e g = absurd (cc)
  seq_takes_from P Q ts b rest Deep e g = absurd (cc)

  pub seq_takes : Takes A p → ((a : A) → Keeps B (q a)) → Takes B (seq p q)
  seq_takes P Q = record { less = λ ts b rest g. seq_takes_from P Q ts b rest (p ts) refl g }

  seq_keeps_from : Keeps A p → ((a : A) → Keeps B (q a)) → (ts : Lexemes) (b : B) (rest : Lexemes) (y : Res A) → p ts ≡ y → and_then y q ≡ Got b rest → length rest ≤ length ts
  seq_keeps_from P Q ts b rest (Got a r) e g = let h = P.most ts a r e in let h' = (Q a).most r b rest g in omega arith
  seq_keeps_from P Q ts b rest (Stuck r) e g = absurd (cc)
  seq_keeps_from P Q ts b rest Deep e g = absurd (cc)

  pub seq_keeps : Keeps A p → ((a : A) → Keeps B (q a)) → Keeps B (seq p q)
  seq_keeps P Q = record { most = λ ts b rest g. seq_keeps_from P Q ts b rest (p ts) refl g }

map_left : {A B : Type 0} (f : A → B) (p : Reader A) (ts : Lexemes) (b : B) (rest : Lexemes) (y : Res A) → p ts ≡ y → map_res f y ≡ Got b rest → (a : A) × (p ts ≡ Got a rest)
map_left f p ts b rest (Got a r) e g =
    let g' : Got (f a) r ≡ Got b rest = g in
    let same : r ≡ rest = cc in
    (a, e ∙ ap (λ z. Got a z) same)
map_left f p ts b rest (Stuck r) e g = absurd (cc)
map_left f p ts b rest Deep e g = absurd (cc)

module _ {A B : Type 0} (f : A → B) {p : Reader A} where
  pub map_takes : Takes A p → Takes B (mapped f p)
  map_takes P = record { less = λ ts b rest g. (let (a, e) = map_left f p ts b rest (p ts) refl g in P.less ts a rest e) }

  pub map_keeps : Keeps A p → Keeps B (mapped f p)
  map_keeps P = record { most = λ ts b rest g. (let (a, e) = map_left f p ts b rest (p ts) refl g in P.most ts a rest e) }

module _ {A : Type 0} (h : Lexeme → Bool) {p q : Reader A} where
  branch_takes_from : Takes A p → Takes A q → (ts : Lexemes) (a : A) (rest : Lexemes) (b : Bool) → cond b (p ts) (q ts) ≡ Got a rest → length rest < length ts
  branch_takes_from P Q ts a rest true g = P.less ts a rest g
  branch_takes_from P Q ts a rest false g = Q.less ts a rest g

  pub branch_takes : Takes A p → Takes A q → Takes A (branch h p q)
  branch_takes P Q = record { less = λ ts a rest g. branch_takes_from P Q ts a rest (starts h ts) g }

  branch_keeps_from : Keeps A p → Keeps A q → (ts : Lexemes) (a : A) (rest : Lexemes) (b : Bool) → cond b (p ts) (q ts) ≡ Got a rest → length rest ≤ length ts
  branch_keeps_from P Q ts a rest true g = P.most ts a rest g
  branch_keeps_from P Q ts a rest false g = Q.most ts a rest g

  pub branch_keeps : Keeps A p → Keeps A q → Keeps A (branch h p q)
  branch_keeps P Q = record { most = λ ts a rest g. branch_keeps_from P Q ts a rest (starts h ts) g }

module _ {A : Type 0} (h : Lexeme → Bool) (goes : A → Bool) {p : Reader A} where
  module _ (P : Keeps A p) (turns : Lexemes) (ih : Keeps (List A) (many_from h goes p turns)) where
    after_turn : (ts : Lexemes) (a : A) (r : Lexemes) (xs : List A) (rest : Lexemes) (b : Bool) → p ts ≡ Got a r → go_on b a (many_from h goes p turns r) r ≡ Got xs rest → length rest ≤ length ts
    after_turn ts a r xs rest true e g =
        let (ys, e') = map_left (λ ys. a ∷ ys) (many_from h goes p turns) r xs rest (many_from h goes p turns r) refl g in
        let below = ih.most r ys rest e' in
        let here = P.most ts a r e in
        omega arith
    after_turn ts a r xs rest false e g =
        let g' : Got (a ∷ []) r ≡ Got xs rest = g in
        let same : r ≡ rest = cc in
        let here = P.most ts a r e in
        omega (arith, ap length same)

    in_turn : (ts : Lexemes) (xs : List A) (rest : Lexemes) (y : Res A) → p ts ≡ y → and_then y (λ a r. go_on (goes a) a (many_from h goes p turns r) r) ≡ Got xs rest → length rest ≤ length ts
    in_turn ts xs rest (Got a r) e g = after_turn ts a r xs rest (goes a) e g
    in_turn ts xs rest (Stuck r) e g = absurd (cc)
    in_turn ts xs rest Deep e g = absurd (cc)

    at_turn : (ts : Lexemes) (xs : List A) (rest : Lexemes) (b : Bool) → cond b (and_then (p ts) (λ a r. go_on (goes a) a (many_from h goes p turns r) r)) (Got [] ts) ≡ Got xs rest → length rest ≤ length ts
    at_turn ts xs rest true g = in_turn ts xs rest (p ts) refl g
    at_turn ts xs rest false g =
        let g' : Got [] ts ≡ Got xs rest = g in
        let same : ts ≡ rest = cc in
        omega (arith, ap length same)

  many_from_keeps : Keeps A p → (turns : Lexemes) → Keeps (List A) (many_from h goes p turns)
  many_from_keeps P [] = pure_keeps []
  many_from_keeps P (t ∷ turns) = record { most = λ ts xs rest g. at_turn P turns (many_from_keeps P turns) ts xs rest (starts h ts) g }

  pub many_keeps : Keeps A p → Keeps (List A) (many h goes p)
  many_keeps P = record { most = λ ts xs rest g. (many_from_keeps P ts).most ts xs rest g }
