-- The loops of the code, turn by turn.
use Rattle.std.proofs.Common.{◌≡◌, ℕ, suc, ◌≤◌, ◌<◌, ◌-◌, Bool, true, false, cond, List, [], ◌∷◌, ◌++◌, length, Err, refl, sym, ap, ◌∙◌, append_assoc, append-nil, arith}
use Rattle.bt_lexer.specs.declared.token.Kind.{Kind}
use Rattle.bt_lexer.specs.declared.token.Kind.TheVariants as k
use Rattle.bt_syntax.specs.declared.stop.Stop.{Stop}
use Rattle.bt_syntax.specs.declared.stop.Stop.TheVariants as stop
use Rattle.bt_syntax.specs.Lexemes.{Lexeme, Lexemes}
use Rattle.bt_syntax.specs.Reading.{Res, Got, Stuck, Deep, Reader, and_then, starts, many, many_from, map_res, go_on}
use Rattle.bt_syntax.specs.Readers.{is, is_not, expect, element, followed, firsts, listed}
use Rattle.bt_syntax.specs.Code.{Reads}
use Rattle.bt_syntax.proofs.Takes.{Takes, takes_keeps, pure_keeps, token_takes, seq_takes, map_keeps, branch_keeps}

-- what stands in front of what the turns give that are still to come
abbrev pub in_front : {A : Type 0} → List A → Res (List A) → Res (List A)
in_front xs y = map_res (λ ys. xs ++ ys) y

in_front_go : (A : Type 0) (xs : List A) (a : A) (y : Res (List A)) → in_front xs (map_res (λ ys. a ∷ ys) y) ≡ in_front (xs ++ a ∷ []) y
in_front_go A xs a (Got ys r) = ap (λ z. Got z r) (sym (append_assoc xs (a ∷ []) ys))
in_front_go A xs a (Stuck r) = refl
in_front_go A xs a Deep = refl

module _ {A : Type 0} (h : Lexeme → Bool) (goes : A → Bool) (p : Reader A) (takes : Takes A p) where
  module _ (us vs : Lexemes) (ih : (ts : Lexemes) → length ts ≤ length us → length ts ≤ length vs → many_from h goes p us ts ≡ many_from h goes p vs ts) (ts : Lexemes) (n : length ts ≤ suc (length us)) (n' : length ts ≤ suc (length vs)) where
    same_read : (y : Res A) → p ts ≡ y → and_then y (λ a rest. go_on (goes a) a (many_from h goes p us rest) rest) ≡ and_then y (λ a rest. go_on (goes a) a (many_from h goes p vs rest) rest)
    same_read (Got a r) e = let l = takes.less ts a r e in ap (λ w. go_on (goes a) a w r) (ih r (omega arith) (omega arith))
    same_read (Stuck r) e = refl
    same_read Deep e = refl

    same_start : (b : Bool) → cond b (and_then (p ts) (λ a rest. go_on (goes a) a (many_from h goes p us rest) rest)) (Got [] ts)
        ≡ cond b (and_then (p ts) (λ a rest. go_on (goes a) a (many_from h goes p vs rest) rest)) (Got [] ts)
    same_start true = same_read (p ts) refl
    same_start false = refl

  -- whatever list bounds the turns, if it is long enough
  same_turns : (us vs ts : Lexemes) → length ts ≤ length us → length ts ≤ length vs → many_from h goes p us ts ≡ many_from h goes p vs ts
  same_turns [] [] ts n n' = refl
  same_turns [] (v ∷ vs) [] n n' = refl
  same_turns [] (v ∷ vs) (t ∷ ts) n n' = absurd (omega arith)
  same_turns (u ∷ us) [] [] n n' = refl
  same_turns (u ∷ us) [] (t ∷ ts) n n' = absurd (omega arith)
  same_turns (u ∷ us) (v ∷ vs) ts n n' = same_start us vs (same_turns us vs) ts n n' (starts h ts)

  -- a turn and those after it
  pub many_turn : (ts : Lexemes) → many h goes p ts ≡ cond (starts h ts) (and_then (p ts) (λ a rest. go_on (goes a) a (many h goes p rest) rest)) (Got [] ts)
  many_turn [] = refl
  many_turn (t ∷ ts) = go (starts h (t ∷ ts))
    where
      read : (y : Res A) → p (t ∷ ts) ≡ y → and_then y (λ a rest. go_on (goes a) a (many_from h goes p ts rest) rest) ≡ and_then y (λ a rest. go_on (goes a) a (many h goes p rest) rest)
      read (Got a r) e = let l = takes.less (t ∷ ts) a r e in ap (λ w. go_on (goes a) a w r) (same_turns ts r r (omega arith) (omega arith))
      read (Stuck r) e = refl
      read Deep e = refl

      go : (b : Bool) → cond b (and_then (p (t ∷ ts)) (λ a rest. go_on (goes a) a (many_from h goes p ts rest) rest)) (Got [] (t ∷ ts)) ≡ cond b (and_then (p (t ∷ ts)) (λ a rest. go_on (goes a) a (many h goes p rest) rest)) (Got [] (t ∷ ts))
      go true = read (p (t ∷ ts)) refl
      go false = refl

  pub loop_end : (xs : List A) (ts : Lexemes) (whole : Res (List A)) → in_front xs (many h goes p ts) ≡ whole → starts h ts ≡ false → whole ≡ Got xs ts
  loop_end xs ts whole inv e = sym inv ∙ ap (in_front xs) (many_turn ts) ∙ rw e (ap (λ z. Got z ts) (simp append-nil))

  pub loop_go : (xs : List A) (ts r : Lexemes) (a : A) (whole : Res (List A)) → in_front xs (many h goes p ts) ≡ whole → starts h ts ≡ true → p ts ≡ Got a r → goes a ≡ true → in_front (xs ++ a ∷ []) (many h goes p r) ≡ whole
  loop_go xs ts r a whole inv e g b = sym (ap (in_front xs) (many_turn ts ∙ rw e (rw g (rw b refl))) ∙ in_front_go A xs a (many h goes p r)) ∙ inv

  -- a turn that fails ends the loop with its answer
  pub loop_err : (xs : List A) (ts r : Lexemes) (whole : Res (List A)) (e : Stop) → in_front xs (many h goes p ts) ≡ whole → starts h ts ≡ true → Reads (p ts) (Err e) r → Reads whole (Err e) r
  loop_err xs ts r whole stop.Stuck inv s e = sym inv ∙ ap (in_front xs) (many_turn ts) ∙ rw s (rw e refl)
  loop_err xs ts r whole stop.Deep inv s e = sym inv ∙ ap (in_front xs) (many_turn ts) ∙ rw s (rw e refl)
  loop_err xs ts r whole stop.NoMemory inv s e = tt

-- ---- a loop over elements with commas between them

pub expect_takes : (kind : Kind) → Takes Lexeme (expect kind)
unfolding expect
expect_takes kind = token_takes _

pub element_takes : {A : Type 0} {p : Reader A} → Takes A p → Takes (A × Bool) (element p)
element_takes P = seq_takes P (λ x. branch_keeps (is k.Comma) (map_keeps (λ _. (x, true)) (takes_keeps (expect_takes k.Comma))) (pure_keeps (x, false)))

firsts_more : {A : Type 0} (a : A × Bool) (y : Res (List (A × Bool))) → map_res firsts (map_res (λ xs. a ∷ xs) y) ≡ map_res (λ xs. a.0 ∷ xs) (map_res firsts y)
firsts_more a (Got ys r) = refl
firsts_more a (Stuck r) = refl
firsts_more a Deep = refl

module _ {A : Type 0} (closing : Kind) (p : Reader A) (takes : Takes A p) where
  listed_turn : (ts : Lexemes) → listed closing p ts
      ≡ map_res firsts (cond (starts (is_not closing) ts) (and_then (element p ts) (λ a rest. go_on (followed a) a (many (is_not closing) followed (element p) rest) rest)) (Got [] ts))
  listed_turn ts = ap (map_res firsts) (many_turn (is_not closing) followed (element p) (element_takes takes) ts)

  pub listed_end : (xs : List A) (ts : Lexemes) (whole : Res (List A)) → in_front xs (listed closing p ts) ≡ whole → starts (is_not closing) ts ≡ false → whole ≡ Got xs ts
  listed_end xs ts whole inv e = sym inv ∙ ap (in_front xs) (listed_turn ts) ∙ rw e (ap (λ z. Got z ts) (simp append-nil))

  -- an element and its comma
  pub listed_go : (xs : List A) (ts r r' : Lexemes) (a : A) (t : Lexeme) (whole : Res (List A)) → in_front xs (listed closing p ts) ≡ whole → starts (is_not closing) ts ≡ true →
      p ts ≡ Got a r → starts (is k.Comma) r ≡ true → expect k.Comma r ≡ Got t r' → in_front (xs ++ a ∷ []) (listed closing p r') ≡ whole
  listed_go xs ts r r' a t whole inv e g b x =
      sym (ap (in_front xs) (listed_turn ts ∙ rw e (rw g (rw b (rw x refl))))
      ∙ ap (in_front xs) (firsts_more (a, true) (many (is_not closing) followed (element p) r')) ∙ in_front_go A xs a (listed closing p r')) ∙ inv

  -- an element without one is the last
  pub listed_last : (xs : List A) (ts r : Lexemes) (a : A) (whole : Res (List A)) → in_front xs (listed closing p ts) ≡ whole → starts (is_not closing) ts ≡ true →
      p ts ≡ Got a r → starts (is k.Comma) r ≡ false → whole ≡ Got (xs ++ a ∷ []) r
  listed_last xs ts r a whole inv e g b = sym inv ∙ ap (in_front xs) (listed_turn ts) ∙ rw e (rw g (rw b refl))

  pub listed_less : (ts r r' : Lexemes) (a : A) (t : Lexeme) → p ts ≡ Got a r → expect k.Comma r ≡ Got t r' → length r' < length ts
  listed_less ts r r' a t g x = let h = takes.less ts a r g in let h' = (expect_takes k.Comma).less r t r' x in omega arith

  pub listed_err : (xs : List A) (ts r : Lexemes) (whole : Res (List A)) (e : Stop) → in_front xs (listed closing p ts) ≡ whole → starts (is_not closing) ts ≡ true → Reads (p ts) (Err e) r → Reads whole (Err e) r
  listed_err xs ts r whole stop.Stuck inv s e = sym inv ∙ ap (in_front xs) (listed_turn ts) ∙ rw s (rw e refl)
  listed_err xs ts r whole stop.Deep inv s e = sym inv ∙ ap (in_front xs) (listed_turn ts) ∙ rw s (rw e refl)
  listed_err xs ts r whole stop.NoMemory inv s e = tt

pub deeper : {X : Type 0} (f : ℕ → X) (n : ℕ) → 0 < n → f n ≡ f (suc (n - 1))
deeper f n some = let e : n ≡ suc (n - 1) = omega arith in ap f e
