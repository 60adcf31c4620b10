-- Laws of cuts.
use Rattle.std.proofs.Common.{◌≡◌, ℕ, zero, suc, ◌+◌, ◌<◌, ◌≤◌, Bool, true, false, if◌then◌else◌, List, [], ◌∷◌, ◌++◌, length, take, flat_map, refl, sym, ap, subst, ◌∙◌, arith, inl, inr, append_assoc, append-nil, length-append}
use Rattle.std.specs.List.{All}
use Rattle.std.proofs.lemmas.Bool.{cases_Bool, cases_lt}
use Rattle.std.proofs.lemmas.List.{take_at, take_all}
use Rattle.std.proofs.lemmas.List.Elements.{All-nil, All-cons, All-head, All-tail}
use Rattle.std.proofs.Math.Seq.{take-append-add}
use Rattle.bt_cut.specs.Cuts.{IsPiece, EndButLast, IsCut, left, pieces_after, ended_after, rest_after, ended, cut}

-- a choice by a test whose outcome is known
pub chosen : {A : Type 0} (b : Bool) (x y : A) → b ≡ true → (if b then x else y) ≡ x
chosen true x y e = refl
chosen false x y e = cc

pub other : {A : Type 0} (b : Bool) (x y : A) → b ≡ false → (if b then x else y) ≡ y
other true x y e = cc
other false x y e = refl

module _ {A : Type 0} (ends : List A → Bool) where
  -- no prefix has ended, the list itself among them
  abbrev pub Open : List A → Type 0
  Open got = (n : ℕ) → n ≤ length got → ends (take n got) ≡ false

  pub open-nil : ends [] ≡ false → Open []
  open-nil none zero h = none
  open-nil none (suc n) h = none

  -- an open piece with one item more
  front_is : (got : List A) (x : A) (n : ℕ) → n ≤ length got → take n (got ++ x ∷ []) ≡ take n got
  front_is got x zero h = refl
  front_is [] x (suc n) h = absurd (omega (arith, h))
  front_is (g ∷ got) x (suc n) h = ap (λ ys. g ∷ ys) (front_is got x n (omega (arith, h)))

  pub open-more : (got : List A) (x : A) → Open got → ends (got ++ x ∷ []) ≡ false → Open (got ++ x ∷ [])
  open-more got x o e n h =
      elim (cases_lt (length got) n) [
        | inl more ↦ ap ends (take_all n (got ++ x ∷ []) (omega (arith, more, length-append got (x ∷ [])))) ∙ e
        | inr less ↦ ap ends (front_is got x n less) ∙ o n less
      ]

  pub piece-more : (got : List A) (x : A) → Open got → IsPiece ends (got ++ x ∷ [])
  piece-more got x o = record {
    some = omega (arith, length-append got (x ∷ []));
    no_earlier = λ n h. let less : n ≤ length got = omega (arith, h, length-append got (x ∷ [])) in ap ends (front_is got x n less) ∙ o n less;
  }

  ended-cons : (p : List A) (ps : List (List A)) → ends p ≡ true → EndButLast ends ps → EndButLast ends (p ∷ ps)
  ended-cons p [] e h = tt
  ended-cons p (q ∷ ps) e h = (e, h)

  -- the pieces are a cut
  pub pieces-cut : ends [] ≡ false → (got xs : List A) → Open got → IsCut ends (got ++ xs) (pieces_after ends got xs)
  pieces-cut none [] [] o = record { whole = refl; each = All-nil (IsPiece ends); ended = tt }
  pieces-cut none (g ∷ got) [] o = record {
    whole = refl;
    each = All-cons (IsPiece ends) (g ∷ got) [] (record { some = omega arith; no_earlier = λ n h. o n (omega (arith, h)) }) (All-nil (IsPiece ends));
    ended = tt;
  }
  pieces-cut none got (x ∷ xs) o =
      elim (cases_Bool (ends (got ++ x ∷ []))) [
        | inl e ↦
            let later = pieces-cut none [] xs (open-nil none) in
            subst (IsCut ends (got ++ x ∷ xs)) (sym (chosen _ _ _ e)) (record {
              whole = ap (λ ys. (got ++ x ∷ []) ++ ys) later.whole ∙ append_assoc got (x ∷ []) xs;
              each = All-cons (IsPiece ends) _ _ (piece-more got x o) later.each;
              ended = ended-cons _ _ e later.ended;
            })
        | inr e ↦
            let later = pieces-cut none (got ++ x ∷ []) xs (open-more got x o e) in
            subst (λ ys. IsCut ends ys (pieces_after ends got (x ∷ xs))) (append_assoc got (x ∷ []) xs)
            (subst (IsCut ends ((got ++ x ∷ []) ++ xs)) (sym (other _ _ _ e)) later)
      ]

  -- the first of more items than one, behind those that the piece has, ends no piece
  goes_on : (p got : List A) (x y : A) (ys : List A) → p ≡ got ++ x ∷ y ∷ ys → IsPiece ends p → ends (got ++ x ∷ []) ≡ false
  goes_on p got x y ys is piece =
      let front : take (length got + 1) p ≡ got ++ x ∷ [] = ap (take (length got + 1)) is ∙ take-append-add got (x ∷ y ∷ ys) 1 in
      ap ends (sym front) ∙ piece.no_earlier (length got + 1) (omega (arith, ap length is, length-append got (x ∷ y ∷ ys)))

  same_front : (p got : List A) (x : A) (ys : List A) → p ≡ got ++ x ∷ ys → p ≡ (got ++ x ∷ []) ++ ys
  same_front p got x ys is = is ∙ sym (append_assoc got (x ∷ []) ys)

  -- a piece that ends comes first
  pub pieces-front : (p got rest later : List A) → p ≡ got ++ rest → 0 < length rest → IsPiece ends p → ends p ≡ true → pieces_after ends got (rest ++ later) ≡ p ∷ cut ends later
  pieces-front p got [] later is some piece e = absurd (omega (arith, some))
  pieces-front p got (x ∷ []) later is some piece e = chosen _ _ _ (ap ends (sym is) ∙ e) ∙ ap (λ q. q ∷ cut ends later) (sym is)
  pieces-front p got (x ∷ y ∷ ys) later is some piece e =
      other _ _ _ (goes_on p got x y ys is piece) ∙ pieces-front p (got ++ x ∷ []) (y ∷ ys) later (same_front p got x (y ∷ ys) is) (omega arith) piece e

  left-some : (p : List A) → 0 < length p → left p ≡ p ∷ []
  left-some [] h = absurd (omega (arith, h))
  left-some (x ∷ p) h = refl

  -- a piece without later ones is the only one
  pub pieces-last : (p got rest : List A) → p ≡ got ++ rest → IsPiece ends p → pieces_after ends got rest ≡ p ∷ []
  pieces-last p got [] is piece = ap left (sym (append-nil got) ∙ sym is) ∙ left-some p piece.some
  pieces-last p got (x ∷ []) is piece =
      elim (cases_Bool (ends (got ++ x ∷ []))) [
        | inl e ↦ chosen _ _ _ e ∙ ap (λ q. q ∷ []) (sym is)
        | inr e ↦ other _ _ _ e ∙ ap left (sym is) ∙ left-some p piece.some
      ]
  pieces-last p got (x ∷ y ∷ ys) is piece =
      other _ _ _ (goes_on p got x y ys is piece) ∙ pieces-last p (got ++ x ∷ []) (y ∷ ys) (same_front p got x (y ∷ ys) is) piece

  -- there is no other cut
  pub cut-only : (items : List A) (ps : List (List A)) → IsCut ends items ps → ps ≡ cut ends items
  cut-only items [] c = ap (cut ends) c.whole
  cut-only items (p ∷ []) c = sym (pieces-last p [] items (sym (append-nil p) ∙ c.whole) (All-head (IsPiece ends) p [] c.each))
  cut-only items (p ∷ q ∷ ps) c =
      let later : List A = flat_map (λ r. r) (q ∷ ps) in
      let piece = All-head (IsPiece ends) p (q ∷ ps) c.each in
      ap (λ rs. p ∷ rs) (cut-only later (q ∷ ps) (record { whole = refl; each = All-tail (IsPiece ends) p (q ∷ ps) c.each; ended = c.ended.1 }))
      ∙ sym (pieces-front p [] p later refl piece.some piece c.ended.0) ∙ ap (cut ends) c.whole

  -- more items go on behind those that were cut
  pub pieces-append : (got xs ys : List A) → pieces_after ends got (xs ++ ys) ≡ ended_after ends got xs ++ pieces_after ends (rest_after ends got xs) ys
  pieces-append got [] ys = refl
  pieces-append got (x ∷ xs) ys =
      elim (cases_Bool (ends (got ++ x ∷ []))) [
        | inl e ↦ rw e (ap (λ ps. (got ++ x ∷ []) ∷ ps) (pieces-append [] xs ys))
        | inr e ↦ rw e (pieces-append (got ++ x ∷ []) xs ys)
      ]

  pub ended-append : (got xs ys : List A) → ended_after ends got (xs ++ ys) ≡ ended_after ends got xs ++ ended_after ends (rest_after ends got xs) ys
  ended-append got [] ys = refl
  ended-append got (x ∷ xs) ys =
      elim (cases_Bool (ends (got ++ x ∷ []))) [
        | inl e ↦ rw e (ap (λ ps. (got ++ x ∷ []) ∷ ps) (ended-append [] xs ys))
        | inr e ↦ rw e (ended-append (got ++ x ∷ []) xs ys)
      ]

  pub rest-append : (got xs ys : List A) → rest_after ends got (xs ++ ys) ≡ rest_after ends (rest_after ends got xs) ys
  rest-append got [] ys = refl
  rest-append got (x ∷ xs) ys =
      elim (cases_Bool (ends (got ++ x ∷ []))) [
        | inl e ↦ rw e (rest-append [] xs ys)
        | inr e ↦ rw e (rest-append (got ++ x ∷ []) xs ys)
      ]

  -- the first items have no more pieces that ended than all
  pub ended-grow : (xs ys : List A) → length (ended ends xs) ≤ length (ended ends (xs ++ ys))
  ended-grow xs ys = omega (arith, ap length (ended-append [] xs ys), length-append (ended ends xs) (ended_after ends (rest_after ends [] xs) ys))

  -- the cut is the pieces that ended, and what is left
  pub cut-ended : (xs : List A) → cut ends xs ≡ ended ends xs ++ left (rest_after ends [] xs)
  cut-ended xs = ap (cut ends) (sym (append-nil xs)) ∙ pieces-append [] xs []
