-- How far a list is cut into pieces, as its elements are taken and its pieces given.
use Rattle.std.proofs.Common.{◌≡◌, ℕ, zero, suc, ◌+◌, ◌-◌, ◌≤◌, Bool, true, false, List, [], ◌∷◌, ◌++◌, length, take, drop, Some, slice_get, refl, sym, ap, ◌∙◌, arith, inl, inr, length-append}
use Rattle.std.proofs.lemmas.List.{drop_all, length-drop}
use Rattle.std.proofs.lemmas.Option.{slice_get_within}
use Rattle.std.proofs.Math.Seq.{take-append-add}
use Rattle.bt_cut.specs.Cuts.{cut, pieces_after, rest_after, ended_after, ended, left}
use Rattle.bt_cut.proofs.Pieces.{chosen, other, ended-append, ended-grow, rest-append}
use Rattle.bt_intake.specs.Gathering.{CutSoFar}
use Rattle.bt_intake.proofs.SourceLists.{drop-get}
use Rattle.bt_intake.proofs.Steps.{more_than_dropped, get-dropped}

pub take-get : {A : Type 0} (xs : List A) (i : ℕ) (x : A) → slice_get xs i ≡ Some x → take (i + 1) xs ≡ take i xs ++ x ∷ []
take-get [] i x e = cc
take-get (y ∷ ys) zero x e = let same : y ≡ x = cc in ap (λ z. z ∷ []) same
take-get (y ∷ ys) (suc i) x e = let n : suc i + 1 ≡ suc (i + 1) = omega arith in rw n (ap (λ zs. y ∷ zs) (take-get ys i x e))

-- one element more is dropped
drop_one : {A : Type 0} (n : ℕ) (xs : List A) (x : A) (later : List A) → drop n xs ≡ x ∷ later → drop (n + 1) xs ≡ later
drop_one n xs x later e = let f = drop-get xs n x (get-dropped n xs x later e) in cc

left_some : {A : Type 0} (p : List A) → 1 ≤ length p → left p ≡ p ∷ []
left_some [] h = absurd (omega (arith, h))
left_some (x ∷ p) h = refl

module _ {A : Type 0} (e : List A → Bool) (xs : List A) where
  pub so_far-start : CutSoFar e xs [] 0 0
  so_far-start = record { in_list = omega arith; to_come = refl; ended_given = omega arith; is_rest = inl refl }

  module _ (piece : List A) (given done : ℕ) (s : CutSoFar e xs piece given done) where
    module _ (x : A) (here : slice_get xs done ≡ Some x) where
      ahead : drop done xs ≡ x ∷ drop (done + 1) xs
      ahead = drop-get xs done x here

      piece_is : rest_after e [] (take done xs) ≡ piece
      piece_is = elim s.is_rest [
        | inl is ↦ sym is
        | inr all ↦ absurd (omega (arith, all.0, slice_get_within xs done x here))
      ]

      ended_more : ended e (take (done + 1) xs) ≡ ended e (take done xs) ++ ended_after e piece (x ∷ [])
      ended_more =
          ap (ended e) (take-get xs done x here) ∙ ended-append e [] (take done xs) (x ∷ [])
          ∙ ap (λ r. ended e (take done xs) ++ ended_after e r (x ∷ [])) piece_is

      rest_more : rest_after e [] (take (done + 1) xs) ≡ rest_after e piece (x ∷ [])
      rest_more =
          ap (rest_after e []) (take-get xs done x here) ∙ rest-append e [] (take done xs) (x ∷ [])
          ∙ ap (λ r. rest_after e r (x ∷ [])) piece_is

      -- the piece with this element hasn't ended
      pub so_far-on : e (piece ++ x ∷ []) ≡ false → CutSoFar e xs (piece ++ x ∷ []) given (done + 1)
      so_far-on goes_on =
          let none : ended_after e piece (x ∷ []) ≡ [] = other _ _ _ goes_on in
          let rest : rest_after e piece (x ∷ []) ≡ piece ++ x ∷ [] = other _ _ _ goes_on in
          record {
            in_list = s.in_list;
            to_come = s.to_come ∙ ap (pieces_after e piece) ahead ∙ other _ _ _ goes_on;
            ended_given = omega (arith, ap length ended_more, length-append (ended e (take done xs)) (ended_after e piece (x ∷ [])), ap length none, s.ended_given);
            is_rest = inl (sym (rest_more ∙ rest));
          }

      -- the piece with this element has ended
      module _ (ends_so : e (piece ++ x ∷ []) ≡ true) where
        next_is : drop given (cut e xs) ≡ (piece ++ x ∷ []) ∷ cut e (drop (done + 1) xs)
        next_is = s.to_come ∙ ap (pieces_after e piece) ahead ∙ chosen _ _ _ ends_so

        pub so_far-next : slice_get (cut e xs) given ≡ Some (piece ++ x ∷ [])
        so_far-next = get-dropped given (cut e xs) _ _ next_is

        pub so_far-ended : CutSoFar e xs [] (given + 1) (done + 1)
        so_far-ended =
            let one : ended_after e piece (x ∷ []) ≡ (piece ++ x ∷ []) ∷ [] = chosen _ _ _ ends_so in
            let rest : rest_after e piece (x ∷ []) ≡ [] = chosen _ _ _ ends_so in
            record {
              in_list = more_than_dropped given (cut e xs) _ _ next_is;
              to_come = drop_one given (cut e xs) _ _ next_is;
              ended_given = omega (arith, ap length ended_more, length-append (ended e (take done xs)) (ended_after e piece (x ∷ [])), ap length one, s.ended_given);
              is_rest = inl (sym (rest_more ∙ rest));
            }

    -- all elements were taken
    module _ (all : length xs ≤ done) where
      last_is : drop given (cut e xs) ≡ left piece
      last_is = s.to_come ∙ ap (pieces_after e piece) (drop_all done xs all)

      pub so_far-all : piece ≡ [] → length (cut e xs) ≡ given
      so_far-all none = omega (arith, ap length last_is, ap (λ p. length (left p)) none, length-drop given (cut e xs), s.in_list)

      module _ (some : 1 ≤ length piece) where
        only_is : drop given (cut e xs) ≡ piece ∷ []
        only_is = last_is ∙ left_some piece some

        pub so_far-last : slice_get (cut e xs) given ≡ Some piece
        so_far-last = get-dropped given (cut e xs) _ _ only_is

        pub so_far-behind : CutSoFar e xs [] (given + 1) done
        so_far-behind = record {
          in_list = more_than_dropped given (cut e xs) _ _ only_is;
          to_come = drop_one given (cut e xs) _ _ only_is ∙ sym (ap (pieces_after e []) (drop_all done xs all));
          ended_given = omega (arith, s.ended_given);
          is_rest = inr (all, refl);
        }

    -- the pieces that end among the first elements were given
    pub so_far-front : (front later : List A) → xs ≡ front ++ later → length front ≤ done → length (ended e front) ≤ given
    so_far-front front later is h =
        let n : ℕ = done - length front in
        let k : done ≡ length front + n = omega (arith, h) in
        let t : take done xs ≡ front ++ take n later = ap (take done) is ∙ ap (λ m. take m (front ++ later)) k ∙ take-append-add front later n in
        omega (arith, ended-grow e front (take n later), ap (λ ys. length (ended e ys)) t, s.ended_given)
