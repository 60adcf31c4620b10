-- A list that is cut into pieces by a test of where a piece ends.
use Rattle.std.specs.Prelude.{◌≡◌, ℕ, ◌<◌, ◌==◌, Bool, true, false, if◌then◌else◌, List, [], ◌∷◌, ◌++◌, length, take, flat_map}
use Rattle.std.specs.List.{All}

-- a piece that isn't empty, of which the test is true of no proper prefix
pub record IsPiece {A : Type 0} (ends : List A → Bool) (piece : List A) : Type 0 where
  pub some : 0 < length piece
  pub no_earlier : (n : ℕ) → n < length piece → ends (take n piece) ≡ false

-- the test is true of each piece but the last
abbrev pub EndButLast : {A : Type 0} → (List A → Bool) → List (List A) → Type 0
EndButLast ends [] = Unit {0}
EndButLast ends (p ∷ []) = Unit {0}
EndButLast ends (p ∷ q ∷ ps) = (ends p ≡ true) × EndButLast ends (q ∷ ps)

-- the pieces are the list, one behind the other, each cut where it first ends
pub record IsCut {A : Type 0} (ends : List A → Bool) (items : List A) (pieces : List (List A)) : Type 0 where
  pub whole : flat_map (λ p. p) pieces ≡ items
  pub each : All (IsPiece ends) pieces
  pub ended : EndButLast ends pieces

-- the last piece, which may not have ended; none where it is empty
abbrev pub left : {A : Type 0} → List A → List (List A)
left [] = []
left (x ∷ xs) = (x ∷ xs) ∷ []

-- the pieces of some items, of which `got` stand in the first piece already
abbrev pub pieces_after : {A : Type 0} → (List A → Bool) → (got : List A) → List A → List (List A)
pieces_after ends got [] = left got
pieces_after ends got (x ∷ xs) = if ends (got ++ x ∷ []) then (got ++ x ∷ []) ∷ pieces_after ends [] xs else pieces_after ends (got ++ x ∷ []) xs

-- the list's cut
abbrev pub cut : {A : Type 0} → (List A → Bool) → List A → List (List A)
cut ends items = pieces_after ends [] items

-- the pieces of some items that have ended, where `got` stand in the first piece already
abbrev pub ended_after : {A : Type 0} → (List A → Bool) → (got : List A) → List A → List (List A)
ended_after ends got [] = []
ended_after ends got (x ∷ xs) = if ends (got ++ x ∷ []) then (got ++ x ∷ []) ∷ ended_after ends [] xs else ended_after ends (got ++ x ∷ []) xs

-- and the items of the piece behind them, which hasn't ended
abbrev pub rest_after : {A : Type 0} → (List A → Bool) → (got : List A) → List A → List A
rest_after ends got [] = got
rest_after ends got (x ∷ xs) = if ends (got ++ x ∷ []) then rest_after ends [] xs else rest_after ends (got ++ x ∷ []) xs

-- the pieces of the list that have ended: its cut, but for a last piece that hasn't
abbrev pub ended : {A : Type 0} → (List A → Bool) → List A → List (List A)
ended ends items = ended_after ends [] items
