-- Bytes that are cut at the occurrences of a delimiter, from the left and not overlapping.
use Rattle.std.specs.Prelude.{◌≡◌, ℕ, zero, suc, ◌+◌, ◌-◌, ◌<◌, ◌≤◌, ◌==◌, Bool, true, false, ◌&&◌, if◌then◌else◌, List, [], ◌∷◌, ◌++◌, length, drop}
use Rattle.std.specs.List.{onto_first}

-- the delimiter stands at the front of the bytes
abbrev pub begins : List ℕ → List ℕ → Bool
begins [] bytes = true
begins (x ∷ d) [] = false
begins (x ∷ d) (b ∷ bytes) = (x == b) && begins d bytes

-- the pieces of some bytes, of which the first `skip` belong to a delimiter that stands before them. Where the delimiter stands a
-- piece ends, and the next one begins behind it
abbrev pub pieces_after : List ℕ → (skip : ℕ) → List ℕ → List (List ℕ)
pieces_after d skip [] = [] ∷ []
pieces_after d zero (b ∷ bytes) = if begins d (b ∷ bytes) then [] ∷ pieces_after d (length d - 1) bytes else onto_first b (pieces_after d 0 bytes)
pieces_after d (suc skip) (b ∷ bytes) = pieces_after d skip bytes

-- the pieces between the delimiters
abbrev pub pieces : List ℕ → List ℕ → List (List ℕ)
pieces d bytes = pieces_after d 0 bytes

-- at none of the first n places of the bytes does the delimiter stand
abbrev pub NoneBefore : List ℕ → ℕ → List ℕ → Type 0
NoneBefore d n bytes = (k : ℕ) → k < n → begins d (drop k bytes) ≡ false

-- it stands nowhere in them
abbrev pub NoneIn : List ℕ → List ℕ → Type 0
NoneIn d bytes = (k : ℕ) → begins d (drop k bytes) ≡ false

-- it stands first at place n of them
pub record FirstAt (d bytes : List ℕ) (n : ℕ) : Type 0 where
  pub inside : n + length d ≤ length bytes
  pub here : begins d (drop n bytes) ≡ true
  pub before : NoneBefore d n bytes

-- Bytes are some pieces with the delimiter between them. In a piece and the delimiter behind it, it stands there first; in the last
-- piece it doesn't stand
abbrev pub AreBetween : List ℕ → List (List ℕ) → List ℕ → Type 0
AreBetween d [] bytes = ⊥
AreBetween d (p ∷ []) bytes = (bytes ≡ p) × NoneIn d p
AreBetween d (p ∷ q ∷ ps) bytes = FirstAt d (p ++ d) (length p) × (rest : List ℕ) × (bytes ≡ (p ++ d) ++ rest) × AreBetween d (q ∷ ps) rest
