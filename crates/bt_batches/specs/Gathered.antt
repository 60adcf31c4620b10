-- What gathering messages by their texts keeps: the batches so far, and at each text the place of its batch.
use Rattle.std.specs.Prelude.{◌≡◌, ℕ, zero, suc, List, [], ◌∷◌, ◌++◌, Option, Some, None, option_map, if◌then◌else◌}
use Rattle.std.specs.Str.{bytes_eq}
use Rattle.bt_batches.specs.declared.piece.Piece.{Piece}
use Rattle.bt_batches.specs.Grouping.{Keyed, texts_of, appearing, by_text}

-- the place of a text among texts
abbrev pub place : List ℕ → List (List ℕ) → Option ℕ
place q [] = None
place q (t ∷ ts) = if bytes_eq q t then Some 0 else option_map suc (place q ts)

-- the batches with a message more at the end of one
abbrev pub put_at : List (List Piece) → ℕ → Piece → List (List Piece)
put_at [] i p = []
put_at (b ∷ bs) zero p = (b ++ p ∷ []) ∷ bs
put_at (b ∷ bs) (suc i) p = b ∷ put_at bs i p

-- the batches are those of these messages, and each text has the place of its batch
pub record IsGathered (ks : List Keyed) (places : List ℕ → Option ℕ) (bs : List (List Piece)) : Type 0 where
  pub at : (q : List ℕ) → places q ≡ place q (appearing (texts_of ks))
  pub batches : bs ≡ by_text ks
