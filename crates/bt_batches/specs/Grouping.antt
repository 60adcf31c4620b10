-- Batches cut and gathered: by size, by a check, and by a text.
use Rattle.std.specs.Prelude.{ℕ, List, [], ◌∷◌, map, length, nat_le, Bool, not, if◌then◌else◌}
use Rattle.std.specs.Str.{bytes_eq}
use Rattle.std.specs.List.{enumerate_from, filter}
use Rattle.bt_ready.specs.declared.ready.Ready.{Ready}
use Rattle.bt_meaning.specs.Mapped.{checks}
use Rattle.bt_mappings.specs.Interpolated.{interpolated}
use Rattle.bt_mappings.specs.declared.interpolation.Bit.{Bit}
use Rattle.bt_messages.specs.Messages.{spot}
use Rattle.bt_cut.specs.Cuts.{cut}
use Rattle.bt_batches.specs.declared.piece.Piece.{Piece}

-- split -------------------------------------------------------------------

-- whether a piece has that size
abbrev pub is_full : ℕ → List Piece → Bool
is_full size ps = nat_le size (length ps)

-- `split`: pieces of that size, the last one shorter
abbrev pub split : ℕ → List Piece → List (List Piece)
split size ps = cut (is_full size) ps

-- a piece that has its size, and one that hasn't
abbrev pub full : ℕ → List Piece → List (List Piece)
full size ps = if is_full size ps then ps ∷ [] else []

abbrev pub not_full : ℕ → List Piece → List Piece
not_full size ps = if is_full size ps then [] else ps

-- a check ------------------------------------------------------------------

-- whether a message passes a check, by its place among so many, at a moment
abbrev pub is_in : Ready → ℕ → ℕ → ℕ × Piece → Bool
is_in r n moment p = checks r.mapping p.1.msg (spot n moment p.0)

-- those that pass, and those that don't
abbrev pub passing : Ready → ℕ → ℕ → List (ℕ × Piece) → List (ℕ × Piece)
passing r n moment ps = filter (is_in r n moment) ps

abbrev pub others : Ready → ℕ → ℕ → List (ℕ × Piece) → List (ℕ × Piece)
others r n moment ps = filter (λ p. not (is_in r n moment p)) ps

-- messages without their places
abbrev pub pieces_of : List (ℕ × Piece) → List Piece
pieces_of ps = map (λ p. p.1) ps

-- a text -------------------------------------------------------------------

-- a message with the text of its group
abbrev pub Keyed : Type 0
Keyed = List ℕ × Piece

abbrev pub keyed : List Bit → ℕ → ℕ → ℕ × Piece → Keyed
keyed bits n moment p = (interpolated bits p.1.msg (spot n moment p.0), p.1)

abbrev pub texts_of : List Keyed → List (List ℕ)
texts_of ks = map (λ k. k.0) ks

-- each text, without the later ones that equal it
abbrev pub appearing : List (List ℕ) → List (List ℕ)
appearing [] = []
appearing (t ∷ ts) = t ∷ filter (λ u. not (bytes_eq u t)) (appearing ts)

-- the messages of one text
abbrev pub of_text : List Keyed → List ℕ → List Piece
of_text ks t = map (λ k. k.1) (filter (λ k. bytes_eq k.0 t) ks)

-- one batch a text, in order of first appearance
abbrev pub by_text : List Keyed → List (List Piece)
by_text ks = map (of_text ks) (appearing (texts_of ks))

-- the messages of a batch with their texts
abbrev pub all_keyed : List Bit → ℕ → List Piece → List Keyed
all_keyed bits moment ps = map (keyed bits (length ps) moment) (enumerate_from 0 ps)

-- `group_by_value`: one batch a text, in order of first appearance
abbrev pub by_value : List Bit → ℕ → List Piece → List (List Piece)
by_value bits moment ps = by_text (all_keyed bits moment ps)
