-- What processors make of a batch.
use Rattle.std.specs.Prelude.{ℕ, List, [], ◌∷◌, ◌++◌, map, length, if◌then◌else◌}
use Rattle.std.specs.List.{flat_map, enumerate_from}
use Rattle.bt_messages.specs.Messages.{is_flagged}
use Rattle.bt_batches.specs.declared.piece.Piece.{Piece}
use Rattle.bt_batches.specs.Pieces.{without_flag, filled, joined, stepped}
use Rattle.bt_batches.specs.Grouping.{split, by_value, passing, others, pieces_of}
use Rattle.bt_batches.specs.Archives.{archive_lines, archive_json, unarchive_lines, unarchive_json}
use Rattle.bt_proc.specs.declared.tree.Format.{Format}
use Rattle.bt_proc.specs.declared.tree.Format.TheVariants.{Lines, JsonArray}
use Rattle.bt_proc.specs.declared.tree.Group.{Group}
use Rattle.bt_proc.specs.declared.tree.Processor.{Processor, fold-Processor}
use Rattle.bt_proc.specs.declared.tree.Processor.TheOpen.{Processor-F}

-- what a processor makes of a batch at a moment: batches, none of them empty
abbrev pub Effect : Type 0
Effect = ℕ → List Piece → List (List Piece)

-- processors in their order: each has each batch of the one before, and the results stand end to end
abbrev pub in_order : List Effect → ℕ → List (List Piece) → List (List Piece)
in_order [] moment bs = bs
in_order (f ∷ fs) moment bs = in_order fs moment (flat_map (f moment) bs)

-- a batch through processors; a batch without messages is none
abbrev pub run : List Effect → Effect
run fs moment ps = in_order fs moment (filled ps)

-- try, for_each and catch -------------------------------------------------

-- the messages that come of one message as a batch of its own
abbrev pub alone : List Effect → ℕ → Piece → List Piece
alone fs moment p = joined (run fs moment (p ∷ []))

-- a message that isn't flagged is replaced by what a child gives for it as a batch of one; one that is stays
abbrev pub tried_by : Effect → ℕ → Piece → List Piece
tried_by f moment p = if is_flagged p.msg then p ∷ [] else joined (f moment (p ∷ []))

abbrev pub tried : List Effect → ℕ → List Piece → List Piece
tried [] moment ps = ps
tried (f ∷ fs) moment ps = tried fs moment (flat_map (tried_by f moment) ps)

-- a flagged message goes through the processors, and what comes of it has no flag; the others stay
abbrev pub caught : List Effect → ℕ → Piece → List Piece
caught fs moment p = if is_flagged p.msg then map without_flag (alone fs moment p) else p ∷ []

-- group_by ----------------------------------------------------------------

-- The messages that no group before took: those that pass the first group's check are its batch, the others are left for the
-- next, and those of no group are the last batch, as they are.
abbrev pub grouped : List (Group Effect) → ℕ → ℕ → List (ℕ × Piece) → List (List Piece)
grouped [] n moment ps = filled (pieces_of ps)
grouped (g ∷ gs) n moment ps = run g.processors moment (pieces_of (passing g.check n moment ps)) ++ grouped gs n moment (others g.check n moment ps)

-- `group_by`: each message joins the first check that passes, with its place in the batch
abbrev pub group_by : List (Group Effect) → Effect
group_by gs moment ps = grouped gs (length ps) moment (enumerate_from 0 ps)

-- archive and unarchive -----------------------------------------------------

abbrev pub archive : Format → List Piece → List Piece
archive Lines ps = archive_lines ps
archive JsonArray ps = archive_json ps

abbrev pub unarchive : Format → Piece → List Piece
unarchive Lines p = unarchive_lines p
unarchive JsonArray p = unarchive_json p

-- one case for each processor -----------------------------------------------

abbrev pub effect_of : Processor-F Effect → Effect
effect_of (Processor-F.Message m) moment ps = filled (stepped m moment ps)
effect_of (Processor-F.Try fs) moment ps = filled (flat_map (λ p. tried fs moment (p ∷ [])) ps)
effect_of (Processor-F.ForEach fs) moment ps = filled (flat_map (alone fs moment) ps)
effect_of (Processor-F.Catch fs) moment ps = filled (flat_map (caught fs moment) ps)
effect_of (Processor-F.Split size) moment ps = split size ps
effect_of (Processor-F.GroupBy gs) moment ps = group_by gs moment ps
effect_of (Processor-F.GroupByValue bits) moment ps = by_value bits.list moment ps
effect_of (Processor-F.Archive f) moment ps = filled (archive f ps)
effect_of (Processor-F.Unarchive f) moment ps = filled (flat_map (unarchive f) ps)

-- what a processor makes of a batch
abbrev pub effect : Processor → Effect
effect = fold-Processor Effect effect_of

-- what processors make of a batch
abbrev pub procs : List Processor → Effect
procs fs = run (map effect fs)
