-- The parts of a transaction fit it and the output.
use Rattle.std.proofs.Common.{◌≡◌, ℕ, ◌<◌, ◌≤◌, ◌+◌, ◌&&◌, suc, List, [], ◌∷◌, ◌++◌, length, true, Option, Some, None, refl, subst, arith, nat_le}
use Rattle.std.specs.Prelude.{◌==◌, slice_index}
use Rattle.std.specs.List.{AllByRecursion, flat_map}
use Rattle.std.specs.List.Sorted.{IsStrictlyIncreasing}
use Rattle.std.proofs.lemmas.Bool.{and_parts, eqb-true, leb-true}
use Rattle.bt_ports.specs.declared.parts.Item.{Item}
use Rattle.bt_value.specs.declared.message.Msg.{Msg}
use Rattle.bt_meaning.specs.declared.message.Spot.{Spot}
use Rattle.bt_messages.specs.Messages.{spot}
use Rattle.bt_demand.specs.Parts.{Part, PartsFit}
use Rattle.bt_demand.specs.WellFormed.{Rises, WellFormed}
use Rattle.bt_batches.specs.declared.piece.Piece.{Piece}
use Rattle.bt_proc.specs.Procs.{procs}
use Rattle.bt_parts.specs.Origins.{AllStand, BatchesStand}
use Rattle.bt_parts.proofs.Standing.{procs_stand}
use Rattle.bt_outputs.specs.Asked.{asked, arrived}
use Rattle.bt_outputs.specs.Numbers.{Next, from_start, numbers}
use Rattle.bt_outputs.specs.declared.output.Output.{Output}
use Rattle.bt_outputs.proofs.Fitting.{well_formed}
use Rattle.bt_outputs.proofs.Standing.{stands_first}
use Rattle.bt_parts.specs.Parts.{parts_by, parts_from, parts_in, pieces_from}
use Rattle.bt_parts.specs.Plans.{stands_well, ends_well}
use Rattle.bt_proc.specs.declared.tree.Processor.{Processor}

-- rising numbers -----------------------------------------------------------

tail_rises : (x : ℕ) (xs : List ℕ) → IsStrictlyIncreasing (x ∷ xs) → IsStrictlyIncreasing xs
tail_rises x xs h k within =
    let shift : suc k + 1 ≡ suc (k + 1) = omega arith in
    subst (λ j. slice_index xs k < slice_index (x ∷ xs) j) shift (h (suc k) (omega (arith, within)))

above : (n : ℕ) (xs : List ℕ) → (0 < length xs → n < slice_index xs 0) → IsStrictlyIncreasing xs → AllByRecursion (λ y. n < y) xs
above n [] first h = tt
above n (x ∷ xs) first h = (first (omega arith), above n xs (λ some. omega (arith, first (omega arith), h 0 (omega (arith, some)))) (tail_rises x xs h))

rises_of : (xs : List ℕ) → IsStrictlyIncreasing xs → Rises xs
rises_of [] h = tt
rises_of (x ∷ xs) h = (above x xs (λ some. h 0 (omega (arith, some))) (tail_rises x xs h), rises_of xs (tail_rises x xs h))

-- the messages of the items --------------------------------------------------

pieces_stand : (total n : ℕ) (is : List Item) → n + length is ≤ total → AllStand total (pieces_from n is)
pieces_stand total n [] h = tt
pieces_stand total n (i ∷ is) h = (record { some = omega arith; rising = λ k within. absurd (omega (arith, within)); known = (omega (arith, h), tt) }, pieces_stand total (suc n) is (omega (arith, h)))

-- the parts --------------------------------------------------------------------

-- what an output asks of any message is well formed
abbrev AllWell : ℕ → ℕ → Output → Type 0
AllWell sinks policies o = (x : Msg) (at : Spot) → WellFormed sinks policies (asked o x at)

join_fit : (sinks policies items : ℕ) (ps qs : List Part) → PartsFit sinks policies items ps → PartsFit sinks policies items qs → PartsFit sinks policies items (ps ++ qs)
join_fit sinks policies items [] qs h k = k
join_fit sinks policies items (p ∷ ps) qs h k = (h.0, join_fit sinks policies items ps qs h.1 k)

from_fit : (sinks policies items : ℕ) (o : Output) → AllWell sinks policies o → (moment size i : ℕ) (ps : List Piece) → AllStand items ps → PartsFit sinks policies items (parts_from o moment size i ps)
from_fit sinks policies items o well moment size i [] h = tt
from_fit sinks policies items o well moment size i (p ∷ ps) h =
    (record { some = h.0.some; rising = rises_of p.from h.0.rising; known = h.0.known; well_formed = well p.msg (spot size moment i) }, from_fit sinks policies items o well moment size (suc i) ps h.1)

batches_fit : (sinks policies items : ℕ) (o : Output) → AllWell sinks policies o → (moment : ℕ) (bs : List (List Piece)) → BatchesStand items bs → PartsFit sinks policies items (flat_map (parts_in o moment) bs)
batches_fit sinks policies items o well moment [] h = tt
batches_fit sinks policies items o well moment (b ∷ bs) h =
    join_fit sinks policies items (parts_in o moment b) (flat_map (parts_in o moment) bs) (from_fit sinks policies items o well moment (length b) 0 b h.0) (batches_fit sinks policies items o well moment bs h.1)

ended_well : (policies : ℕ) (r : Option Next) → ends_well policies r ≡ true → (end : Next) × (r ≡ Some end) × (end.hold ≡ policies) × (policies ≤ 64)
ended_well policies None h = absurd (cc)
ended_well policies (Some end) h =
    let parts = and_parts (nat_le end.leaf 256 && end.hold == policies) (nat_le policies 64) h in
    let more_parts = and_parts (nat_le end.leaf 256) (end.hold == policies) parts.0 in (end, refl, eqb-true end.hold policies more_parts.1, leb-true policies 64 parts.1)

output_well : (sinks policies : ℕ) (o : Output) → stands_well sinks policies o ≡ true → AllWell sinks policies o
output_well sinks policies o h x at =
    let parts = and_parts (nat_le sinks 256) (ends_well policies (numbers sinks o from_start)) h in
    let known = ended_well policies (numbers sinks o from_start) parts.1 in
    well_formed sinks known.0.leaf known.0.hold policies (asked o x at) (omega (arith, known.2)) (omega (arith, known.2, known.3)) (stands_first sinks o from_start known.0 known.1 (arrived x at))

-- there are 256 sinks at most
pub few_sinks : (sinks policies : ℕ) (o : Output) → stands_well sinks policies o ≡ true → sinks ≤ 256
few_sinks sinks policies o h = leb-true sinks 256 (and_parts (nat_le sinks 256) (ends_well policies (numbers sinks o from_start)) h).0

pub fit : (fs : List Processor) (o : Output) (sinks policies moment : ℕ) (is : List Item) → stands_well sinks policies o ≡ true → PartsFit sinks policies (length is) (parts_by fs o moment is)
fit fs o sinks policies moment is h =
    batches_fit sinks policies (length is) o (output_well sinks policies o h) moment (procs fs moment (pieces_from 0 is))
    (procs_stand fs moment (length is) (pieces_from 0 is) (pieces_stand (length is) 0 is (omega arith)))
