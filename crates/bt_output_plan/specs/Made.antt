-- Outputs with their texts and numbers left blank, and what their texts were made ready as.
use Rattle.std.specs.Prelude.{ℕ, List, [], ◌∷◌, ◌++◌, Option, map}
use Rattle.bt_outputs.specs.declared.output.Output.{Output, fold-Output}
use Rattle.bt_outputs.specs.declared.output.Output.TheOpen.{Output-F}
use Rattle.bt_outputs.specs.declared.output.Output.TheVariants as output
use Rattle.bt_outputs.specs.declared.output.OutputCase.{OutputCase}
use Rattle.bt_making.specs.Sources.{Part, pieces}
use Rattle.bt_outlines.specs.Outlines.{blank_of, joined, no_pieces, part_of}

abbrev pub in_case : {A B : Type 0} → (A → B) → OutputCase A → OutputCase B
in_case f k = record { check = k.check; goes_on = k.goes_on; output = f k.output }

-- ---- with blanks

abbrev pub blank_case : OutputCase Output → OutputCase Output
blank_case k = record k { check = blank_of k.check }

abbrev pub blank_step : Output-F Output → Output
blank_step (Output-F.Leaf n sink) = output.Leaf 0 sink
blank_step Output-F.Drop = output.Drop
blank_step (Output-F.Reject text) = output.Reject no_pieces
blank_step (Output-F.RejectErrored o) = output.RejectErrored o
blank_step (Output-F.Broker os) = output.Broker os
blank_step (Output-F.Hold n check o) = output.Hold 0 (blank_of check) o
blank_step (Output-F.Switch ks strict) = output.Switch (map blank_case ks) strict
blank_step (Output-F.Fallback os) = output.Fallback os
blank_step (Output-F.Retry n leaves holds o) = output.Retry n 0 0 o
blank_step (Output-F.DropOn error o) = output.DropOn error o

-- an output with its texts left blank, and without the numbers of its leaves and holds
abbrev pub blanked : Output → Output
blanked = fold-Output Output blank_step

-- ---- what the texts were made ready as, in their order

abbrev pub case_parts : OutputCase (List Part) → List Part
case_parts k = part_of k.check ++ k.output

abbrev pub parts_step : Output-F (List Part) → List Part
parts_step (Output-F.Leaf n sink) = []
parts_step Output-F.Drop = []
parts_step (Output-F.Reject text) = pieces text.list ∷ []
parts_step (Output-F.RejectErrored ps) = ps
parts_step (Output-F.Broker ps) = joined ps
parts_step (Output-F.Hold n check ps) = part_of check ++ ps
parts_step (Output-F.Switch ks strict) = joined (map case_parts ks)
parts_step (Output-F.Fallback ps) = joined ps
parts_step (Output-F.Retry n leaves holds ps) = ps
parts_step (Output-F.DropOn error ps) = ps

abbrev pub parts : Output → List Part
parts = fold-Output (List Part) parts_step
