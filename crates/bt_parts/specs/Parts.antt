-- The parts of a transaction: what the processors make of its items, batch by batch, and what the output asks of each message.
use Rattle.std.specs.Prelude.{ℕ, suc, List, [], ◌∷◌, length, flat_map}
use Rattle.bt_ports.specs.declared.parts.Item.{Item}
use Rattle.bt_items.specs.Messages.{message}
use Rattle.bt_messages.specs.Messages.{spot}
use Rattle.bt_proc.specs.Procs.{procs}
use Rattle.bt_batches.specs.declared.piece.Piece.{Piece}
use Rattle.bt_proc.specs.declared.tree.Processor.{Processor}
use Rattle.bt_demand.specs.Parts.{Part}
use Rattle.bt_outputs.specs.declared.output.Output.{Output}
use Rattle.bt_outputs.specs.Asked.{asked}

-- the messages that items begin as, numbered from a number on: each has the number of its item as its only origin
abbrev pub pieces_from : ℕ → List Item → List Piece
pieces_from n [] = []
pieces_from n (i ∷ is) = record { msg = message i; from = n ∷ [] } ∷ pieces_from (suc n) is

-- the parts of messages that stand in a batch of so many, from a place on
abbrev pub parts_from : Output → ℕ → ℕ → ℕ → List Piece → List Part
parts_from o moment size i [] = []
parts_from o moment size i (p ∷ ps) = record { from = p.from; demand = asked o p.msg (spot size moment i) } ∷ parts_from o moment size (suc i) ps

-- the parts of a batch
abbrev pub parts_in : Output → ℕ → List Piece → List Part
parts_in o moment ps = parts_from o moment (length ps) 0 ps

-- the parts of the batches that processors make of a transaction's items
abbrev pub parts_by : List Processor → Output → ℕ → List Item → List Part
parts_by fs o moment is = flat_map (parts_in o moment) (procs fs moment (pieces_from 0 is))
