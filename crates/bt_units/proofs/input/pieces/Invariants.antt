use Rattle.std.proofs.Common.{◌≡◌, ◌++◌, drop}
use Rattle.bt_units.specs.Input.{pieces_from}
use Rattle.bt_units.proofs.input.pieces.Given as goal

abbrev pub invariant-loop-i : goal.invariant-loop-i
invariant-loop-i l = l.batch.items ++ pieces_from l.i (drop l.i l.messages) ≡ pieces_from 0 l.messages
