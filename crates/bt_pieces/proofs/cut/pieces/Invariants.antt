use Rattle.std.proofs.Common.{◌-◌, ◌≤◌, ◌++◌, List, length}
use Rattle.bt_pieces.specs.declared.cut.Span.{Span}
use Rattle.bt_pieces.specs.Pieces.{CutFrom}
use Rattle.bt_pieces.proofs.cut.pieces.Given as goal

abbrev pub invariant-loop-mark : goal.invariant-loop-mark
invariant-loop-mark l = record { within : l.from ≤ length l.s; rest : (more : List Span) → CutFrom l.s l.from more → CutFrom l.s 0 (l.spans.list ++ more) }

abbrev pub decreases-loop-mark : goal.decreases-loop-mark
decreases-loop-mark l = length l.s - l.from
