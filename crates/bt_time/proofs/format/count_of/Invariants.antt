use Rattle.std.proofs.Common.{◌≡◌, ◌+◌, ◌≤◌, length}
use Rattle.bt_time.specs.Format.{pieces, count_of}
use Rattle.bt_time.proofs.format.count_of.Given as goal

abbrev pub invariant-loop-piece : goal.invariant-loop-piece
invariant-loop-piece l = (l.count + count_of l.directive (pieces l.format) ≡ count_of l.directive (pieces l.fn.format)) × (l.count + length l.format ≤ length l.fn.format)

abbrev pub decreases-loop-piece : goal.decreases-loop-piece
decreases-loop-piece l = length l.format
