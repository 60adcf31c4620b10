use Rattle.std.proofs.Common.{◌≡◌, length}
use Rattle.bt_time.specs.Format.{pieces, place}
use Rattle.bt_time.proofs.format.number_at.Given as goal

abbrev pub invariant-loop-piece : goal.invariant-loop-piece
invariant-loop-piece l = place l.directive (pieces l.format) l.rest ≡ place l.directive (pieces l.fn.format) l.text

abbrev pub decreases-loop-piece : goal.decreases-loop-piece
decreases-loop-piece l = length l.format
