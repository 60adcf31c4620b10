use Rattle.std.proofs.Common.{◌≡◌, ◌↔◌, length}
use Rattle.bt_time.specs.Format.{pieces, shown_by}
use Rattle.bt_time.proofs.format.shows.Given as goal

abbrev pub invariant-loop-piece : goal.invariant-loop-piece
invariant-loop-piece l = (shown_by l.civil (pieces l.fn.format) ≡ l.text) ↔ (shown_by l.civil (pieces l.format) ≡ l.rest)

abbrev pub decreases-loop-piece : goal.decreases-loop-piece
decreases-loop-piece l = length l.format
