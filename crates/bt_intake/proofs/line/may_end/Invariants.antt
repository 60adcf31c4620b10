use Rattle.std.proofs.Common.{◌+◌, ◌-◌, ◌≡◌, ◌<◌, ℕ, false, length, drop}
use Rattle.bt_lines.specs.Pieces.{begins}
use Rattle.bt_intake.proofs.line.may_end.Given as goal

abbrev pub invariant-places : goal.invariant-places
invariant-places l = record {
  many : 65536 < length l.bytes;
  tried : (k : ℕ) → k < l.place → length l.bytes < k + length l.delimiter → begins (drop k l.bytes) l.delimiter ≡ false;
}

abbrev pub decreases-places : goal.decreases-places
decreases-places l = 65536 + 1 - l.place
