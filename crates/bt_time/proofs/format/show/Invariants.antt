use Rattle.std.proofs.Common.{◌≡◌, ◌++◌, length, string_bytes}
use Rattle.std.specs.Str.{IsUtf8}
use Rattle.bt_time.specs.Format.{pieces, shown_by}
use Rattle.bt_time.proofs.format.show.Given as goal

abbrev pub invariant-loop-plain : goal.invariant-loop-plain
invariant-loop-plain l = (shown_by l.civil (pieces l.format) ≡ string_bytes l.text ++ shown_by l.civil (pieces l.rest)) × IsUtf8 l.rest

abbrev pub decreases-loop-plain : goal.decreases-loop-plain
decreases-loop-plain l = length l.rest
