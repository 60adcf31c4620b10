use Rattle.std.proofs.Common.{◌≡◌, ◌<◌, ◌^◌, take}
use Rattle.bt_time.specs.Format.{number}
use Rattle.bt_time.proofs.format.number.Given as goal

abbrev pub invariant-loop-byte : goal.invariant-loop-byte
invariant-loop-byte l = (l.n ≡ number (take l.byte-index l.digits)) × (l.n < 10 ^ l.byte-index)
