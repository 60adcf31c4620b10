use Rattle.std.proofs.Common.{◌≡◌, false, drop}
use Rattle.bt_time.specs.Format.{is_format_behind}
use Rattle.bt_time.proofs.format.format_ok.Given as goal

abbrev pub invariant-loop-byte : goal.invariant-loop-byte
invariant-loop-byte l = is_format_behind l.percent (drop l.byte-index l.byte-items) ≡ is_format_behind false l.byte-items
