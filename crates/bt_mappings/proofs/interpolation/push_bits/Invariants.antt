use Rattle.std.proofs.Common.{◌≡◌, ◌++◌, drop}
use Rattle.bt_mappings.specs.Interpolated.{interpolated}
use Rattle.bt_mappings.proofs.interpolation.push_bits.Given as goal

abbrev pub invariant-loop-bit : goal.invariant-loop-bit
invariant-loop-bit l = interpolated l.bits l.msg l.spot ≡ l.text ++ interpolated (drop l.bit-index l.bits) l.msg l.spot
