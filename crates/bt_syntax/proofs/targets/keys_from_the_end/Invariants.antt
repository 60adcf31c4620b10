use Rattle.std.proofs.Common.{◌≡◌, length, reverse}
use Rattle.bt_syntax.specs.Readers.{target_keys}
use Rattle.bt_syntax.proofs.KeyTurns.{keys_then}
use Rattle.bt_syntax.proofs.targets.keys_from_the_end.Given as goal

abbrev pub invariant-loop-suffix : goal.invariant-loop-suffix
invariant-loop-suffix l = target_keys l.fn.suffixes ≡ keys_then (target_keys l.suffixes) (reverse l.keys)

abbrev pub decreases-loop-suffix : goal.decreases-loop-suffix
decreases-loop-suffix l = length l.suffixes
