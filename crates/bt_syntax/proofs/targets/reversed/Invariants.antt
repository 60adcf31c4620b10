use Rattle.std.proofs.Common.{◌≡◌, length, reverse, ◌++◌}
use Rattle.bt_syntax.proofs.targets.reversed.Given as goal

abbrev pub invariant-loop-key : goal.invariant-loop-key
invariant-loop-key l = reverse l.fn.keys ≡ l.all ++ reverse l.keys

abbrev pub decreases-loop-key : goal.decreases-loop-key
decreases-loop-key l = length l.keys
