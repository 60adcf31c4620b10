use Rattle.std.proofs.Common.{◌≡◌, take}
use Rattle.std.specs.Int.{int_max}
use Rattle.std.specs.List.{fold}
use Rattle.bt_lists.proofs.numbers.greatest.Given as goal

abbrev pub invariant-loop-n : goal.invariant-loop-n
invariant-loop-n l = l.best ≡ fold int_max l.first (take l.n-index l.rest)
