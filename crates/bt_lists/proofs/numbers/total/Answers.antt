use Rattle.std.proofs.Common.{arith}
use Rattle.std.proofs.lemmas.Int.{ints, to_z-of_z}
use Rattle.std.proofs.lemmas.List.Sums.{fold_more}
use Rattle.bt_lists.proofs.numbers.total.Goals as goal

pub loop-n-preserved : goal.loop-n-preserved
loop-n-preserved c = record {
  so_far = grind (arith, to_z-of_z, fold_more);
  above = omega (arith, ints);
  below = omega (arith, ints);
}
