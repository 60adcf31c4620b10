use Rattle.bt_making.proofs.Piecing.{NoneSoFar, SoFar}
use Rattle.bt_making.proofs.interpolated.all_made.Given as goal

abbrev pub invariant-loop-span : goal.invariant-loop-span
invariant-loop-span l = SoFar l.text l.spans l.span-index l.out.list × NoneSoFar l.text l.spans l.span-index
