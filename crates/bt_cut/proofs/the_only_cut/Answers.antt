use Rattle.std.proofs.Common.{[]}
use Rattle.bt_cut.proofs.Pieces.{open-nil, pieces-cut, cut-only, cut-ended}
use Rattle.bt_cut.proofs.the_only_cut.Goals as goal

pub returns-clause-is : goal.returns-clause-is
returns-clause-is g c = λ ends items none. pieces-cut ends none [] items (open-nil ends none)

pub returns-clause-only : goal.returns-clause-only
returns-clause-only g c = λ ends items pieces none is. cut-only ends items pieces is

pub returns-clause-ended : goal.returns-clause-ended
returns-clause-ended g c = λ ends items. cut-ended ends items
