use Rattle.bt_pieces.specs.Pieces as spec
use Rattle.bt_pieces.proofs.cut.query_after.Goals as goal

pub returns-in_err-mark-clause-none : goal.returns-in_err-mark-clause-none
returns-in_err-mark-clause-none c = λ e. spec.no_mark c.in_err-mark.ensures

pub returns-in_err-close-clause-none : goal.returns-in_err-close-clause-none
returns-in_err-close-clause-none c = λ e. spec.no_close c.in_ok-mark.mark c.in_ok-mark.ensures c.in_err-close.ensures
