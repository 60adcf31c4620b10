use Rattle.bt_lines.proofs.Pieces.{between-only}
use Rattle.bt_lines.proofs.the_only_pieces.Goals as goal

pub returns-clause-only : goal.returns-clause-only
returns-clause-only c = λ d bytes ps some between. between-only d bytes ps some between
