use Rattle.bt_lines.proofs.Closed.{items-closed}
use Rattle.bt_lines.proofs.items_grow.Goals as goal

pub returns : goal.returns
returns c = λ d m n ss some h. items-closed d some m n ss h
