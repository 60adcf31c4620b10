use Rattle.bt_pieces.proofs.CutLemmas.{one_cut_from}
use Rattle.bt_pieces.proofs.cut.one_cut.Goals as goal

pub returns : goal.returns
returns c = λ s xs ys h g. one_cut_from s 0 xs ys h g
