use Rattle.std.proofs.Common.{◌≡◌, ◌++◌, map, take, drop}
use Rattle.bt_batches.specs.Pieces.{without_flag}
use Rattle.bt_batches.proofs.piece.unflag_all.Given as goal

abbrev pub invariant-loop-p : goal.invariant-loop-p
invariant-loop-p l = take l.p-index l.batch ++ map without_flag (drop l.p-index l.batch) ≡ map without_flag l.initial.batch
