use Rattle.std.proofs.Common.{◌≡◌, ◌++◌, map, take, drop}
use Rattle.bt_batches.specs.Pieces.{flagged_piece}
use Rattle.bt_batches.proofs.archive.flag_all.Given as goal

abbrev pub invariant-loop-p : goal.invariant-loop-p
invariant-loop-p l = take l.p-index l.batch ++ map (flagged_piece l.t) (drop l.p-index l.batch) ≡ map (flagged_piece l.t) l.initial.batch
