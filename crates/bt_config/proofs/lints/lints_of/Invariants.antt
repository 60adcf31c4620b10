use Rattle.std.proofs.Common.{map}
use Rattle.std.specs.Vec.Iter.{into_iter_items}
use Rattle.bt_walk.specs.Found.{located}
use Rattle.bt_config.proofs.Turning.{Ends}
use Rattle.bt_config.proofs.lints.lints_of.Given as goal

abbrev pub invariant-loop-finding : goal.invariant-loop-finding
invariant-loop-finding l = Ends (map located l.fn.found.items) (into_iter_items l.finding-iterator) l.lints
