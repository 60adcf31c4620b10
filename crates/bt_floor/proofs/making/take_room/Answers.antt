use Rattle.std.proofs.Common.{ap, ◌∙◌}
use Rattle.bt_chains.specs.Places.{Places, total_length}
use Rattle.bt_floor.proofs.Empty.{none_chained}
use Rattle.bt_floor.proofs.making.take_room.Goals as goal

pub make-requires-2-clause-empty : goal.make-requires-2-clause-empty
make-requires-2-clause-empty g c = ap (λ (p : Places). total_length p.chains) c.in_ok-pool.ensures ∙ none_chained _
