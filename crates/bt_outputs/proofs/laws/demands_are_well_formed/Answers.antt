use Rattle.std.proofs.Common.{◌<◌, subst, arith}
use Rattle.std.proofs.lemmas.List.Elements.{All-from_recursion}
use Rattle.bt_demand.specs.WellFormed.{leaves, nodes}
use Rattle.bt_outputs.specs.Asked.{asked, arrived}
use Rattle.bt_outputs.specs.Numbers.{from_start}
use Rattle.bt_outputs.proofs.Climbing.{Climbs, below, nothing}
use Rattle.bt_outputs.proofs.Fitting.{well_formed}
use Rattle.bt_outputs.proofs.Standing.{stands_first}
use Rattle.bt_outputs.proofs.laws.demands_are_well_formed.Goals as goal

pub returns-clause-well_formed : goal.returns-clause-well_formed
returns-clause-well_formed c = λ sinks policies o end is known few x at. well_formed sinks end.leaf end.hold policies (asked o x at) known few (stands_first sinks o from_start end is (arrived x at))

pub returns-clause-numbered : goal.returns-clause-numbered
returns-clause-numbered c = λ sinks o end is x at.
    All-from_recursion (λ l. l < end.leaf) (leaves (asked o x at)) (below 0 (leaves (asked o x at)) end.leaf end.leaf (omega arith) (stands_first sinks o from_start end is (arrived x at)).leaves_climb)

pub returns-clause-without_holds : goal.returns-clause-without_holds
returns-clause-without_holds c = λ sinks o end is none x at.
    nothing 0 (nodes (asked o x at)) (subst (λ k. Climbs 0 (nodes (asked o x at)) k) none (stands_first sinks o from_start end is (arrived x at)).nodes_climb)
