-- What is asked of a message before the bytes of its records are put in.
use Rattle.std.specs.Prelude.{◌≡◌, List, [], map, true, false, Option, Some, None}
use Rattle.bt_value.specs.declared.message.Msg.{Msg}
use Rattle.bt_meaning.specs.declared.message.Spot.{Spot}
use Rattle.bt_demand.specs.View.{tree}
use Rattle.bt_demand.specs.declared.demand.Demand.{Demand}
use Rattle.bt_outputs.specs.declared.output.Output.{Output}
use Rattle.bt_outputs.specs.declared.output.OutputCase.{OutputCase}
use Rattle.bt_outputs.specs.declared.output.Shift.{Shift}
use Rattle.bt_outputs.specs.Asked.{Given, Route, route, passes}

-- a message at its place, whose records have no bytes yet
abbrev pub blank : Msg → Spot → Given
blank x at = record { bytes = []; message = x; spot = at }

-- a case by what its output asks
abbrev pub case_route : OutputCase Output → OutputCase Route
case_route k = record { check = k.check; goes_on = k.goes_on; output = route k.output }

abbrev pub case_routes : List (OutputCase Output) → List (OutputCase Route)
case_routes ks = map case_route ks

-- what a case asks, where it passes
abbrev pub IsCase : OutputCase Output → Shift → Given → Option Demand → Type 0
IsCase k s x None = passes k.check x ≡ false
IsCase k s x (Some d) = (passes k.check x ≡ true) × (tree d ≡ route k.output s x)
