-- What an output asks of a message: one case for each kind of output.
use Rattle.std.specs.Prelude.{ℕ, zero, suc, ◌+◌, List, [], ◌∷◌, codes, length, Bool, true, false, Option, Some, None, if◌then◌else◌}
use Rattle.bt_value.specs.declared.message.Msg.{Msg}
use Rattle.bt_ready.specs.declared.ready.Ready.{Ready}
use Rattle.bt_meaning.specs.Mapped.{checks}
use Rattle.bt_meaning.specs.declared.message.Spot.{Spot}
use Rattle.bt_mappings.specs.Interpolated.{interpolated}
use Rattle.bt_demand.specs.Tree.{Tree, Trees, leaf, drop, reject, all, first, hold, none, more}
use Rattle.bt_demand.specs.declared.demand.State.TheVariants.{Untried as Fresh}
use Rattle.bt_demand.specs.declared.demand.Stage.TheVariants.{Untried as Idle}
use Rattle.bt_outputs.specs.declared.output.Output.{Output, fold-Output}
use Rattle.bt_outputs.specs.declared.output.Output.TheOpen.{Output-F}
use Rattle.bt_outputs.specs.declared.output.OutputCase.{OutputCase}
use Rattle.bt_outputs.specs.declared.output.Shift.{Shift}

-- What a demand is made of: the bytes that its records have, the message, and its place in its batch.
pub record Given : Type 0 where
  pub bytes : List ℕ
  pub message : Msg
  pub spot : Spot

-- a message at its place
abbrev pub arrived : Msg → Spot → Given
arrived x at = record { bytes = x.content; message = x; spot = at }

-- What an output asks, where so many leaves and holds of earlier copies stand before it.
abbrev pub Route : Type 0
Route = Shift → Given → Tree

-- the demands of outputs in their order
abbrev pub each : List Route → Shift → Given → Trees
each [] s x = none
each (f ∷ fs) s x = more (f s x) (each fs s x)

-- the check of a case: without one all messages pass
abbrev pub passes : Option Ready → Given → Bool
passes None x = true
passes (Some r) x = checks r.mapping x.message x.spot

-- the check of a batching: without one no message ends the batch
abbrev pub ends : Option Ready → Given → Bool
ends None x = false
ends (Some r) x = checks r.mapping x.message x.spot

-- the outputs of the cases that pass, in order, up to the first of them without `continue`
abbrev pub chosen : List (OutputCase Route) → Given → List Route
chosen [] x = []
chosen (k ∷ ks) x = if passes k.check x then k.output ∷ (if k.goes_on then chosen ks x else []) else chosen ks x

-- what is asked where no case passes
abbrev pub unmatched : Bool → Tree
unmatched strict = if strict then reject (codes "switch: no case matched") else drop

abbrev pub matched : Bool → Trees → Tree
matched strict none = unmatched strict
matched strict (more t ts) = all (more t ts)

-- a flagged message is refused with the flag's text
abbrev pub unless_flagged : Option (List ℕ) → Tree → Tree
unless_flagged None t = t
unless_flagged (Some w) t = reject w

-- behind a copy with so many leaves and holds
abbrev pub behind : ℕ → ℕ → Shift → Shift
behind leaves holds s = record { leaves = s.leaves + leaves; holds = s.holds + holds }

-- so many copies, each with leaves and holds of its own, numbered copy by copy
abbrev pub copies_of : ℕ → ℕ → ℕ → Route → Shift → Given → Trees
copies_of zero leaves holds f s x = none
copies_of (suc n) leaves holds f s x = more (f s x) (copies_of n leaves holds f (behind leaves holds s) x)

-- what may be lost: with `error`, what the child loses is dropped
abbrev pub or_dropped : Bool → Tree → Tree
or_dropped error t = if error then first (more t (more drop none)) else t

-- one case for each kind of output
abbrev pub route_of : Output-F Route → Route
route_of (Output-F.Leaf n sink) s x = leaf (s.leaves + n) sink x.bytes Fresh
route_of Output-F.Drop s x = drop
route_of (Output-F.Reject text) s x = reject (interpolated text.list x.message x.spot)
route_of (Output-F.RejectErrored f) s x = unless_flagged x.message.flag (f s x)
route_of (Output-F.Broker fs) s x = all (each fs s x)
route_of (Output-F.Hold n check f) s x = hold (s.holds + n) (ends check x) (length x.message.content) (f s x) Idle
route_of (Output-F.Switch ks strict) s x = matched strict (each (chosen ks x) s x)
route_of (Output-F.Fallback fs) s x = first (each fs s x)
route_of (Output-F.Retry n leaves holds f) s x = first (copies_of n leaves holds f s x)
route_of (Output-F.DropOn error f) s x = or_dropped error (f s x)

abbrev pub route : Output → Route
route = fold-Output Route route_of

-- the first copy of all
abbrev pub no_shift : Shift
no_shift = record { leaves = 0; holds = 0 }

-- what an output asks of a message at its place in its batch
abbrev pub asked : Output → Msg → Spot → Tree
asked o x at = route o no_shift (arrived x at)
