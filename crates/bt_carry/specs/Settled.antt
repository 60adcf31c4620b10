-- The parts of a transaction, once the records that sinks tell have settled them.
use Rattle.std.specs.Prelude.{ℕ, ◌+◌, ◌<◌, ltb, if◌then◌else◌, List, [], ◌∷◌, length, get_or, flat_map}
use Rattle.std.specs.List.{AllByRecursion}
use Rattle.bt_demand.specs.Parts.{Part}
use Rattle.bt_demand.specs.Recorded.{recorded}
use Rattle.bt_demand.specs.declared.demand.State.{State}
use Rattle.bt_demand.specs.declared.demand.State.TheVariants.{Untried, Good, Bad}
use Rattle.bt_ports.specs.declared.outside.Sink as Sink
use Rattle.bt_ports.specs.declared.parts.Record.{Record}
use Rattle.bt_sound.specs.Records.{records_of}

-- all records that the sinks accepted
abbrev pub all_accepted : {K : Type 0} → Sink.Ghosts K → List K → List Record
all_accepted g ks = flat_map g.accepted ks

-- all that they refused
abbrev pub all_refused : {K : Type 0} → Sink.Ghosts K → List K → List Record
all_refused g ks = flat_map g.refused ks

-- what became of a leaf: its record was accepted, or it was refused, or there is none
abbrev pub state_among : (accepted refused : List Record) → (n p l : ℕ) → State
state_among accepted refused n p l = (if ltb 0 (records_of n p l accepted) then Good else (if ltb 0 (records_of n p l refused) then Bad else Untried))

-- the parts of transaction n, numbered from a number on, of which each leaf has what became of it and no hold waits
abbrev pub settled_from : (accepted refused : List Record) → (n p : ℕ) → List Part → List Part
settled_from accepted refused n p [] = []
settled_from accepted refused n p (x ∷ xs) = record { from = x.from; demand = recorded (state_among accepted refused n p) x.demand } ∷ settled_from accepted refused n (p + 1) xs

abbrev pub settled : {K : Type 0} → Sink.Ghosts K → List K → ℕ → List Part → List Part
settled g ks n ps = settled_from (all_accepted g ks) (all_refused g ks) n 0 ps

-- something of each record that sink k tells, accepted or refused
abbrev pub EachRecord : {K : Type 0} → Sink.Ghosts K → List K → (ℕ → Record → Type 0) → Type 0
EachRecord {K} g ks P = (k : ℕ) (d : K) → k < length ks → AllByRecursion (P k) (g.accepted (get_or ks k d)) × AllByRecursion (P k) (g.refused (get_or ks k d))
