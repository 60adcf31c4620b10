-- How the intake and the clock of a run went so far.
use Rattle.std.specs.Prelude.{◌≡◌, ℕ, ◌+◌, ◌^◌, ◌<◌, ◌≤◌, ◌⊎◌, length, IsTrue, Option, Some, None}
use Rattle.bt_ports.specs.Faults.{last_count}
use Rattle.bt_ports.specs.Intake.{InputStop, input_end, line_too_long, bound_met}
use Rattle.bt_ports.specs.declared.outside.Clock as Clock
use Rattle.bt_ports.specs.declared.outside.Intake as Intake
use Rattle.bt_ports.specs.declared.parts.Next.{Next}
use Rattle.bt_ports.specs.declared.parts.Next.TheVariants as next
use Rattle.bt_sound.specs.View.{Outside}
use Rattle.bt_sound.specs.declared.counts.Ending.{Ending}
use Rattle.bt_sound.specs.declared.counts.Ending.TheVariants as ending

-- the ending that an intake's answer other than a batch is
abbrev pub ending_of : Option Next → Option Ending
ending_of None = None
ending_of (Some (next.Batch items)) = None
ending_of (Some next.End) = Some ending.Ended
ending_of (Some next.Failed) = Some ending.ReadFault
ending_of (Some (next.LongLine n)) = Some (ending.LongLine n)
ending_of (Some next.Bound) = Some ending.Bound
ending_of (Some next.NoMemory) = Some ending.NoMemory

-- all batches were given where the run ended by the input's end, a line past its limit or the bound: `given` is how many
-- were given, and `all` how many there are
abbrev pub GaveAll : Option Ending → ℕ → ℕ → Type 0
GaveAll None given all = Unit {0}
GaveAll (Some ending.Ended) given all = given ≡ all
GaveAll (Some ending.ReadFault) given all = Unit {0}
GaveAll (Some (ending.LongLine n)) given all = given ≡ all
GaveAll (Some ending.Bound) given all = given ≡ all
GaveAll (Some ending.NoMemory) given all = Unit {0}

-- the ending is the stop of the intake's list of batches, where it is the end, a line past its limit or the bound
abbrev pub IsStop : Option Ending → InputStop → (bound : ℕ) → Type 0
IsStop None stop bound = Unit {0}
IsStop (Some ending.Ended) stop bound = stop ≡ input_end
IsStop (Some ending.ReadFault) stop bound = Unit {0}
IsStop (Some (ending.LongLine n)) stop bound = stop ≡ line_too_long n
IsStop (Some ending.Bound) stop bound = stop ≡ bound_met bound
IsStop (Some ending.NoMemory) stop bound = Unit {0}

-- a run that ended by a read fault counted one
abbrev pub FaultCounted : Option Ending → ℕ → Type 0
FaultCounted None faults = Unit {0}
FaultCounted (Some ending.Ended) faults = Unit {0}
FaultCounted (Some ending.ReadFault) faults = 1 ≤ faults
FaultCounted (Some (ending.LongLine n)) faults = Unit {0}
FaultCounted (Some ending.Bound) faults = Unit {0}
FaultCounted (Some ending.NoMemory) faults = Unit {0}

pub record Course {I C D : Type 0} (gi : Intake.Ghosts I) (gc : Clock.Ghosts C) (f : Outside I C D) : Type 0 where
  -- the intake gave a batch for each taken transaction, and the clock a reading
  pub given : IsTrue (gi.tells f.intake) → f.taken ≤ gi.given f.intake
  pub read : IsTrue (gc.tells f.clock) → (f.taken ≤ gc.made f.clock) ⊎ (gc.made f.clock ≡ last_count)
  -- no count of transactions passes this bound
  pub bounded : f.taken + gi.left f.intake < 2 ^ 56
  -- the run ended as its intake did, and goes on while the intake does
  pub ended : f.ending ≡ ending_of (gi.stopped f.intake)
  pub goes : f.ending ≡ None → gi.stopped f.intake ≡ None
  pub whole : IsTrue (gi.tells f.intake) → GaveAll f.ending (gi.given f.intake) (length (gi.batches f.intake))
  pub stop : IsTrue (gi.tells f.intake) → IsStop f.ending (gi.stop f.intake) (gi.bound f.intake)
  pub fault : FaultCounted f.ending (gi.faults f.intake)
