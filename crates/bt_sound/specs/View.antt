-- What a floor shows: the ledger, the sinks, the answerer, the counts, and what no settling changes.
use Rattle.std.specs.Prelude.{ℕ, List, Bool, Option}
use Rattle.bt_ledger.specs.Ledger.{Ledger}
use Rattle.bt_ledger.specs.Open.{Open}
use Rattle.bt_sound.specs.declared.counts.Counts.{Counts}
use Rattle.bt_sound.specs.declared.counts.Ending.{Ending}

-- the plan, the intake, the clock, how many transactions were taken, how the intake ended, and how many items were refused
-- for want of memory
pub record Outside (I C D : Type 0) : Type 0 where
  pub plan : D
  pub intake : I
  pub clock : C
  pub taken : ℕ
  pub ending : Option Ending
  pub refused_memory : ℕ

-- `releases` has the number of releases of each hold, and `entries` how many entries the pool has
pub record FloorView (I K A C D : Type 0) : Type 0 where
  pub ledger : Ledger
  pub sinks : List K
  pub answerer : A
  pub releases : List ℕ
  pub counts : Counts
  pub entries : ℕ
  pub outside : Outside I C D

-- a closed transaction as it stood at its close, and whether it was refused for want of memory, without any part
pub record Past : Type 0 where
  pub state : Open
  pub memory : Bool
