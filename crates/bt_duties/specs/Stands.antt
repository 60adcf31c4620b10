-- The run stands: what holds between two calls of a desk, beside the closed transactions as they stood at their close.
use Rattle.std.specs.Prelude.{◌≡◌, ℕ, ◌≤◌, true, List}
use Rattle.std.specs.List.{AllByRecursion}
use Rattle.bt_demand.specs.Holding.{waiting}
use Rattle.bt_demand.specs.declared.derive.Derive as Derive
use Rattle.bt_duties.specs.DeskView.{DeskView}
use Rattle.bt_duties.specs.Standing.{Standing}
use Rattle.bt_ledger.specs.Book.{Booked}
use Rattle.bt_leaves.specs.Pursued.{Pursued}
use Rattle.bt_ledger.specs.Ledger.{slot_at, is_given, held, opened, over_parts, parts_in, part_tree}
use Rattle.bt_ledger.specs.Open.{tree_of}
use Rattle.bt_ports.specs.declared.outside.Answerer as Answerer
use Rattle.bt_ports.specs.declared.outside.Clock as Clock
use Rattle.bt_ports.specs.declared.outside.Intake as Intake
use Rattle.bt_ports.specs.declared.outside.Sink as Sink
use Rattle.bt_sound.specs.Sound.{Sound}
use Rattle.bt_sound.specs.View.{Past}

pub record Stands {I K A C D : Type 0} (gi : Intake.Ghosts I) (gk : Sink.Ghosts K) (ga : Answerer.Ghosts A) (gc : Clock.Ghosts C) (gd : Derive.Ghosts D) (d : DeskView I K A C D) (closed : List Past) : Type 0 where
  -- each taken transaction is out, open or closed, and one of the run; its trees are the plan's; each leaf has the records
  -- of its state, and there are no others; each record has its leaf's sink and bytes, and a batch number that fits the hold
  -- over it; each item has its one answer where all its parts are settled; the counts are the numbers of these
  pub sound : Sound gi gk ga gc gd d.floor closed
  -- each duty is idle or names a transaction that is out; no part can go on, the child of each released hold is met or
  -- lost, nothing is due, and no chain is ripe
  pub standing : Standing d
  -- each hold that waits has one entry, in its own chain, with what it says; no other entry is there; all chains have
  -- together at most as many entries as the booked holds, and these are at most the pool's
  pub booked : Booked d.floor.ledger
  -- each open transaction has a hold that waits
  pub waits : (s : ℕ) → is_given (slot_at d.floor.ledger s) ≡ true → 1 ≤ over_parts waiting (parts_in (slot_at d.floor.ledger s))
  -- each asked hold waits or was released, and each asked leaf that isn't below a hold that waits was tried, so that it has
  -- a record; so it was in each transaction that is closed
  pub asked : (s p : ℕ) → Pursued (part_tree d.floor.ledger s p)
  pub past_asked : AllByRecursion (λ q. (p : ℕ) → Pursued (tree_of q.state.parts p)) closed
  -- what is held: no more transactions are out or open than the window says, and no more entries wait than the pool has
  pub few : opened d.floor.ledger ≤ d.window
  pub entries : held d.floor.ledger ≤ d.floor.ledger.entries

-- it stands beside some list of them
abbrev pub IsStanding : {I K A C D : Type 0} → Intake.Ghosts I → Sink.Ghosts K → Answerer.Ghosts A → Clock.Ghosts C → Derive.Ghosts D → DeskView I K A C D → Type 0
IsStanding gi gk ga gc gd d = (closed : List Past) × Stands gi gk ga gc gd d closed
