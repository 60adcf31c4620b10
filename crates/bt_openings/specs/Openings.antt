-- What calls that open something do to a world.
use Rattle.std.specs.Prelude.{◌≡◌, ℕ, ◌≤◌, Bool, IsTrue, List, [], ◌∷◌, ◌++◌, length, take, slice_get, Some, Result, Ok, Err}
use Rattle.bt_commands.specs.Calls.{failed}
use Rattle.bt_commands.specs.Lines.{failure_line, no_memory_line}
use Rattle.bt_commands.specs.Outside.{StillTold}
use Rattle.bt_openings.specs.declared.stop.Stop.{Stop}
use Rattle.bt_openings.specs.declared.stop.Stop.TheVariants as stop
use Rattle.bt_ports.specs.Faults.{Rose}
use Rattle.bt_ports.specs.World.{Tale}
use Rattle.bt_ports.specs.declared.parts.Asked.{Asked}
use Rattle.bt_ports.specs.declared.world.World as World

-- All calls were answered with what they asked for. They stand at the end of the list of calls, and of all else only what is
-- left of the standard input changed.
abbrev pub AllMade : {E I : Type 0} → List Asked → Tale E I → Tale E I → Type 0
AllMade calls a b = b ≡ record a { calls = a.calls ++ calls; stdin = b.stdin }

-- A call failed: it stands behind those that were answered before it, and none was made after it. A line says so, where
-- lines are told.
pub record FailedAt {E I : Type 0} (calls : List Asked) (lines : Bool) (a b : Tale E I) : Type 0 where
  pub place : ℕ
  pub call : Asked
  pub there : slice_get calls place ≡ Some call
  pub only : b ≡ record a { calls = a.calls ++ (take place calls ++ failed call ∷ []); stdin = b.stdin; lines = b.lines }
  pub said : IsTrue lines → b.lines ≡ a.lines ++ failure_line call ∷ []

-- Memory was wanting after some of the calls were answered, and none was made after that. A line says so.
pub record WantedAt {E I : Type 0} (calls : List Asked) (lines : Bool) (a b : Tale E I) : Type 0 where
  pub place : ℕ
  pub within : place ≤ length calls
  pub only : b ≡ record a { calls = a.calls ++ take place calls; stdin = b.stdin; lines = b.lines }
  pub said : IsTrue lines → b.lines ≡ a.lines ++ no_memory_line ∷ []

abbrev pub StoppedAt : {E I : Type 0} → Stop → List Asked → Bool → Tale E I → Tale E I → Type 0
StoppedAt stop.Failed calls lines a b = FailedAt calls lines a b
StoppedAt stop.NoMemory calls lines a b = WantedAt calls lines a b

abbrev pub MadeSo : {T E I : Type 0} → Result T Stop → List Asked → Bool → Tale E I → Tale E I → Type 0
MadeSo (Ok x) calls lines a b = AllMade calls a b
MadeSo (Err s) calls lines a b = StoppedAt s calls lines a b

-- an opening failed only where the count of open faults rose
abbrev pub RoseWhere : {T : Type 0} → Result T Stop → ℕ → ℕ → Type 0
RoseWhere (Ok x) before after = Unit {0}
RoseWhere (Err stop.Failed) before after = Rose before after
RoseWhere (Err stop.NoMemory) before after = Unit {0}

-- These calls opened something, or stopped at one of them. Nothing was read or printed.
pub record Opens {W S K A C T : Type 0} (g : World.Ghosts W S K A C) (calls : List Asked) (result : Result T Stop) (a b : W) : Type 0 where
  pub told : StillTold g a b
  pub files : g.file_faults b ≡ g.file_faults a
  pub prints : g.print_faults b ≡ g.print_faults a
  pub counted : g.open_faults a ≤ g.open_faults b
  pub rose : RoseWhere result (g.open_faults a) (g.open_faults b)
  pub tells : IsTrue (g.tells b) → MadeSo result calls (g.tells_lines b) (g.tale a) (g.tale b)
