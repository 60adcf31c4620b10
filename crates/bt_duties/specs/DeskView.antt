-- What a desk shows.
use Rattle.std.specs.Prelude.{ℕ, Bool, List}
use Rattle.bt_duties.specs.declared.duty.Duty.{Duty}
use Rattle.bt_sound.specs.View.{FloorView}

-- the floor, the duties by their numbers, how many transactions may be out or open at once, and whether the run was finished
pub record DeskView (I K A C D : Type 0) : Type 0 where
  pub floor : FloorView I K A C D
  pub duties : List Duty
  pub window : ℕ
  pub finished : Bool
