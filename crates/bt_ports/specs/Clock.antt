-- What a clock says.
use Rattle.std.specs.Prelude.{ℕ, ◌-◌, List, length, slice_index, min}

-- the reading after `made` earlier ones: the last of the list is repeated without end, and it is 0 where there is none
abbrev pub reading_at : List ℕ → ℕ → ℕ
reading_at readings made = slice_index readings (min made (length readings - 1))
