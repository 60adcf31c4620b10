use Rattle.std.specs.Prelude.{ℕ, List}

-- what a list has: its members, and how many more it takes without asking for memory
pub record Contents (T : Type 0) : Type 0 where
  pub list : List T
  pub spare : ℕ
