use Rattle.std.specs.Prelude.{ℕ, Option}
use Rattle.bt_ports.specs.Contents.{Contents}
use Rattle.bt_ports.specs.declared.parts.Named.{Named}
use Rattle.bt_ports.specs.declared.parts.Next.{Next}

-- what contracts see of an input of lines: its sources as they stand, its bound, how many bytes it took, how many lines it gave, each as
-- a batch, and its answer other than a batch, if any
pub record InputView (S : Type 0) : Type 0 where
  pub sources : Contents (Named S)
  pub bound : ℕ
  pub taken : ℕ
  pub given : ℕ
  pub stopped : Option Next
