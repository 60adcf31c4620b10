use Rattle.std.specs.Prelude.{ℕ, List, Option}
use Rattle.bt_ports.specs.Contents.{Contents}
use Rattle.bt_ports.specs.declared.parts.Named.{Named}
use Rattle.bt_ports.specs.declared.parts.Next.{Next}
use Rattle.bt_intake.specs.declared.policy.Policy.{Policy}

-- what contracts see of an intake of lines: its sources as they stand, the delimiter of its lines, when its batches end, its bound, how
-- many bytes it took, how many batches and how many items it gave, and its answer other than a batch, if any
pub record LineView (S : Type 0) : Type 0 where
  pub sources : Contents (Named S)
  pub delimiter : List ℕ
  pub policy : Policy
  pub bound : ℕ
  pub taken : ℕ
  pub given : ℕ
  pub items : ℕ
  pub stopped : Option Next
