use Rattle.std.specs.Prelude.{ℕ, slice_set}
use Rattle.std.specs.Borrow.{LendsIf, MutBor, Fml, RattleType}
use Rattle.std.specs.Prelude.{Option}
use Rattle.bt_ports.specs.Contents.{Contents}
use Rattle.bt_ports.specs.contracts.sequence.Sequence.{the_row}

-- s with member i set to w
abbrev pub with_member : {T : Type 0} → Contents T → ℕ → T → Contents T
with_member s i w = record s { list = slice_set s.list i w }

-- s ends with member i set to the last value behind r, and as it was at None
abbrev pub LendsMember : (T : RattleType) → (s : MutBor (Contents T.Denot)) → ℕ → Option (MutBor T.Denot) → Fml
LendsMember T s i r = LendsIf (the_row T) T s r (with_member s.now i) s.now
