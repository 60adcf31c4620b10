use Rattle.std.proofs.Common.{◌≡◌, ℕ, ◌≤◌}
use Rattle.bt_ledger.specs.Ledger.{part_tree, IsPart}
use Rattle.bt_moves.specs.Moves.{left_to_do, StepAt}
use Rattle.bt_moves.specs.Moves.{LateKeeps}
use Rattle.bt_demand.specs.Reached.{Reach}
use Rattle.bt_moves.specs.Moves.{RipensNone}
use Rattle.bt_moves.specs.Resting.{AllSettledBut}
use Rattle.bt_floor.proofs.floor.Floor.settle_child.Given as goal

abbrev pub invariant-loop-next : goal.invariant-loop-next
invariant-loop-next g l = record {
  part : IsPart l.self.ledger l.slot l.part;
  step : StepAt l.slot l.part l.initial.self.ledger l.self.ledger;
  late : (n : ℕ) → LateKeeps n l.initial.self.ledger l.self.ledger;
  reach : Reach l.node (part_tree l.self.ledger l.slot l.part);
  calm : RipensNone l.initial.self.ledger l.self.ledger;
  outside : l.self.outside ≡ l.initial.self.outside;
  settled : AllSettledBut l.node l.slot l.part l.self.ledger;
  releases : l.self.releases ≡ l.initial.self.releases;
  no_more : left_to_do l.self.ledger ≤ left_to_do l.initial.self.ledger;
}

abbrev pub decreases-loop-next : goal.decreases-loop-next
decreases-loop-next g l = left_to_do l.self.ledger
