use Rattle.std.proofs.Common.{◌≡◌, ℕ, ◌+◌, ◌≤◌, ◌*◌, Some, true, []}
use Rattle.bt_demand.specs.Find.{begun}
use Rattle.bt_moves.specs.Moves.{Keeps, KeepsBut, left_to_do, LateKeeps, LateKeepsBut}
use Rattle.bt_ledger.specs.Ledger.{part_tree, parts_in, Roomy, slot_at, is_given, number_in}
use Rattle.bt_moves.specs.Moves.{RipensNone, BeginsNone, BeginsBut, OutStays}
use Rattle.bt_moves.specs.Resting.{AllSettled}
use Rattle.bt_sound.specs.Owned.{BatchFits, ReleasesRise}
use Rattle.bt_sound.specs.Turns.{OnlyPart, SinksAdd}
use Rattle.bt_sound.proofs.Turns.{Putting}
use Rattle.bt_floor.proofs.floor.Floor.+settling.Given as goal

abbrev pub decreases-release : goal.decreases-release
decreases-release g l = 2 * left_to_do l.self.now.ledger + 1

abbrev pub decreases-settle_part : goal.decreases-settle_part
decreases-settle_part g l = 2 * left_to_do l.self.now.ledger + 2

abbrev pub invariant-release-loop-entry : goal.invariant-release-loop-entry
invariant-release-loop-entry g l = record {
  others : Keeps l.initial.self.ledger l.self.ledger;
  late : (n : ℕ) → n ≤ l.node → LateKeepsBut l.node n l.initial.self.ledger l.self.ledger;
  fresh : BeginsNone l.initial.self.ledger l.self.ledger;
  settled : AllSettled l.self.ledger;
  rise : ReleasesRise l.initial.self.releases l.self.releases;
  fits : BatchFits l.self.releases (Some l.node) l.batch;
  outs : OutStays l.initial.self.ledger l.self.ledger;
  calm : RipensNone l.initial.self.ledger l.self.ledger;
  outside : l.self.outside ≡ l.initial.self.outside;
  no_more : left_to_do l.self.ledger ≤ left_to_do l.initial.self.ledger;
}

abbrev pub decreases-release-loop-entry : goal.decreases-release-loop-entry
decreases-release-loop-entry g l = left_to_do l.self.ledger

abbrev pub invariant-settle_part-loop-self : goal.invariant-settle_part-loop-self
invariant-settle_part-loop-self g l = record {
  others : KeepsBut l.slot l.part l.initial.self.ledger l.self.ledger;
  late : begun (part_tree l.initial.self.ledger l.slot l.part) ≡ true → (n : ℕ) → LateKeeps n l.initial.self.ledger l.self.ledger;
  room : is_given (slot_at l.self.ledger l.slot) ≡ true → Roomy l.self.ledger l.slot l.part;
  fresh : BeginsBut l.slot l.part l.initial.self.ledger l.self.ledger;
  settled : AllSettled l.self.ledger;
  rise : ReleasesRise l.initial.self.releases l.self.releases;
  outs : OutStays l.initial.self.ledger l.self.ledger;
  calm : RipensNone l.initial.self.ledger l.self.ledger;
  outside : l.self.outside ≡ l.initial.self.outside;
  turn : l.initial.self.ledger.policies ≡ [] → OnlyPart l.part (slot_at l.initial.self.ledger l.slot) (slot_at l.self.ledger l.slot) × (SinksAdd g.K.Sink (Putting (parts_in (slot_at l.initial.self.ledger l.slot)) (number_in (slot_at l.initial.self.ledger l.slot)) l.part (part_tree l.self.ledger l.slot l.part)) l.initial.self.sinks l.self.sinks × (l.self.answerer ≡ l.initial.self.answerer));
  no_more : left_to_do l.self.ledger ≤ left_to_do l.initial.self.ledger;
}

abbrev pub decreases-settle_part-loop-self : goal.decreases-settle_part-loop-self
decreases-settle_part-loop-self g l = left_to_do l.self.ledger
