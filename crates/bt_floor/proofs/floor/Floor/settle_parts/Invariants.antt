use Rattle.std.proofs.Common.{◌≡◌, length, []}
use Rattle.bt_moves.specs.Resting.{Delivering}
use Rattle.bt_moves.specs.Moves.{SlotStays}
use Rattle.bt_moves.specs.Moves.{OutStays}
use Rattle.bt_sound.specs.Turns.{Turned}
use Rattle.bt_floor.proofs.floor.Floor.settle_parts.Given as goal

abbrev pub invariant-loop-part : goal.invariant-loop-part
invariant-loop-part g l = record {
  delivering : Delivering l.slot l.part l.self.ledger;
  slots : length l.self.ledger.slots ≡ length l.initial.self.ledger.slots;
  stays : SlotStays l.initial.self.ledger l.self.ledger l.slot;
  outs : OutStays l.initial.self.ledger l.self.ledger;
  outside : l.self.outside ≡ l.initial.self.outside;
  turn : l.initial.self.ledger.policies ≡ [] → Turned g.K.Sink g.A.Answerer l.slot 0 l.part l.initial.self l.self;
}
