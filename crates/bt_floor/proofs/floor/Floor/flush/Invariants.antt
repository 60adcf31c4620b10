use Rattle.std.proofs.Common.{◌≡◌, ℕ, ◌<◌, []}
use Rattle.bt_ledger.specs.Ledger.{chain_at}
use Rattle.bt_moves.specs.Moves.{Keeps, BeginsNone, RipensNone, OutStays}
use Rattle.bt_moves.specs.Resting.{AllSettled}
use Rattle.bt_floor.proofs.floor.Floor.flush.Given as goal

abbrev pub invariant-loop-node : goal.invariant-loop-node
invariant-loop-node g l = record {
  others : Keeps l.initial.self.ledger l.self.ledger;
  fresh : BeginsNone l.initial.self.ledger l.self.ledger;
  outs : OutStays l.initial.self.ledger l.self.ledger;
  calm : RipensNone l.initial.self.ledger l.self.ledger;
  outside : l.self.outside ≡ l.initial.self.outside;
  settled : AllSettled l.self.ledger;
  unheld : l.initial.self.ledger.policies ≡ [] → l.self ≡ l.initial.self;
  empties : (j : ℕ) → j < l.node → chain_at l.self.ledger j ≡ [];
}
