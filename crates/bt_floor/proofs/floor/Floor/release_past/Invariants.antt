use Rattle.std.proofs.Common.{◌≡◌, ℕ, ◌<◌, false}
use Rattle.bt_moves.specs.Moves.{Keeps, BeginsNone, RipensNone, OutStays}
use Rattle.bt_moves.specs.Resting.{AllSettled, StaysUnlessPast, waited_out}
use Rattle.bt_floor.proofs.floor.Floor.release_past.Given as goal

abbrev pub invariant-loop-node : goal.invariant-loop-node
invariant-loop-node g l = record {
  others : Keeps l.initial.self.ledger l.self.ledger;
  fresh : BeginsNone l.initial.self.ledger l.self.ledger;
  calm : RipensNone l.initial.self.ledger l.self.ledger;
  outs : OutStays l.initial.self.ledger l.self.ledger;
  outside : l.self.outside ≡ l.initial.self.outside;
  settled : AllSettled l.self.ledger;
  past : (j : ℕ) → j < l.node → waited_out l.self.ledger j l.moment ≡ false;
  unless : ((j : ℕ) → j < l.node → waited_out l.initial.self.ledger j l.moment ≡ false) → l.self ≡ l.initial.self;
  stays : StaysUnlessPast l.moment l.initial.self.ledger l.self.ledger;
}
