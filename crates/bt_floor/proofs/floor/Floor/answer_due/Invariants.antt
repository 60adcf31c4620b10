use Rattle.std.proofs.Common.{◌≡◌, ℕ}
use Rattle.bt_ledger.specs.Due.{unanswered, IsDue}
use Rattle.bt_ledger.specs.Ledger.{slot_at, answered_in, open_in}
use Rattle.bt_moves.specs.Moves.{Answering}
use Rattle.bt_sound.specs.Turns.{AnswererAdds}
use Rattle.bt_sound.proofs.Turns.{DueSoFar}
use Rattle.bt_floor.proofs.floor.Floor.answer_due.Given as goal

abbrev pub invariant-loop-item : goal.invariant-loop-item
invariant-loop-item g l = record { answering : Answering l.slot l.initial.self.ledger l.self.ledger; outside : l.self.outside ≡ l.initial.self.outside; releases : l.self.releases ≡ l.initial.self.releases; sinks : l.self.sinks ≡ l.initial.self.sinks; adds : AnswererAdds g.A.Answerer (DueSoFar (open_in (slot_at l.initial.self.ledger l.slot)) (open_in (slot_at l.self.ledger l.slot))) l.initial.self.answerer l.self.answerer; dues : (i : ℕ) → IsDue (open_in (slot_at l.self.ledger l.slot)) i → IsDue (open_in (slot_at l.initial.self.ledger l.slot)) i }

abbrev pub decreases-loop-item : goal.decreases-loop-item
decreases-loop-item g l = unanswered (answered_in (slot_at l.self.ledger l.slot))
