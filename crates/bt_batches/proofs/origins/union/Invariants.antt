use Rattle.std.proofs.Common.{◌≡◌, ℕ, ◌∷◌}
use Rattle.std.specs.VecDeque.{deque_len}
use Rattle.bt_batches.specs.Unions as spec
use Rattle.bt_batches.proofs.origins.union.Given as goal

abbrev pub invariant-loop-other : goal.invariant-loop-other
invariant-loop-other l = (q : ℕ) → spec.is_in_any (l.run ∷ l.runs.items) q ≡ spec.is_in_any (l.initial.run ∷ l.initial.runs.items) q

abbrev pub decreases-loop-other : goal.decreases-loop-other
decreases-loop-other l = deque_len l.runs
