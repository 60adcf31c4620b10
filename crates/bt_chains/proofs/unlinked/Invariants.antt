use Rattle.std.proofs.Common.{◌≡◌, ℕ, ◌<◌, ◌+◌, get_or, length}
use Rattle.bt_chains.proofs.unlinked.Given as goal

abbrev pub invariant-loop-i : goal.invariant-loop-i
invariant-loop-i l = (length l.links.items ≡ l.entries) × ((j : ℕ) → j < l.i → get_or l.links.items j 0 ≡ j + 1)
