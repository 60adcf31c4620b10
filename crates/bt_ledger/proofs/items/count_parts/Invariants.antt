use Rattle.bt_ledger.proofs.Raising.{PartCounted}
use Rattle.bt_ledger.proofs.items.count_parts.Given as goal

abbrev pub invariant-loop-i : goal.invariant-loop-i
invariant-loop-i l = PartCounted l.parts.items l.initial.counts.items l.counts.items l.i
