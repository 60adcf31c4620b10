use Rattle.std.proofs.Common.{◌≡◌, drop, Ok}
use Rattle.bt_contexts.specs.Seen.{seen}
use Rattle.bt_meaning.specs.Mapped as spec
use Rattle.bt_mappings.proofs.statements.statements.Given as goal

abbrev pub invariant-loop-s : goal.invariant-loop-s
invariant-loop-s l = spec.statements (seen l.c) l.ss (Ok l.fn.state) ≡ spec.statements (seen l.c) (drop l.s-index l.ss) (Ok l.state)
