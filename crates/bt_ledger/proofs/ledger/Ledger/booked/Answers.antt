use Rattle.std.proofs.Common.{◌≤◌, subst}
use Rattle.bt_ledger.specs.Ledger.{Ledger, booked, held}
use Rattle.bt_ledger.proofs.Keeping.{held_booked}
use Rattle.bt_ledger.proofs.ledger.Ledger.booked.Goals as goal

pub returns-clause-held : goal.returns-clause-held
returns-clause-held c = subst (λ (l : Ledger). held l ≤ booked l) c.self.view_is (held_booked _ c.self.invariant.book)
