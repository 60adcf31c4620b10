use Rattle.bt_ledger_cases.proofs.shapes.demand.Goals as goal

pub returns-in-Leaf : goal.returns-in-Leaf
returns-in-Leaf c = rw c.in-Leaf.is c.record.ensures

pub returns-in-Reject : goal.returns-in-Reject
returns-in-Reject c = rw c.in-Reject.is c.reject.ensures

pub returns-in-Held : goal.returns-in-Held
returns-in-Held c = rw c.in-Held.is c.held_record.ensures

pub returns-in-Tiers : goal.returns-in-Tiers
returns-in-Tiers c = rw c.in-Tiers.is c.tiers.ensures

pub returns-in-Both : goal.returns-in-Both
returns-in-Both c = rw c.in-Both.is c.both.ensures

pub returns-in-Late : goal.returns-in-Late
returns-in-Late c = rw c.in-Late.is c.late.ensures
