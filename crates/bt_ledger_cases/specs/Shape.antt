-- The demands of the random cases.
use Rattle.std.specs.Prelude.{ℕ, Bool, List}
use Rattle.bt_demand.specs.Tree.{Tree, Trees, leaf, drop, reject, all, first, hold, none, more}
use Rattle.bt_demand.specs.declared.demand.Stage.TheVariants.{Untried as Idle}
use Rattle.bt_demand.specs.declared.demand.State.TheVariants.{Untried as Fresh}
use Rattle.bt_ledger_cases.specs.declared.shapes.Shape.{Shape}
use Rattle.bt_ledger_cases.specs.declared.shapes.Shape.TheVariants.{Leaf, Drop, Reject, Held, Tiers, Both, Late}

abbrev record_of : ℕ → ℕ → List ℕ → Tree
record_of n k b = leaf n k b Fresh

abbrev pub two_of : Tree → Tree → Trees
two_of a b = more a (more b none)

abbrev held : ℕ → Bool → ℕ → Tree → Tree
held n e z t = hold n e z t Idle

-- a record; nothing; a reject; a held record; a record, and a held one where it is refused; two records held apart; and
-- both a record and a held one where the first is rejected
abbrev pub shape : Shape → Bool → ℕ → List ℕ → List ℕ → Tree
shape Leaf e z b w = record_of 0 0 b
shape Drop e z b w = drop
shape Reject e z b w = reject w
shape Held e z b w = held 0 e z (record_of 0 1 b)
shape Tiers e z b w = first (two_of (record_of 0 0 b) (held 1 e z (record_of 1 1 b)))
shape Both e z b w = all (two_of (held 0 e z (record_of 0 0 b)) (held 2 e z (record_of 1 1 b)))
shape Late e z b w = first (two_of (reject w) (all (two_of (record_of 0 0 b) (held 1 e z (record_of 1 1 b)))))
