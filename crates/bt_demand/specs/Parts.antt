-- The parts of a transaction: the items that each comes from, and what it asks for.
use Rattle.std.specs.Prelude.{ℕ, ◌<◌, List, [], ◌∷◌, length}
use Rattle.std.specs.List.{AllByRecursion}
use Rattle.bt_demand.specs.Tree.{Tree}
use Rattle.bt_demand.specs.View.{tree}
use Rattle.bt_demand.specs.WellFormed.{WellFormed, Rises}
use Rattle.bt_demand.specs.declared.routes.Routed.{Routed}

pub record Part : Type 0 where
  pub from : List ℕ
  pub demand : Tree

-- the parts of a list of the program
abbrev pub parts_of : List Routed → List Part
parts_of [] = []
parts_of (r ∷ rs) = record { from = r.from; demand = tree r.demand } ∷ parts_of rs

-- a part of a transaction of so many items: it comes from one of them at least, and its demand is well formed
pub record PartFits (sink_count : ℕ) (hold_count : ℕ) (items : ℕ) (p : Part) : Type 0 where
  pub some : 0 < length p.from
  pub rising : Rises p.from
  pub known : AllByRecursion (λ i. i < items) p.from
  pub well_formed : WellFormed sink_count hold_count p.demand

abbrev pub PartsFit : ℕ → ℕ → ℕ → List Part → Type 0
PartsFit sink_count hold_count items [] = Unit {0}
PartsFit sink_count hold_count items (p ∷ ps) = PartFits sink_count hold_count items p × PartsFit sink_count hold_count items ps
