-- What the map of a name gives, by how deep maps may still nest.
use Rattle.std.proofs.Common.{◌≡◌, ◌<◌, ◌-◌, ℕ, zero, suc, List, [], arith, ap, refl}
use Rattle.bt_value.specs.declared.val.Val.{Val}
use Rattle.bt_value.specs.declared.val.Val.TheVariants as v
use Rattle.bt_value.specs.declared.message.Msg.{Msg}
use Rattle.bt_value.specs.declared.message.Out.TheVariants.{Value, Nothing}
use Rattle.bt_tree.specs.declared.tree.Stmt.{Stmt}
use Rattle.bt_meaning.specs.Maps as spec
use Rattle.bt_meaning.specs.declared.message.Spot.{Spot}

pub applied_none : (left : ℕ) (ss : List Stmt) (msg : Msg) (spot : Spot) (n : List ℕ) (x : Val) → left ≡ 0 → spec.applied left ss msg spot n x ≡ Nothing
applied_none zero ss msg spot n x h = refl
applied_none (suc i) ss msg spot n x h = absurd (omega arith)

pub applied_step : (left : ℕ) (ss : List Stmt) (msg : Msg) (spot : Spot) (n : List ℕ) (x : Val) → 0 < left → spec.applied left ss msg spot n x ≡ spec.run_map (spec.map_of n ss) (record { this = Value x; names = []; vars = []; root = Value v.Null; msg = msg; spot = spot; apply = spec.applied (left - 1) ss msg spot })
applied_step zero ss msg spot n x h = absurd (omega arith)
applied_step (suc i) ss msg spot n x h = ap (λ (k : ℕ). spec.run_map (spec.map_of n ss) (record { this = Value x; names = []; vars = []; root = Value v.Null; msg = msg; spot = spot; apply = spec.applied k ss msg spot })) (omega arith)
