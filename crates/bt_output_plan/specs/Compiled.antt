-- The output of a configuration, made ready and numbered.
use Rattle.std.specs.Prelude.{◌≡◌, ℕ, List, [], ◌∷◌, false, Option, Some, None, length, map, codes}
use Rattle.bt_value.specs.Keys.{find}
use Rattle.bt_value.specs.declared.val.Val.{Val, out-Val}
use Rattle.bt_value.specs.declared.val.Val.TheOpen.{Val-F}
use Rattle.bt_demand.specs.declared.routes.HoldPolicy.{HoldPolicy}
use Rattle.bt_making.specs.Sources.{AreMade}
use Rattle.bt_outputs.specs.Numbers.{from_start, numbers}
use Rattle.bt_outputs.specs.declared.output.Output.{Output}
use Rattle.bt_outlines.specs.Outlines.{Outline}
use Rattle.bt_output_plan.specs.Drafts.{Draft, End, at_member}
use Rattle.bt_output_plan.specs.Made.{blanked, parts}
use Rattle.bt_output_plan.specs.Reading.{leaf, reading}
use Rattle.bt_output_plan.specs.Sinks.{sinks_of}
use Rattle.bt_output_plan.specs.declared.plan.OutputPlan.{OutputPlan}

-- `output`: the lines of standard output, where it is absent
abbrev pub draft_of : Option Val → Draft Output
draft_of (Some v) = (reading v).output
draft_of None = leaf (codes "stdout") (10 ∷ [])

abbrev pub draft_in : Val-F Val → Draft Output
draft_in (Val-F.Obj ms) = draft_of (find (codes "output") ms)
draft_in _ = draft_of None

-- what the output of a configuration is to be made as
abbrev pub draft : Val → Draft Output
draft config = at_member (codes "output") (draft_in (out-Val config))

-- its sinks in order of their first leaf, each with its closing bytes
abbrev pub sinks : Val → List End
sinks config = sinks_of (draft config).ends

abbrev pub outline : Val → Outline Output
outline config = (draft config).outline (map (λ e. e.0) (sinks config)) false

-- This is the output of a configuration: it has its form, with each text made ready; its leaves and holds are numbered as they stand;
-- the sinks are named in order of their first leaf, with their closing bytes in that order; and the policies of the holds stand by
-- their numbers.
pub record IsOutputOf (config : Val) (p : OutputPlan) : Type 0 where
  pub form : blanked p.output ≡ (outline config).form
  pub made : AreMade ((outline config).texts []) (parts p.output)
  pub numbered : numbers (length p.sinks.list) p.output from_start ≡ Some (record { leaf = p.leaves; hold = length p.holds.list })
  pub sinks_in_order : p.sinks.list ≡ map (λ e. e.0) (sinks config)
  pub closing_bytes : p.ends.list ≡ map (λ e. e.1) (sinks config)
  pub policies : p.holds.list ≡ (draft config).holds false
