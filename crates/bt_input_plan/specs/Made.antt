-- Inputs with their checks left blank, and what these were made ready as.
use Rattle.std.specs.Prelude.{ℕ, List, [], ◌∷◌, ◌++◌}
use Rattle.bt_ports.specs.Contents.{Contents}
use Rattle.bt_making.specs.Sources.{Part, mapping}
use Rattle.bt_outlines.specs.Outlines.{blank, blank_of, joined, part_of}
use Rattle.bt_input_plan.specs.declared.plan.InputPlan.{InputPlan, fold-InputPlan}
use Rattle.bt_input_plan.specs.declared.plan.InputPlan.TheOpen.{InputPlan-F}
use Rattle.bt_input_plan.specs.declared.plan.InputPlan.TheVariants as input
use Rattle.bt_input_plan.specs.declared.plan.InputPolicy.{InputPolicy}

abbrev pub blank_policy : InputPolicy → InputPolicy
blank_policy p = record p { check = blank_of p.check }

-- names, whatever room there is behind them
abbrev pub bare : Contents (List ℕ) → Contents (List ℕ)
bare ns = record { list = ns.list; spare = 0 }

abbrev pub blank_step : InputPlan-F InputPlan → InputPlan
blank_step (InputPlan-F.Stdin d p) = input.Stdin d (blank_policy p)
blank_step (InputPlan-F.File ns d p) = input.File (bare ns) d (blank_policy p)
blank_step (InputPlan-F.Csv ns c h) = input.Csv (bare ns) c h
blank_step (InputPlan-F.Sequence is) = input.Sequence is
blank_step (InputPlan-F.Until i r) = input.Until i blank
blank_step (InputPlan-F.Regroup i p) = input.Regroup i (blank_policy p)

-- an input with its checks left blank
abbrev pub blanked : InputPlan → InputPlan
blanked = fold-InputPlan InputPlan blank_step

abbrev pub parts_step : InputPlan-F (List Part) → List Part
parts_step (InputPlan-F.Stdin d p) = part_of p.check
parts_step (InputPlan-F.File ns d p) = part_of p.check
parts_step (InputPlan-F.Csv ns c h) = []
parts_step (InputPlan-F.Sequence ps) = joined ps
parts_step (InputPlan-F.Until ps r) = mapping r ∷ ps
parts_step (InputPlan-F.Regroup ps p) = part_of p.check ++ ps

-- what the checks were made ready as, in their order
abbrev pub parts : InputPlan → List Part
parts = fold-InputPlan (List Part) parts_step
