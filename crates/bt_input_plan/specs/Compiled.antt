-- The input of a configuration, made ready.
use Rattle.std.specs.Prelude.{◌≡◌, List, [], codes}
use Rattle.bt_value.specs.declared.val.Val.{Val, out-Val}
use Rattle.bt_value.specs.declared.val.Val.TheOpen.{Val-F}
use Rattle.bt_making.specs.Sources.{AreMade}
use Rattle.bt_outlines.specs.Outlines.{Outline, plain}
use Rattle.bt_input_plan.specs.Made.{blanked, parts}
use Rattle.bt_input_plan.specs.Reading.{default, input_at, met}
use Rattle.bt_input_plan.specs.declared.plan.InputPlan.{InputPlan}

-- `input`: the lines of standard input, where it is absent
abbrev pub outline_in : Val-F Val → Outline InputPlan
outline_in (Val-F.Obj ms) = input_at (codes "input") (met ms)
outline_in _ = plain default

-- what the input of a configuration is to be made as
abbrev pub outline : Val → Outline InputPlan
outline config = outline_in (out-Val config)

-- This is the input of a configuration: it has its form, and each check of it is made ready.
pub record IsInputOf (config : Val) (i : InputPlan) : Type 0 where
  pub form : blanked i ≡ (outline config).form
  pub made : AreMade ((outline config).texts []) (parts i)
