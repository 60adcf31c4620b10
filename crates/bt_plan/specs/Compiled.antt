-- The plan of a configuration, and why there is none.
use Rattle.std.specs.Prelude.{◌≡◌, ◌⊎◌, ℕ, List, [], ◌∷◌, Bool, false, length, codes}
use Rattle.bt_value.specs.declared.val.Val.{Val}
use Rattle.bt_schema.specs.declared.lints.Lint.{Lint}
use Rattle.bt_schema.specs.declared.lints.LintKind.TheVariants as lint
use Rattle.bt_making.specs.Sources.{IsFirstLint}
use Rattle.bt_config.specs.Violations.{AreViolations}
use Rattle.bt_compile.specs.Compiled.{AreProcessorsAt, IsFaultAt}
use Rattle.bt_compile.specs.declared.fault.ProcsFault.TheVariants as procs
use Rattle.bt_proc.specs.declared.tree.Processor.{Processor}
use Rattle.bt_parts.specs.Plans.{stands_well}
use Rattle.bt_output_plan.specs.Compiled.{IsOutputOf, outline}
use Rattle.bt_output_plan.specs.declared.plan.OutputPlan.{OutputPlan}
use Rattle.bt_input_plan.specs.Compiled as inputs
use Rattle.bt_routing.specs.declared.plan.Plan.{Plan}
use Rattle.bt_plan.specs.Numbers as numbers
use Rattle.bt_plan.specs.declared.fault.CompileFault.{CompileFault}
use Rattle.bt_plan.specs.declared.fault.CompileFault.TheVariants as fault

abbrev pub at_pipeline : List ℕ
at_pipeline = codes "/pipeline/processors"

-- the processors of `pipeline`, and none where the configuration has no such list
abbrev pub AreProcessorsOf : Val → List Processor → Type 0
AreProcessorsOf config ps = AreProcessorsAt config at_pipeline ps ⊎ (IsFaultAt config at_pipeline procs.NotThere × (ps ≡ []))

-- the output of a plan, with its sinks and holds and so many leaves
abbrev pub output_plan : ℕ → Plan → OutputPlan
output_plan leaves p = record { output = p.output; sinks = p.sinks; ends = p.ends; holds = p.holds; leaves = leaves }

-- This is the plan of a configuration.
pub record IsPlanOf (config : Val) (p : Plan) : Type 0 where
  pub procs : AreProcessorsOf config p.procs
  pub output : (leaves : ℕ) × IsOutputOf config (output_plan leaves p)
  pub threads : p.threads ≡ numbers.threads config
  pub window : p.window ≡ numbers.window config

-- ---- why there is none

-- The lint of a text that isn't made ready, though the configuration has no lint: a pattern of it is refused.
abbrev pub IsRefusedText : Val → Lint → Type 0
IsRefusedText config l =
    IsFirstLint ((inputs.outline config).texts []) l ⊎ (IsFirstLint ((outline config).texts []) l ⊎ IsFaultAt config at_pipeline (procs.Lint l))

-- the output of the configuration has more than 256 leaves or sinks, or more than 64 holds
abbrev pub IsTooLarge : Val → Lint → Type 0
IsTooLarge config l = (l ≡ record { pointer = codes "/output"; kind = lint.TooMany })
    × ((p : OutputPlan) × IsOutputOf config p × (stands_well (length p.sinks.list) (length p.holds.list) p.output ≡ false))

abbrev pub AreLintsOf : Val → List Lint → Type 0
AreLintsOf config [] = ⊥
AreLintsOf config (l ∷ []) = AreViolations config (l ∷ []) ⊎ (AreViolations config [] × (IsRefusedText config l ⊎ IsTooLarge config l))
AreLintsOf config (l ∷ m ∷ ls) = AreViolations config (l ∷ m ∷ ls)

-- Want of memory may come at any time.
abbrev pub IsFaultOf : Val → CompileFault → Type 0
IsFaultOf config (fault.Lints ls) = AreLintsOf config ls
IsFaultOf config fault.NoMemory = Unit {0}

-- the fault of this one lint, or want of memory
abbrev pub IsOneLint : Lint → CompileFault → Type 0
IsOneLint l (fault.Lints ls) = ls ≡ l ∷ []
IsOneLint l fault.NoMemory = Unit {0}
