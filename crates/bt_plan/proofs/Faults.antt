-- A fault of one lint that a configuration without lints has.
use Rattle.std.proofs.Common.{◌≡◌, ◌⊎◌, List, [], ◌∷◌, false, codes, inl, inr, length, refl, subst, sym}
use Rattle.bt_value.specs.declared.val.Val.{Val}
use Rattle.bt_schema.specs.declared.lints.Lint.{Lint}
use Rattle.bt_schema.specs.declared.lints.LintKind.TheVariants as lint
use Rattle.bt_making.specs.Sources.{IsFirstLint}
use Rattle.bt_config.specs.Violations.{AreViolations}
use Rattle.bt_compile.specs.Compiled.{AreProcessorsAt, IsFaultAt}
use Rattle.bt_compile.specs.declared.fault.ProcsFault.TheVariants as procs
use Rattle.bt_proc.specs.declared.tree.Processor.{Processor}
use Rattle.bt_parts.specs.Plans.{stands_well}
use Rattle.bt_input_plan.specs.Compiled as inputs
use Rattle.bt_output_plan.specs.Compiled.{IsOutputOf, outline}
use Rattle.bt_output_plan.specs.declared.plan.OutputPlan.{OutputPlan}
use Rattle.bt_plan.specs.Compiled.{AreLintsOf, AreProcessorsOf, IsFaultOf, IsOneLint, IsRefusedText, IsTooLarge, at_pipeline}
use Rattle.bt_plan.specs.declared.fault.CompileFault.{CompileFault}
use Rattle.bt_plan.specs.declared.fault.CompileFault.TheVariants as fault

one_fault : (config : Val) (l : Lint) (f : CompileFault) → AreViolations config [] → IsRefusedText config l ⊎ IsTooLarge config l → IsOneLint l f → IsFaultOf config f
one_fault config l (fault.Lints ls) clean why is = subst (AreLintsOf config) (sym is) (inr (clean, why))
one_fault config l fault.NoMemory clean why is = tt

pub input_fault : (config : Val) (l : Lint) (f : CompileFault) → IsOneLint l f → AreViolations config [] → IsFirstLint ((inputs.outline config).texts []) l → IsFaultOf config f
input_fault config l f is clean h = one_fault config l f clean (inl (inl h)) is

pub output_fault : (config : Val) (l : Lint) (f : CompileFault) → IsOneLint l f → AreViolations config [] → IsFirstLint ((outline config).texts []) l → IsFaultOf config f
output_fault config l f is clean h = one_fault config l f clean (inl (inr (inl h))) is

pub procs_fault : (config : Val) (l : Lint) (f : CompileFault) → IsOneLint l f → AreViolations config [] → IsFaultAt config at_pipeline (procs.Lint l) → IsFaultOf config f
procs_fault config l f is clean h = one_fault config l f clean (inl (inr (inr h))) is

pub large_fault : (config : Val) (p : OutputPlan) (f : CompileFault) → IsOneLint (record { pointer = codes "/output"; kind = lint.TooMany }) f → AreViolations config [] →
    IsOutputOf config p → stands_well (length p.sinks.list) (length p.holds.list) p.output ≡ false → IsFaultOf config f
large_fault config p f is clean h large = one_fault config (record { pointer = codes "/output"; kind = lint.TooMany }) f clean (inr (refl, (p, h, large))) is

-- the processors that are there, or none
pub some_procs : (config : Val) (ps : List Processor) → AreProcessorsAt config at_pipeline ps → AreProcessorsOf config ps
some_procs config ps h = inl h

pub no_procs : (config : Val) (ps : List Processor) → ps ≡ [] → IsFaultAt config at_pipeline procs.NotThere → AreProcessorsOf config ps
no_procs config ps e h = inr (h, e)
