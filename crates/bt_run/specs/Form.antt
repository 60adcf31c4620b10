-- Which configurations run today.
use Rattle.std.specs.Prelude.{◌≡◌, ◌≢◌, ◌||◌, ℕ, zero, suc, Bool, true, false, is_some, List, [], Option, Result, Ok, Err, codes}
use Rattle.bt_config.specs.Violations.{AreViolations}
use Rattle.bt_config_file.specs.Reading.{HasConfig, RefusalSays}
use Rattle.bt_desk.specs.declared.report.Report.{Report}
use Rattle.bt_schema.specs.declared.lints.Lint.{Lint}
use Rattle.bt_value.specs.Keys.{find}
use Rattle.bt_value.specs.declared.val.Val.{Val, out-Val}
use Rattle.bt_value.specs.declared.val.Val.TheOpen.{Val-F}
use Rattle.bt_run.specs.declared.halt.Halt.{Halt}
use Rattle.bt_run.specs.declared.halt.Halt.TheVariants as halt
use Rattle.bt_run.specs.declared.halt.Unfit.{Unfit}
use Rattle.bt_run.specs.declared.halt.Unfit.TheVariants as unfit

-- the members of an object
abbrev pub members_of : Val-F Val → List (List ℕ × Val)
members_of (Val-F.Obj ms) = ms
members_of _ = []

abbrev pub has_member : Val → List ℕ → Bool
has_member v key = is_some (find key (members_of (out-Val v)))

-- whether an input, a pipeline or an output is named
abbrev pub names_parts : Val → Bool
names_parts v = has_member v (codes "input") || has_member v (codes "pipeline") || has_member v (codes "output")

-- the file has a configuration with these lints, and it names parts or not
pub record HasLinted (file : Option (List ℕ)) (lints : List Lint) (parts : Bool) : Type 0 where
  pub config : Val
  pub in_file : HasConfig file config
  pub violations : AreViolations config lints
  pub named : names_parts config ≡ parts

-- the file has a configuration that runs: one without lints that names neither an input, a pipeline nor an output
abbrev pub HasBuiltForm : Option (List ℕ) → Type 0
HasBuiltForm file = HasLinted file [] false

-- why the file's configuration isn't run
abbrev pub UnfitSays : Unfit → Option (List ℕ) → Type 0
UnfitSays (unfit.Refused r) file = RefusalSays r file
UnfitSays (unfit.Lints lints) file = (lints ≢ []) × ((parts : Bool) × HasLinted file lints parts)
UnfitSays unfit.NotBuilt file = HasLinted file [] true

-- what the told file says of a run: one that began, and one of which an opening failed, has a configuration that runs
abbrev pub FormSays : Result Report Halt → Option (List ℕ) → Type 0
FormSays (Ok report) file = HasBuiltForm file
FormSays (Err (halt.Failed zero)) file = Unit {0}
FormSays (Err (halt.Failed (suc k))) file = HasBuiltForm file
FormSays (Err (halt.Config u)) file = UnfitSays u file
FormSays (Err halt.NoMemory) file = Unit {0}
