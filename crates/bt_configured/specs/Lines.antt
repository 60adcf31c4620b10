-- How the input of a configuration is read as lines.
use Rattle.std.specs.Prelude.{ℕ, List, Option, Some, None, if◌then◌else◌}
use Rattle.bt_input_plan.specs.declared.plan.InputPlan.{InputPlan, out-InputPlan}
use Rattle.bt_input_plan.specs.declared.plan.InputPlan.TheOpen.{InputPlan-F}
use Rattle.bt_input_plan.specs.declared.plan.InputPolicy.{InputPolicy}
use Rattle.bt_pipelines.specs.declared.launch.Cuts.{Cuts}
use Rattle.bt_ports.specs.Contents.{Contents}
use Rattle.bt_schema.specs.Texts.{fits}
use Rattle.bt_configured.specs.declared.lines.Lines.{Lines}

-- lines end with the delimiter, and batches by the policy
abbrev pub cuts_by : List ℕ → InputPolicy → Cuts
cuts_by d p = record { delimiter = d; policy = record { count = p.count; byte_size = p.byte_size; check = p.check } }

-- lines of files, or else of the standard input, where the delimiter has 1 to 16 bytes
abbrev pub lines_by : Option (Contents (List ℕ)) → List ℕ → InputPolicy → Option Lines
lines_by files d p = if fits d then Some (record { files = files; cuts = cuts_by d p }) else None

abbrev pub lines_in : InputPlan-F InputPlan → Option Lines
lines_in (InputPlan-F.Stdin d p) = lines_by None d p
lines_in (InputPlan-F.File ns d p) = lines_by (Some ns) d p
lines_in (InputPlan-F.Csv ns c h) = None
lines_in (InputPlan-F.Sequence is) = None
lines_in (InputPlan-F.Until i r) = None
lines_in (InputPlan-F.Regroup i p) = None

-- How an input is read as lines, where it is one that runs.
abbrev pub lines_of : InputPlan → Option Lines
lines_of i = lines_in (out-InputPlan i)

abbrev pub names_in : Option (Contents (List ℕ)) → Option (List (List ℕ))
names_in (Some ns) = Some ns.list
names_in None = None

-- the paths of the files that are read, or none for the standard input
abbrev pub files_of : Lines → Option (List (List ℕ))
files_of l = names_in l.files
