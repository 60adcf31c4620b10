-- What a run of a configuration that names its parts does to the world.
use Rattle.std.specs.Prelude.{◌≡◌, ℕ, ◌-◌, ◌≤◌, ◌++◌, ◌∷◌, ◌⊎◌, Bool, IsTrue, IsSome, IfOk, List, [], length, map, codes, Option, Some, None, Result, Ok, Err}
use Rattle.bt_commands.specs.Lines.{no_memory_line}
use Rattle.bt_commands.specs.Outside.{Outside, StillTold}
use Rattle.bt_demand.specs.declared.derive.Derive as Derive
use Rattle.bt_duties.specs.declared.report.Report.{Report}
use Rattle.bt_input_plan.specs.Compiled.{IsInputOf}
use Rattle.bt_input_plan.specs.declared.plan.InputPlan.{InputPlan}
use Rattle.bt_intake.specs.Batches.{batches}
use Rattle.bt_intake.specs.Sources.{all_tell, fault_count, inputs, openings, told}
use Rattle.bt_intake.specs.View.{LineView}
use Rattle.bt_lines.specs.Lines.{stop}
use Rattle.bt_openings.specs.Openings.{FailedAt}
use Rattle.bt_openings.specs.Plan as opened
use Rattle.bt_openings.specs.declared.stop.Stop.TheVariants as stops
use Rattle.bt_parts.specs.Parts.{parts_by}
use Rattle.bt_pipelines.specs.Launched.{HaltTells, RanTells}
use Rattle.bt_plan.specs.Compiled.{IsFaultOf, IsPlanOf}
use Rattle.bt_plan.specs.declared.fault.CompileFault.TheVariants as fault
use Rattle.bt_ports.specs.Contents.{Contents}
use Rattle.bt_ports.specs.Faults.{Rose}
use Rattle.bt_ports.specs.World.{Tale}
use Rattle.bt_ports.specs.declared.outside.Intake as Intake
use Rattle.bt_ports.specs.declared.outside.Source as Source
use Rattle.bt_ports.specs.declared.parts.Asked.{Asked}
use Rattle.bt_ports.specs.declared.parts.Ends.{Ends}
use Rattle.bt_ports.specs.declared.parts.Named.{Named}
use Rattle.bt_routing.specs.declared.plan.Plan.{Plan}
use Rattle.bt_schema.specs.Lines.{line}
use Rattle.bt_value.specs.declared.val.Val.{Val}
use Rattle.bt_configured.specs.Lines.{files_of, lines_of}
use Rattle.bt_configured.specs.declared.halted.Halted.{Halted}
use Rattle.bt_configured.specs.declared.halted.Halted.TheVariants as halted
use Rattle.bt_configured.specs.declared.lines.Lines.{Lines}

-- An intake of lines, as a run sees it: all that it tells is what its sources tell.
abbrev pub as_intake : {S : Type 0} → Source.Ghosts S → Intake.Ghosts (LineView S)
as_intake g = record {
  faults = λ i. fault_count g i.sources.list;
  left = λ i. i.bound - i.items;
  stopped = λ i. i.stopped;
  tells = λ i. all_tell g i.sources.list;
  batches = λ i. batches i.delimiter i.policy i.bound (told g i.sources.list);
  given = λ i. i.given;
  openings = λ i. openings g i.sources.list;
  inputs = λ i. inputs g i.sources.list;
  stop = λ i. stop i.delimiter i.bound (told g i.sources.list);
  bounds = λ i. i.bound ∷ [];
  bound = λ i. i.bound;
}

-- A plan, as a run sees it: the parts of a transaction are what its processors make of the items, and what its output asks of each message.
abbrev pub as_plan : Derive.Ghosts Plan
as_plan = record {
  parts = λ p t. parts_by p.procs p.output t.moment t.items.list;
  sinks = λ p. length p.sinks.list;
  policies = λ p. p.holds.list;
}

-- all openings of a run of this plan over these lines, in their order
abbrev pub openings_of : Plan → Lines → Option (List ℕ) → List Asked
openings_of p l answers = opened.openings p.sinks.list p.ends.list answers (files_of l)

-- The plan and the input of a configuration, which is read as these lines, of which something holds.
pub record ByPlan (config : Val) (P : Plan → Lines → Type 0) : Type 0 where
  pub plan : Plan
  pub input : InputPlan
  pub lines : Lines
  pub is_plan : IsPlanOf config plan
  pub is_input : IsInputOf config input
  pub read_as : lines_of input ≡ Some lines
  pub holds : P plan lines

-- only these lines were said, where lines are told
pub record Said {E I : Type 0} (ls : List (List ℕ)) (lines : Bool) (a b : Tale E I) : Type 0 where
  pub only : b ≡ record a { lines = b.lines }
  pub said : IsTrue lines → b.lines ≡ a.lines ++ ls

abbrev pub not_built_line : List ℕ
not_built_line = codes "config: not built"

-- What the world tells of a run. One that began is over, as `RanTells` says, by the plan and the input of the configuration. Otherwise it
-- was refused for lints or for its input, an opening failed, or memory was wanting, before there was a plan or behind it.
abbrev pub ConfiguredTells : {W S K A C : Type 0} → Outside W S K A C → Val → Option (List ℕ) → Result Report Halted → Bool → Tale (Ends S K A C) (Contents (Named S)) → Tale (Ends S K A C) (Contents (Named S)) → Type 0
ConfiguredTells o config answers (Ok report) lines a b =
    ByPlan config (λ p l. RanTells o.source (as_intake o.source) o.sink o.answerer o.clock as_plan p.sinks.list p.ends.list answers (files_of l) l.cuts p report lines a b)
ConfiguredTells o config answers (Err (halted.Lints ls)) lines a b = Said (map line ls) lines a b
ConfiguredTells o config answers (Err halted.NotBuilt) lines a b = Said (not_built_line ∷ []) lines a b
ConfiguredTells o config answers (Err halted.Failed) lines a b = ByPlan config (λ p l. FailedAt (openings_of p l answers) lines a b)
ConfiguredTells o config answers (Err halted.NoMemory) lines a b =
    Said (no_memory_line ∷ []) lines a b ⊎ ByPlan config (λ p l. HaltTells stops.NoMemory (openings_of p l answers) lines a b)

-- Why a configuration isn't run, whatever the world tells: its lints, or an input of another kind.
abbrev pub Why : Val → Result Report Halted → Type 0
Why config (Ok report) = Unit {0}
Why config (Err (halted.Lints ls)) = IsFaultOf config (fault.Lints ls)
Why config (Err halted.NotBuilt) = (i : InputPlan) × IsInputOf config i × (lines_of i ≡ None)
Why config (Err halted.Failed) = Unit {0}
Why config (Err halted.NoMemory) = Unit {0}

-- an opening failed only where the count of open faults rose
abbrev pub RoseWhere : Result Report Halted → ℕ → ℕ → Type 0
RoseWhere (Ok report) before after = Unit {0}
RoseWhere (Err (halted.Lints ls)) before after = Unit {0}
RoseWhere (Err halted.NotBuilt) before after = Unit {0}
RoseWhere (Err halted.Failed) before after = Rose before after
RoseWhere (Err halted.NoMemory) before after = Unit {0}

-- A run of the configuration with this document, from a to b.
pub record Configured {W S K A C : Type 0} (o : Outside W S K A C) (config : Val) (answers : Option (List ℕ)) (result : Result Report Halted) (a b : W) : Type 0 where
  pub told : StillTold o.world a b
  pub read : o.world.file_faults b ≡ o.world.file_faults a
  pub prints : o.world.print_faults b ≡ o.world.print_faults a
  pub counted : o.world.open_faults a ≤ o.world.open_faults b
  pub rose : RoseWhere result (o.world.open_faults a) (o.world.open_faults b)
  pub why : Why config result
  pub ended : IfOk result (λ report. IsSome report.ending)
  pub tells : IsTrue (o.world.tells b) → ConfiguredTells o config answers result (o.world.tells_lines b) (o.world.tale a) (o.world.tale b)
