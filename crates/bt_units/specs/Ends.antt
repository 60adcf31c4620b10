-- How the tests of a configuration end, and why they aren't run.
use Rattle.std.specs.Prelude.{◌≡◌, ◌⊎◌, ℕ, List, [], ◌∷◌, codes, Option, Some, None, is_some, false, if◌then◌else◌}
use Rattle.bt_value.specs.declared.val.Val.{Val}
use Rattle.bt_schema.specs.Pointer.{under}
use Rattle.bt_schema.specs.declared.lints.Lint.{Lint}
use Rattle.bt_schema.specs.declared.lints.LintKind.TheVariants as kind
use Rattle.bt_walk.specs.Targets.{is_target}
use Rattle.bt_config.specs.Violations.{AreViolations}
use Rattle.bt_batches.specs.declared.piece.Piece.{Piece}
use Rattle.bt_proc.specs.Procs.{procs}
use Rattle.bt_proc.specs.declared.tree.Processor.{Processor}
use Rattle.bt_compile.specs.Compiled.{AreProcessorsAt, IsFaultAt}
use Rattle.bt_compile.specs.declared.fault.ProcsFault.TheVariants as fault
use Rattle.bt_expectations.specs.Failures.{failures_of}
use Rattle.bt_expectations.specs.declared.condition.Expectation.{Expectation}
use Rattle.bt_units.specs.Expected.{AreExpectedBatches, Each, IsOfBatches, IsOfSome}
use Rattle.bt_units.specs.Fields.{at_pipeline, field, name_of, target_of, tests_of}
use Rattle.bt_units.specs.Input.{input_of}
use Rattle.bt_units.specs.declared.end.TestEnd.{TestEnd}
use Rattle.bt_units.specs.declared.end.UnitsFault.{UnitsFault}
use Rattle.bt_units.specs.declared.end.UnitsFault.TheVariants as units

-- These batches come of the input batch of a test, by the processors that it names. The moment is 0.
abbrev pub ComeOf : Val → Val → List (List Piece) → Type 0
ComeOf config test bs = (ps : List Processor) × AreProcessorsAt config (target_of test) ps × (bs ≡ procs ps 0 (input_of test))

-- these come of it by these processors, if there are such
abbrev pub ComeBy : Option (List Processor) → Val → List (List Piece) → Type 0
ComeBy (Some ps) test bs = bs ≡ procs ps 0 (input_of test)
ComeBy None test bs = ⊥

-- So a test ends: under its name, with what fails of what it expects of the batches that come.
pub record IsTestEnd (config test : Val) (end : TestEnd) : Type 0 where
  pub name : end.name ≡ name_of test
  pub expected : List (List (List Expectation))
  pub are_expected : AreExpectedBatches test expected
  pub batches : List (List Piece)
  pub come : ComeOf config test batches
  pub fails : end.failures ≡ failures_of expected batches

-- the processors of `pipeline` made ready, where the configuration has such a list
abbrev pub IsPipeline : Val → Option (List Processor) → Type 0
IsPipeline config (Some ps) = AreProcessorsAt config at_pipeline ps
IsPipeline config None = is_target config at_pipeline ≡ false

-- So the tests of a configuration end, each in its place. The processors of `pipeline` are made ready, whether a test names them or not.
pub record AreTestEnds (config : Val) (ends : List TestEnd) : Type 0 where
  pub pipeline : (ps : Option (List Processor)) × IsPipeline config ps
  pub each : Each (IsTestEnd config) (tests_of config) ends

-- ---- why they aren't run

-- the pointer of a test's `target_processors`, or of the test where that is absent
abbrev pub target_place : List ℕ → Val → List ℕ
target_place at test = if is_some (field (codes "target_processors") test) then under at (codes "target_processors") else at

abbrev pub untargeted_lint : List ℕ → Val → Lint
untargeted_lint at test = record { pointer = target_place at test; kind = kind.OutOfRange }

-- the pointer of the processors of a test names no list of processors, which a configuration without lints has not
abbrev pub IsUntargeted : Val → List ℕ → Val → Lint → Type 0
IsUntargeted config at test l = (is_target config (target_of test) ≡ false) × (l ≡ untargeted_lint at test)

-- the lint of a list of processors of which something isn't made ready
abbrev pub IsOfProcessors : Val → List ℕ → Lint → Type 0
IsOfProcessors config pointer l = IsFaultAt config pointer (fault.Lint l)

abbrev pub IsOfTarget : Val → List ℕ → Val → Lint → Type 0
IsOfTarget config at test l = IsOfProcessors config (target_of test) l ⊎ IsUntargeted config at test l

abbrev pub IsOfTest : Val → List ℕ → Val → Lint → Type 0
IsOfTest config at test l = IsOfBatches at test l ⊎ IsOfTarget config at test l

abbrev pub IsOfTests : Val → Lint → Type 0
IsOfTests config l = IsOfSome (IsOfTest config) (codes "/tests") (tests_of config) l

-- The lint of a text that isn't made ready, though the configuration has no lint: a pattern of it is refused.
abbrev pub IsRefusedText : Val → Lint → Type 0
IsRefusedText config l = IsOfProcessors config at_pipeline l ⊎ IsOfTests config l

abbrev pub AreLintsOf : Val → List Lint → Type 0
AreLintsOf config [] = ⊥
AreLintsOf config (l ∷ []) = AreViolations config (l ∷ []) ⊎ (AreViolations config [] × IsRefusedText config l)
AreLintsOf config (l ∷ m ∷ ls) = AreViolations config (l ∷ m ∷ ls)

-- Want of memory may come at any time.
abbrev pub IsFaultOf : Val → UnitsFault → Type 0
IsFaultOf config (units.Lints ls) = AreLintsOf config ls
IsFaultOf config units.NoMemory = Unit {0}

-- the fault of this one lint, or want of memory
abbrev pub IsOneLint : Lint → UnitsFault → Type 0
IsOneLint l (units.Lints ls) = ls ≡ l ∷ []
IsOneLint l units.NoMemory = Unit {0}
