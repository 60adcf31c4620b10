-- Why tests aren't run, from each step to the whole.
use Rattle.std.proofs.Common.{◌≡◌, ℕ, List, [], Option, Some, None, false, codes, inl, inr, refl, sym, subst}
use Rattle.bt_batches.specs.declared.piece.Piece.{Piece}
use Rattle.bt_compile.specs.Compiled.{AreProcessorsAt, IsFaultAt}
use Rattle.bt_compile.specs.declared.fault.ProcsFault.TheVariants as procs_fault
use Rattle.bt_config.specs.Violations.{AreViolations}
use Rattle.bt_expectations.specs.declared.condition.Condition.TheVariants as condition
use Rattle.bt_making.specs.Made.{IsRefusal, IsUnready, lint}
use Rattle.bt_making.specs.declared.refusal.Refusal.{Refusal}
use Rattle.bt_making.specs.declared.refusal.Refusal.TheVariants as refusal
use Rattle.bt_patterns.specs.Patterns.{pattern_of_text}
use Rattle.bt_proc.specs.declared.tree.Processor.{Processor}
use Rattle.bt_schema.specs.declared.lints.Lint.{Lint}
use Rattle.bt_syntax.specs.Grammar.{ReadsCheck}
use Rattle.bt_value.specs.declared.val.Val.{Val}
use Rattle.bt_walk.specs.Targets.{is_target}
use Rattle.bt_units.specs.Ends.{AreLintsOf, ComeBy, ComeOf, IsFaultOf, IsOfProcessors, IsOfTarget, IsOfTest, IsOfTests, IsOneLint, IsPipeline, IsRefusedText, untargeted_lint}
use Rattle.bt_units.specs.Expected.{IsLintOf, IsOfBatches, IsOfSome, IsRefusedBy}
use Rattle.bt_units.specs.Fields.{at_pipeline, string, target_of, tests_of}
use Rattle.bt_units.specs.declared.end.UnitsFault.{UnitsFault}
use Rattle.bt_units.specs.declared.end.UnitsFault.TheVariants as fault

pub one_fault : (config : Val) (l : Lint) (f : UnitsFault) → IsOneLint l f → AreViolations config [] → IsRefusedText config l → IsFaultOf config f
one_fault config l (fault.Lints ls) is clean why = subst (AreLintsOf config) (sym is) (inr (clean, why))
one_fault config l fault.NoMemory is clean why = tt

-- a check that isn't made ready
pub check_refused : (v : Val) (text at : List ℕ) (r : Refusal) → text ≡ string v → IsRefusal (IsUnready ReadsCheck text) at r → IsRefusedBy (IsLintOf at condition.Bloblang v) r
check_refused v text at (refusal.Lint l) is h = (h.0, subst (λ (t : List ℕ). IsUnready ReadsCheck t h.0) is h.1, h.2)
check_refused v text at refusal.NoMemory is h = tt

-- a pattern that is refused
pub pattern_refused : (v : Val) (text at : List ℕ) (l : Lint) → text ≡ string v → pattern_of_text text ≡ None → l ≡ lint at (codes "pattern at line 1 column 1") →
    IsRefusedBy (IsLintOf at condition.ContentMatches v) (refusal.Lint l)
pattern_refused v text at l is none same = (codes "pattern at line 1 column 1", (subst (λ (t : List ℕ). pattern_of_text t ≡ None) is none, refl), same)

-- a refusal, seen otherwise
pub turned : (P Q : Lint → Type 0) → ((l : Lint) → P l → Q l) → (r : Refusal) → IsRefusedBy P r → IsRefusedBy Q r
turned P Q turn (refusal.Lint l) h = turn l h
turned P Q turn refusal.NoMemory h = tt

pub pipeline_refused : (config : Val) (r : Refusal) → IsRefusedBy (IsOfProcessors config at_pipeline) r → IsRefusedBy (IsRefusedText config) r
pipeline_refused config r h = turned (IsOfProcessors config at_pipeline) (IsRefusedText config) (λ l p. inl p) r h

pub tests_refused : (config : Val) (ts : List Val) (r : Refusal) → ts ≡ tests_of config → IsRefusedBy (IsOfSome (IsOfTest config) (codes "/tests") ts) r →
    IsRefusedBy (IsRefusedText config) r
tests_refused config ts r is h =
    turned (IsOfTests config) (IsRefusedText config) (λ l p. inr p) r
    (subst (λ (vs : List Val). IsRefusedBy (IsOfSome (IsOfTest config) (codes "/tests") vs) r) is h)

pub expected_refused : (config : Val) (at : List ℕ) (test : Val) (r : Refusal) → IsRefusedBy (IsOfBatches at test) r → IsRefusedBy (IsOfTest config at test) r
expected_refused config at test r h = turned (IsOfBatches at test) (IsOfTest config at test) (λ l p. inl p) r h

pub target_refused : (config : Val) (at : List ℕ) (test : Val) (r : Refusal) → IsRefusedBy (IsOfTarget config at test) r → IsRefusedBy (IsOfTest config at test) r
target_refused config at test r h = turned (IsOfTarget config at test) (IsOfTest config at test) (λ l p. inr p) r h

none_there : (config : Val) (pipeline : Option (List Processor)) (pointer : List ℕ) → IsPipeline config pipeline → pointer ≡ at_pipeline → pipeline ≡ None →
    is_target config pointer ≡ false
none_there config pipeline pointer is same none =
    let no : IsPipeline config None = subst (IsPipeline config) none is in
    subst (λ (p : List ℕ). is_target config p ≡ false) (sym same) no

-- there are no processors of `pipeline`, which a test names
pub untargeted_refused : (config : Val) (pipeline : Option (List Processor)) (at : List ℕ) (test : Val) (r : Refusal) → IsPipeline config pipeline → target_of test ≡ at_pipeline →
    IsRefusedBy (λ l. (pipeline ≡ None) × (l ≡ untargeted_lint at test)) r → IsRefusedBy (IsOfTarget config at test) r
untargeted_refused config pipeline at test r is same h =
    turned (λ l. (pipeline ≡ None) × (l ≡ untargeted_lint at test)) (IsOfTarget config at test)
    (λ l p. inr (none_there config pipeline (target_of test) is same p.0, p.1)) r h

-- those that come by the processors of `pipeline`
pub come_by : (config : Val) (pipeline : Option (List Processor)) (test : Val) (bs : List (List Piece)) → IsPipeline config pipeline → target_of test ≡ at_pipeline →
    ComeBy pipeline test bs → ComeOf config test bs
come_by config (Some ps) test bs is same come = (ps, subst (λ (p : List ℕ). AreProcessorsAt config p ps) (sym same) is, come)
come_by config None test bs is same come = absurd come

-- the pointer of a test names no list of processors, or something of the list isn't made ready
pub not_there : (config : Val) (at : List ℕ) (test : Val) (l : Lint) → IsFaultAt config (target_of test) procs_fault.NotThere → l ≡ untargeted_lint at test →
    IsRefusedBy (IsOfTarget config at test) (refusal.Lint l)
not_there config at test l none is = inr (none, is)

pub lint_there : (config : Val) (at : List ℕ) (test : Val) (l : Lint) → IsFaultAt config (target_of test) (procs_fault.Lint l) →
    IsRefusedBy (IsOfTarget config at test) (refusal.Lint l)
lint_there config at test l h = inl h
