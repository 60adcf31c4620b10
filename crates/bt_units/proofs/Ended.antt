-- Tests that ended.
use Rattle.std.proofs.Common.{◌≡◌, ◌↔◌, IsTrue, Bool, true, false, not, List, [], ◌∷◌, Option, refl, subst}
use Rattle.std.proofs.lemmas.Bool.{false≢true}
use Rattle.bt_batches.specs.declared.piece.Piece.{Piece}
use Rattle.bt_compile.specs.Compiled.{AreProcessorsAt}
use Rattle.bt_expectations.specs.Failures.{failures_of}
use Rattle.bt_expectations.specs.declared.condition.Expectation.{Expectation}
use Rattle.bt_expectations.specs.declared.failure.Failure.{Failure}
use Rattle.bt_proc.specs.Procs.{procs}
use Rattle.bt_proc.specs.declared.tree.Processor.{Processor}
use Rattle.bt_value.specs.declared.val.Val.{Val}
use Rattle.bt_units.specs.Ends.{AreTestEnds, ComeOf, IsPipeline, IsTestEnd}
use Rattle.bt_units.specs.Expected.{AreExpectedBatches, Each}
use Rattle.bt_units.specs.Fields.{name_of, target_of, tests_of}
use Rattle.bt_units.specs.Input.{input_of}
use Rattle.bt_units.specs.Text.{fails}
use Rattle.bt_units.specs.declared.end.TestEnd.{TestEnd}

-- whether something failed, by whether nothing did
pub some_failure : (b : Bool) (fs : List Failure) → (IsTrue b ↔ (fs ≡ [])) → not b ≡ fails fs
some_failure true [] h = refl
some_failure false [] h = absurd (false≢true (h.1 refl))
some_failure true (f ∷ fs) h = let none = h.0 refl in cc
some_failure false (f ∷ fs) h = refl

-- these come by the processors that a test names
pub come_of : (config : Val) (test : Val) (ps : List Processor) (bs : List (List Piece)) → AreProcessorsAt config (target_of test) ps → bs ≡ procs ps 0 (input_of test) →
    ComeOf config test bs
come_of config test ps bs are come = (ps, are, come)

-- a test ended
pub test_end : (config test : Val) (expected : List (List (List Expectation))) (bs : List (List Piece)) (end : TestEnd) → AreExpectedBatches test expected →
    ComeOf config test bs → end.name ≡ name_of test → end.failures ≡ failures_of expected bs → IsTestEnd config test end
test_end config test expected bs end are come named failed =
    record { name = named; expected = expected; are_expected = are; batches = bs; come = come; fails = failed }

-- all tests ended
pub all_ends : (config : Val) (ps : Option (List Processor)) (tests : List Val) (ends : List TestEnd) → IsPipeline config ps → tests ≡ tests_of config →
    Each (IsTestEnd config) tests ends → AreTestEnds config ends
all_ends config ps tests ends made same each =
    record { pipeline = (ps, made); each = subst (λ (ts : List Val). Each (IsTestEnd config) ts ends) same each }
