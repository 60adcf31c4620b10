-- What is printed of the tests of a configuration.
use Rattle.std.specs.Prelude.{ℕ, List, [], ◌∷◌, ◌++◌, codes, decimal, count_by, map, not, Bool, true, false, if◌then◌else◌}
use Rattle.std.specs.List.{flat_map}
use Rattle.bt_expectations.specs.Conditions.{name_of}
use Rattle.bt_expectations.specs.declared.failure.Failure.{Failure}
use Rattle.bt_expectations.specs.declared.failure.Failure.TheVariants as failure
use Rattle.bt_units.specs.declared.end.TestEnd.{TestEnd}

abbrev pub fails : List Failure → Bool
fails [] = false
fails (f ∷ fs) = true

abbrev pub has_failed : TestEnd → Bool
has_failed end = fails end.failures

-- the line of a test; this and the others have their line breaks
abbrev pub end_line : TestEnd → List ℕ
end_line end = codes "test " ++ end.name ++ (if has_failed end then codes " failed\n" else codes " ok\n")

-- numbers are from 0
abbrev pub failure_line : Failure → List ℕ
failure_line (failure.Batches expected got) = codes "  batches: expected " ++ decimal expected ++ codes ", got " ++ decimal got ++ codes "\n"
failure_line (failure.Messages batch expected got) =
    codes "  batch " ++ decimal batch ++ codes ": expected " ++ decimal expected ++ codes " messages, got " ++ decimal got ++ codes "\n"
failure_line (failure.Condition batch message c) =
    codes "  batch " ++ decimal batch ++ codes " message " ++ decimal message ++ codes ": " ++ name_of c ++ codes "\n"

-- the line of a test, and one for each failure of it
abbrev pub lines_of : TestEnd → List (List ℕ)
lines_of end = end_line end ∷ map failure_line end.failures

abbrev pub sum_line : ℕ → ℕ → List ℕ
sum_line passed failed = codes "tests " ++ decimal passed ++ codes " passed " ++ decimal failed ++ codes " failed\n"

-- The printed lines, each with its line break: those of each test, and last how many passed and how many failed.
abbrev pub test_text : List TestEnd → List (List ℕ)
test_text ends = flat_map lines_of ends ++ sum_line (count_by (λ e. not (has_failed e)) ends) (count_by has_failed ends) ∷ []
