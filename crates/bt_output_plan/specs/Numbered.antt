-- How far the leaves and holds of an output are numbered.
use Rattle.std.specs.Prelude.{ℕ, length, map, List}
use Rattle.bt_outputs.specs.Numbers.{Next, Numbering, numbers}
use Rattle.bt_outputs.specs.declared.output.Output.{Output}
use Rattle.bt_outputs.specs.declared.output.OutputCase.{OutputCase}
use Rattle.bt_output_plan.specs.Made.{in_case}
use Rattle.bt_output_plan.specs.declared.numbers.Numbers.{Numbers}

-- the numbers that come next
abbrev pub next_of : Numbers → Next
next_of s = record { leaf = s.leaf; hold = length s.holds.list }

-- cases by the numbers behind their outputs
abbrev pub case_numbers : ℕ → List (OutputCase Output) → List Numbering
case_numbers sinks ks = map (λ k. k.output) (map (in_case (numbers sinks)) ks)
