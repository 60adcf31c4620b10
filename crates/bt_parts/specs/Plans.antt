-- What a plan keeps.
use Rattle.std.specs.Prelude.{ℕ, ◌&&◌, ◌==◌, nat_le, Bool, false, Option, Some, None}
use Rattle.bt_outputs.specs.declared.output.Output.{Output}
use Rattle.bt_outputs.specs.Numbers.{Next, from_start, numbers}

-- 256 leaves at most, and as many holds as there are policies, 64 at most
abbrev pub ends_well : ℕ → Option Next → Bool
ends_well policies None = false
ends_well policies (Some end) = nat_le end.leaf 256 && end.hold == policies && nat_le policies 64

-- An output stands well for so many sinks, 256 at most, and so many policies of holds.
abbrev pub stands_well : ℕ → ℕ → Output → Bool
stands_well sinks policies o = nat_le sinks 256 && ends_well policies (numbers sinks o from_start)
