use Rattle.std.proofs.Common.{◌≡◌, string_bytes}
use Rattle.std.specs.List.{flat_map}
use Rattle.bt_schema.specs.Pointer.{escaped_char}
use Rattle.bt_schema.proofs.pointer.escape.Given as goal

abbrev pub invariant-loop-c : goal.invariant-loop-c
invariant-loop-c l = string_bytes l.out ≡ flat_map escaped_char l.yielded
