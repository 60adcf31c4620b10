use Rattle.std.proofs.Common.{◌≡◌, ◌++◌, drop, flat_map}
use Rattle.bt_lints.specs.Lints.{stmt_maps}
use Rattle.bt_lints.proofs.mapping.map_names.Given as goal

abbrev pub invariant-loop-stmt : goal.invariant-loop-stmt
invariant-loop-stmt l = l.names.list ++ flat_map stmt_maps (drop l.stmt-index l.stmts) ≡ flat_map stmt_maps l.stmts
