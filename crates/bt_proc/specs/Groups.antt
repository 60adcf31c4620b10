-- The groups of a `group_by` by what their processors make of a batch.
use Rattle.std.specs.Prelude.{map}
use Rattle.bt_proc.specs.declared.tree.Group.{Group}

abbrev pub in_group : {A B : Type 0} → (A → B) → Group A → Group B
in_group f g = record { check = g.check; processors = map f g.processors }
