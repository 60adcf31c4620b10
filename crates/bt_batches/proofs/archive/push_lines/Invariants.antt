use Rattle.std.proofs.Common.{◌≡◌, ◌++◌, ◌∷◌, drop}
use Rattle.std.specs.List.{flat_map}
use Rattle.bt_batches.specs.Archives as spec
use Rattle.bt_batches.proofs.archive.push_lines.Given as goal

abbrev pub invariant-loop-p : goal.invariant-loop-p
invariant-loop-p l = l.content ++ flat_map (λ c. 10 ∷ c) (spec.contents (drop l.p-index l.batch)) ≡ l.initial.content ++ flat_map (λ c. 10 ∷ c) (spec.contents l.batch)
