use Rattle.std.proofs.Common.{◌≡◌, suc, ◌++◌, [], length, ◌==◌}
use Rattle.std.specs.List.{slice_split}
use Rattle.std.specs.Option.{option_map_or}
use Rattle.bt_batches.specs.Archives as spec
use Rattle.bt_batches.proofs.unarchive.push_lines.Given as goal

abbrev pub invariant-loop-rest : goal.invariant-loop-rest
invariant-loop-rest l = l.batch.items ++ spec.with_contents l.p (option_map_or (λ r. slice_split (λ b. b == 10) r.now) l.rest []) ≡ l.initial.batch.items ++ spec.unarchive_lines l.p

abbrev pub decreases-loop-rest : goal.decreases-loop-rest
decreases-loop-rest l = option_map_or (λ r. suc (length r.now)) l.rest 0
