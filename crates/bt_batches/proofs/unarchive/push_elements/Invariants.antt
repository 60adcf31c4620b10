use Rattle.std.proofs.Common.{◌≡◌, ◌++◌, drop, map}
use Rattle.std.specs.Prelude.{false}
use Rattle.bt_value.specs.Reading.{text}
use Rattle.bt_batches.specs.Archives as spec
use Rattle.bt_batches.proofs.unarchive.push_elements.Given as goal

abbrev pub invariant-loop-element : goal.invariant-loop-element
invariant-loop-element l = (spec.have_bytes (drop l.element-index l.elements) ≡ false)
    × (l.batch.items ++ spec.with_contents l.p (map text (drop l.element-index l.elements)) ≡ l.initial.batch.items ++ spec.with_contents l.p (map text l.elements))
