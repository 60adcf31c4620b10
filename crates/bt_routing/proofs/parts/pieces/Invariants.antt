use Rattle.std.proofs.Common.{◌≡◌, ◌++◌, drop}
use Rattle.bt_parts.specs.Parts as spec
use Rattle.bt_routing.proofs.parts.pieces.Given as goal

abbrev pub invariant-loop-item : goal.invariant-loop-item
invariant-loop-item l = record {
  number : l.number ≡ l.item-index;
  made : l.batch.items ++ spec.pieces_from l.number (drop l.item-index l.items) ≡ spec.pieces_from 0 l.items;
}
