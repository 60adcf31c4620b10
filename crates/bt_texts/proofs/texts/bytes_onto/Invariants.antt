use Rattle.std.proofs.Common.{◌≡◌, ◌++◌, drop}
use Rattle.std.specs.List.{flat_map}
use Rattle.bt_texts.proofs.texts.bytes_onto.Given as goal

abbrev pub invariant-loop-s : goal.invariant-loop-s
invariant-loop-s l = l.fn.first ++ flat_map (λ r. l.t ++ r) l.rest ≡ l.out ++ flat_map (λ r. l.t ++ r) (drop l.s-index l.rest)
