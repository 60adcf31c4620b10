-- What a world tells after lines were said.
use Rattle.std.proofs.Common.{◌≡◌, ap, ◌∙◌}
use Rattle.bt_ports.specs.World.{Tale}

-- lines were said, and more lines
pub says-then : {E I : Type 0} (a b d : Tale E I) → b ≡ record a { lines = b.lines } → d ≡ record b { lines = d.lines } → d ≡ record a { lines = d.lines }
says-then {E} {I} a b d p q = q ∙ ap (λ (t : Tale E I). record t { lines = d.lines }) p
