-- What a world tells after calls that change a part of it.
use Rattle.std.proofs.Common.{◌≡◌, ℕ, List, [], ◌++◌, ap, ◌∙◌, append-nil}
use Rattle.bt_ports.specs.World.{Tale, once_more}
use Rattle.bt_ports.specs.declared.parts.Asked.{Asked}

-- lines were said, and more lines
pub says-then : {E I : Type 0} (a b d : Tale E I) → b ≡ record a { lines = b.lines } → d ≡ record b { lines = d.lines } → d ≡ record a { lines = d.lines }
says-then {E} {I} a b d p q = q ∙ ap (λ (t : Tale E I). record t { lines = d.lines }) p

-- lines stayed, and then more were said
pub lines-then : (a b d more : List (List ℕ)) → b ≡ a ++ [] → d ≡ b ++ more → d ≡ a ++ more
lines-then a b d more p q = q ∙ ap (λ (l : List (List ℕ)). l ++ more) (p ∙ append-nil a)

-- calls were made, and a clock was taken
pub clock-then : {E I : Type 0} (a b d : Tale E I) (calls : List Asked) (left : List ℕ) → b ≡ record a { calls = calls; stdin = left } → d ≡ record b { clocks = once_more b.clocks; clock = [] }
    → d ≡ record a { calls = calls; stdin = left; clocks = once_more a.clocks; clock = [] }
clock-then {E} {I} a b d calls left p q = q ∙ ap (λ (t : Tale E I). record t { clocks = once_more t.clocks; clock = [] }) p
