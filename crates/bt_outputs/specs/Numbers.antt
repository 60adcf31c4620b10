-- Whether an output stands well: its leaves and holds are numbered as they stand, its sinks are known, no hold stands below a
-- hold, and what tries one output after another has one.
use Rattle.std.specs.Prelude.{ℕ, suc, ◌+◌, ◌*◌, ◌&&◌, eqb, nat_lt, List, [], ◌∷◌, map, Bool, true, false, Option, Some, None, option_and_then}
use Rattle.bt_outputs.specs.declared.output.Output.{Output, fold-Output}
use Rattle.bt_outputs.specs.declared.output.Output.TheOpen.{Output-F}

-- the numbers that the next leaf and the next hold have
pub record Next : Type 0 where
  pub leaf : ℕ
  pub hold : ℕ

-- The numbers behind an output, by those before it. There are none where it doesn't stand well there.
abbrev pub Numbering : Type 0
Numbering = Next → Option Next

abbrev pub if_so : Bool → Next → Option Next
if_so true q = Some q
if_so false q = None

abbrev pub in_turn : List Numbering → Numbering
in_turn [] p = Some p
in_turn (f ∷ fs) p = option_and_then (in_turn fs) (f p)

-- some output at least
abbrev pub in_turn_some : List Numbering → Numbering
in_turn_some [] p = None
in_turn_some (f ∷ fs) p = in_turn (f ∷ fs) p

-- behind what is below a hold, which has no hold itself
abbrev pub held : Next → Next → Option Next
held p q = if_so (eqb q.hold (suc p.hold)) q

-- behind so many copies, one at least, of which each has so many leaves and holds
abbrev pub retried : ℕ → ℕ → ℕ → Next → Next → Option Next
retried n leaves holds p q = if_so (nat_lt 0 n && eqb q.leaf (p.leaf + leaves) && eqb q.hold (p.hold + holds))
    (record { leaf = p.leaf + n * leaves; hold = p.hold + n * holds })

abbrev pub numbers_of : ℕ → Output-F Numbering → Numbering
numbers_of sinks (Output-F.Leaf n sink) p = if_so (eqb n p.leaf && nat_lt sink sinks) (record p { leaf = suc p.leaf })
numbers_of sinks Output-F.Drop p = Some p
numbers_of sinks (Output-F.Reject text) p = Some p
numbers_of sinks (Output-F.RejectErrored f) p = f p
numbers_of sinks (Output-F.Broker fs) p = in_turn fs p
numbers_of sinks (Output-F.Hold n check f) p =
    option_and_then (λ here. option_and_then (held p) (f here)) (if_so (eqb n p.hold) (record p { hold = suc p.hold }))
numbers_of sinks (Output-F.Switch ks strict) p = in_turn (map (λ k. k.output) ks) p
numbers_of sinks (Output-F.Fallback fs) p = in_turn_some fs p
numbers_of sinks (Output-F.Retry n leaves holds f) p = option_and_then (retried n leaves holds p) (f p)
numbers_of sinks (Output-F.DropOn error f) p = f p

-- the numbers behind an output for so many sinks
abbrev pub numbers : ℕ → Output → Numbering
numbers sinks = fold-Output Numbering (numbers_of sinks)

-- the first leaf and the first hold have the number 0
abbrev pub from_start : Next
from_start = record { leaf = 0; hold = 0 }
