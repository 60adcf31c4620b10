-- The batches that a policy makes of the lines of some sources: lines and cuts.
use Rattle.std.specs.Prelude.{ℕ, ◌+◌, ◌-◌, ◌==◌, nat_lt, nat_le, Bool, false, ◌&&◌, ◌||◌, List, [], ◌∷◌, length, Option, Some, None, is_none, slice_get}
use Rattle.bt_ports.specs.declared.parts.Item.{Item}
use Rattle.bt_ready.specs.declared.ready.Ready.{Ready}
use Rattle.bt_meaning.specs.Mapped.{checks}
use Rattle.bt_items.specs.Messages.{message}
use Rattle.bt_cut.specs.Cuts.{cut, ended}
use Rattle.bt_lines.specs.Lines.{SourceBytes, lines, items}
use Rattle.bt_intake.specs.declared.policy.Policy.{Policy}

-- how many bytes some items have together
abbrev pub bytes_in : List Item → ℕ
bytes_in [] = 0
bytes_in (i ∷ is) = length i.bytes + bytes_in is

-- no condition is on
abbrev pub is_off : Policy → Bool
is_off p = (p.count == 0) && (p.byte_size == 0) && is_none p.check

-- whether a batch of so many items, with so many bytes, ends: it has `count` items, or at least `byte_size` bytes, where that number
-- isn't 0. With all conditions off every batch that isn't empty ends
abbrev pub ends_at : Policy → (items bytes : ℕ) → Bool
ends_at p items bytes = (is_off p && nat_lt 0 items) || ((nat_lt 0 p.count && nat_le p.count items) || (nat_lt 0 p.byte_size && nat_le p.byte_size bytes))

-- whether the last of so many items passes a check, as the message that it begins as: at its place among them, with their number as
-- the size of the batch, at the moment 0
abbrev pub passes_at : Ready → ℕ → Item → Bool
passes_at r n i = checks r.mapping (message i) (record { index = n - 1; size = n; moment = 0 })

abbrev last_passes : Ready → ℕ → Option Item → Bool
last_passes r n None = false
last_passes r n (Some i) = passes_at r n i

-- whether a batch's last item passes the check, where there is one
abbrev pub passes : Option Ready → List Item → Bool
passes None batch = false
passes (Some r) batch = last_passes r (length batch) (slice_get batch (length batch - 1))

-- whether a batch ends
abbrev pub ends : Policy → List Item → Bool
ends p batch = ends_at p (length batch) (bytes_in batch) || passes p.check batch

-- the items of the sources, with this delimiter and within this bound
abbrev pub source_items : List ℕ → ℕ → List SourceBytes → List Item
source_items d bound ss = items d (lines d bound ss)

-- the batches: the cut of the items
abbrev pub batches : List ℕ → Policy → ℕ → List SourceBytes → List (List Item)
batches d p bound ss = cut (ends p) (source_items d bound ss)

-- the batches that are closed in the first m bytes: each of their lines has its delimiter among them, or a later source follows it
-- there, and they have ended
abbrev pub closed : List ℕ → Policy → ℕ → List SourceBytes → List (List Item)
closed d p m ss = ended (ends p) (source_items d m ss)
