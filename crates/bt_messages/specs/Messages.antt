-- Messages and their places in a batch.
use Rattle.std.specs.Prelude.{ℕ, List, Bool, Option, Some, None, is_some}
use Rattle.bt_value.specs.declared.message.Msg.{Msg}
use Rattle.bt_meaning.specs.declared.message.Spot.{Spot}
use Rattle.bt_meaning.specs.declared.message.Mapped.{Mapped}
use Rattle.bt_meaning.specs.declared.message.Mapped.TheVariants.{Changed, Dropped, Flagged}

-- the message with a flag
abbrev pub flagged : List ℕ → Msg → Msg
flagged t x = record x { flag = Some t }

-- the message without one
abbrev pub unflagged : Msg → Msg
unflagged x = record x { flag = None }

abbrev pub is_flagged : Msg → Bool
is_flagged x = is_some x.flag

-- a place among so many messages, at a moment in milliseconds
abbrev pub spot : ℕ → ℕ → ℕ → Spot
spot n moment i = record { index = i; size = n; moment = moment }

-- What becomes of a message by a mapping: another takes its place, none does, or it stays with a flag.
abbrev pub after : Msg → Mapped → Option Msg
after x (Changed m) = Some m
after x Dropped = None
after x (Flagged t) = Some (flagged t x)
