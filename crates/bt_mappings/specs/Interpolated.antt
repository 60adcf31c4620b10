-- The text of an interpolation.
use Rattle.std.specs.Prelude.{ℕ, List, flat_map}
use Rattle.bt_value.specs.declared.message.Msg.{Msg}
use Rattle.bt_meaning.specs.Mapped.{query_in, top, shown}
use Rattle.bt_meaning.specs.declared.message.Spot.{Spot}
use Rattle.bt_mappings.specs.declared.interpolation.Bit.{Bit}
use Rattle.bt_mappings.specs.declared.interpolation.Bit.TheVariants as bit

-- a literal as it is, and of a query what it gives as a string, or `null`
abbrev pub bit_text : Bit → Msg → Spot → List ℕ
bit_text (bit.Literal t) msg spot = t
bit_text (bit.Query r) msg spot = shown (query_in r.mapping (top r.mapping msg spot))

-- the texts of the pieces, one after another
abbrev pub interpolated : List Bit → Msg → Spot → List ℕ
interpolated bits msg spot = flat_map (λ b. bit_text b msg spot) bits
