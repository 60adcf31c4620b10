use Rattle.std.proofs.Common.{w64}
use Rattle.std.proofs.lemmas.Int.{to_z-of_z}
use Rattle.bt_functions.proofs.Steps.{fits_seen}
use Rattle.bt_functions.proofs.ranges.ranged.Goals as goal

pub range_from-requires : goal.range_from-requires
range_from-requires c = λ i h.
    fits_seen c.args.a c.args.b c.args.s _ _ _ c.is_zero.result c.range_length.result i (to_z-of_z w64 c.args.a c.ranges.a) (to_z-of_z w64 c.args.b c.ranges.b) (to_z-of_z w64 c.args.s c.ranges.s)
    c.ranges.a c.ranges.b c.is_zero.ensures c.if-is_zero.false c.range_length.ensures h
