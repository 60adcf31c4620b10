use Rattle.std.proofs.Common.{subst, sym}
use Rattle.bt_making.specs.Inside.{AreWhole}
use Rattle.bt_making.proofs.Whole.{cut_whole}
use Rattle.bt_making.proofs.interpolated.make_pieces.Goals as goal

pub all_made-requires : goal.all_made-requires
all_made-requires c =
    subst (AreWhole c.args.text.now) (sym c.as_slice.ensures) (cut_whole c.args.text.now c.in_ok-spans.spans.list c.utf8.text c.in_ok-spans.ensures)
