use Rattle.std.proofs.Common.{◌+◌, subst, sym, rules}
use Rattle.bt_making.specs.Made.{FirstUnready, IsRefusal}
use Rattle.bt_making.proofs.Piecing.{SoFar, all_so_far, none_more, one_more, refused_here, whole_at}
use Rattle.bt_making.proofs.interpolated.all_made.Goals as goal

pub make_bit-requires : goal.make_bit-requires
make_bit-requires c = whole_at c.args.text.now c.args.spans.now c.loop-span.span-index _ c.requires c.loop-span-test.true

pub returns-in_err-bit-clause-refused : goal.returns-in_err-bit-clause-refused
returns-in_err-bit-clause-refused c =
    let refused : IsRefusal (FirstUnready c.args.text.now c.args.spans.now) c.args.at.now c.in_err-bit.field-0.0 =
    refused_here c.args.text.now c.args.at.now c.args.spans.now c.loop-span.span-index _ c.in_err-bit.field-0.0 c.loop-span-test.true c.loop-span.invariant.1 c.in_err-bit.ensures.refused in
    search rules

pub loop-span-preserved : goal.loop-span-preserved
loop-span-preserved c = (
  subst (SoFar c.args.text.now c.args.spans.now (c.loop-span.span-index + 1)) (sym c.in_ok-push.ensures)
      (one_more c.args.text.now c.args.spans.now c.loop-span.span-index _ c.loop-span.out.list c.in_ok-bit.bit c.loop-span-test.true c.in_ok-bit.ensures.made c.loop-span.invariant.0),
  none_more c.args.text.now c.args.spans.now c.loop-span.span-index _ c.in_ok-bit.bit c.loop-span-test.true c.in_ok-bit.ensures.made c.loop-span.invariant.1,
)

pub returns-clause-made : goal.returns-clause-made
returns-clause-made c = all_so_far c.args.text.now c.args.spans.now c.loop-span.span-index c.loop-span.out.list c.loop-span-test.false c.loop-span.invariant.0
