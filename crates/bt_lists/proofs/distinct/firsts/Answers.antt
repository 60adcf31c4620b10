use Rattle.std.proofs.Common.{◌∙◌, ◌≤◌, ap, not, arith}
use Rattle.bt_value.specs.Depth.{depth}
use Rattle.bt_value.proofs.Depths.{item_depth}
use Rattle.bt_lists.proofs.Firsts.{seen_next, marks_next}
use Rattle.bt_lists.proofs.distinct.firsts.Goals as goal

pub loop-item-preserved : goal.loop-item-preserved
loop-item-preserved c =
    let i = c.loop-item.invariant in
    let items = c.args.items.now in
    let at = c.loop-item.item-index in
    let within = item_depth items at c.item-item.result c.loop-item-test.true in
    let shallow : depth c.item-item.result ≤ 127 = omega (arith, ap depth c.item-item.is, within, c.requires) in
    record {
      seen = λ q. c.in_ok-is_new.ensures.updates.0 q ∙ seen_next items at c.item-item.result q.value.now _ c.loop-item-test.true c.item-item.is (i.seen q);
      so_far = marks_next items at c.item-item.result c.in_ok-is_new.is_new c.loop-item.marks.items _ c.loop-item-test.true c.item-item.is
          (c.in_ok-is_new.ensures.added ∙ ap not (i.seen (record { value = record { ref_ptr = c.args.items.ref_ptr; now = c.item-item.result }; shallow = shallow }))) c.in_ok-push.ensures.items i.so_far;
    }
