use Rattle.std.proofs.Common.{arith}
use Rattle.std.proofs.lemmas.Grind.{common_steps}
use Rattle.bt_texts.proofs.Gathered.{some_one}
use Rattle.bt_texts.proofs.Plain.{plain_one, plain_put}
use Rattle.bt_texts.proofs.conversions.+texts_of.Goals as goal

pub texts_of_items-loop-item-preserved : goal.texts_of_items-loop-item-preserved
texts_of_items-loop-item-preserved t c =
    let plain = rw c.in-Some.is at c.in_ok-v.ensures.plain in
    record {
      so_far = grind (arith, common_steps, some_one);
      plain = rw c.in_ok-push-in-Some.ensures.ok (plain_one c.loop-item.got c.in-Some.v c.loop-item.invariant.plain plain);
    }

pub texts_of_members-loop-member-preserved : goal.texts_of_members-loop-member-preserved
texts_of_members-loop-member-preserved t c =
    let plain = rw c.in-Some.is at c.in_ok-v.ensures.plain in
    record {
      so_far = grind (arith, common_steps);
      plain = rw c.in_ok-put-in-Some.ensures.ok (plain_put _ c.in-Some.v c.loop-member.got c.loop-member.invariant.plain plain);
    }
