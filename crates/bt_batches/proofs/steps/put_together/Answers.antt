use Rattle.std.proofs.Common.{◌≡◌, ◌+◌, length, arith}
use Rattle.std.specs.Option.{option_to_list}
use Rattle.std.specs.Vec.Iter.{into_iter_items, into_iter_len}
use Rattle.std.proofs.lemmas.Grind.{common_steps}
use Rattle.bt_batches.proofs.Lists.{next_message}
use Rattle.bt_batches.proofs.steps.put_together.Goals as goal

pub loop-message-preserved : goal.loop-message-preserved
loop-message-preserved c =
    let next = c.next-in-loop-message in
    let len : length (into_iter_items next.new.self) + length (option_to_list next.result) ≡ into_iter_len c.loop-message.origins = omega (arith, next.ensures.len, next.new.self.rest.ok.0) in
    let e = next_message c.in-Some.message (into_iter_items c.next.new.self) next.result (into_iter_items c.loop-message.origins) (into_iter_items next.new.self) (into_iter_len c.loop-message.origins) next.ensures.items next.ensures.variant.1 len in
    grind (arith, common_steps, e)
