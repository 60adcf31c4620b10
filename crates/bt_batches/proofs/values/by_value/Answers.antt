use Rattle.std.proofs.Common.{◌≡◌, ap, ◌∙◌, arith}
use Rattle.std.proofs.lemmas.Grind.{common_steps}
use Rattle.std.proofs.lemmas.List.{length-map}
use Rattle.bt_batches.specs.Grouping.{by_text, all_keyed}
use Rattle.bt_batches.proofs.Gathering.{gathered_within}
use Rattle.bt_batches.proofs.values.by_value.Goals as goal

pub loop-message-preserved : goal.loop-message-preserved
loop-message-preserved c = record {
  so_far = grind (arith, common_steps);
  gathered = c.in_ok-join.ensures c.loop-message.yielded c.loop-message.invariant.gathered;
}

pub join-requires : goal.join-requires
join-requires c = λ q i e.
    let below = gathered_within c.loop-message.yielded _ _ c.loop-message.invariant.gathered q i e in
    omega (arith, simp length-map at below, c.loop-message.batches.ok)

pub returns : goal.returns
returns c =
    let all : c.loop-message.yielded ≡ all_keyed c.args.value.now.list c.args.moment c.args.batch.items = grind (arith, common_steps) in
    c.loop-message.invariant.gathered.batches ∙ ap by_text all
