use Rattle.std.proofs.Common.{◌≡◌, ◌∷◌, refl, ◌∙◌, arith}
use Rattle.std.proofs.lemmas.Grind.{common_steps}
use Rattle.bt_batches.specs.Archives.{origins}
use Rattle.bt_batches.proofs.UnionLemmas.{same_rising, origins_rise, members_step}
use Rattle.bt_batches.proofs.archive.archived.Goals as goal

pub loop-p-preserved-in_ok-add : goal.loop-p-preserved-in_ok-add
loop-p-preserved-in_ok-add c = record {
  so_far = grind (arith, common_steps);
  rising = origins_rise c.in-Some.first.from c.loop-p.yielded c.in-Some-p.p c.loop-p.invariant.rising c.in_ok-add.ensures.rising;
  members = members_step c.in-Some.first.from c.loop-p.yielded c.in-Some-p.p _ _ c.loop-p.invariant.members c.in_ok-add.ensures.members;
}

pub loop-p-preserved : goal.loop-p-preserved
loop-p-preserved c = record {
  so_far = grind (arith, common_steps);
  rising = origins_rise c.in-Some.first.from c.loop-p.yielded c.in-Some-p.p c.loop-p.invariant.rising c.in_ok-add.ensures.rising;
  members = members_step c.in-Some.first.from c.loop-p.yielded c.in-Some-p.p _ _ c.loop-p.invariant.members c.in_ok-add.ensures.members;
}

pub returns : goal.returns
returns c =
    let same : c.in_ok-from.from ≡ origins c.in-Some.first.from c.loop-p.yielded = same_rising _ _ c.in_ok-from.ensures.rising c.loop-p.invariant.rising (λ q. c.in_ok-from.ensures.members q ∙ c.loop-p.invariant.members q) in
    let all : c.args.batch.items ≡ c.in-Some.first ∷ c.loop-p.yielded = grind (arith, common_steps) in
    c.in_ok-batch.ensures ∙ rw (all, same) refl
