use Rattle.std.proofs.Common.{◌≡◌, sym, ap, ◌∙◌}
use Rattle.std.specs.Vec.Iter.{into_iter_items}
use Rattle.bt_value.specs.Keys.{put_all}
use Rattle.bt_value.proofs.fields.Fields.from_pairs.Goals as goal

pub loop-key-preserved : goal.loop-key-preserved
loop-key-preserved g c =
    c.loop-key.invariant ∙ ap (put_all c.loop-key.members) c.in-Some.ensures.steps.0 ∙ ap (λ es. put_all es (into_iter_items c.next.new.self)) (sym c.in_ok-put.ensures.ok)
