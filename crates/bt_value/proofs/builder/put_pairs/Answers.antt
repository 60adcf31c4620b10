use Rattle.std.proofs.Common.{◌≡◌, map, nat_cmp, sym, ap, ◌∙◌}
use Rattle.std.specs.BTreeMap.{insert_entry}
use Rattle.std.specs.Cmp.Lexicographic.{slice_cmp}
use Rattle.std.specs.Vec.Iter.{into_iter_items}
use Rattle.bt_value.specs.Keys.{put_all}
use Rattle.bt_value.proofs.Gathered.{named, named-put}
use Rattle.bt_value.proofs.builder.put_pairs.Goals as goal

pub loop-key-preserved-in_ok-insert : goal.loop-key-preserved-in_ok-insert
loop-key-preserved-in_ok-insert g c =
    let es = c.loop-key.sorted.entries in
    let v = c.in-Some.value in
    let put = ap (map named) c.in_ok-insert.ensures.entries ∙ named-put es c.into_string.result v ∙ ap (λ k. insert_entry (slice_cmp nat_cmp) (map named es) k v) c.into_string.ensures in
    c.loop-key.invariant ∙ ap (put_all (map named es)) c.in-Some.ensures.steps.0 ∙ ap (λ ms. put_all ms (into_iter_items c.next.new.self)) (sym put)

pub loop-key-preserved : goal.loop-key-preserved
loop-key-preserved g c =
    let es = c.loop-key.sorted.entries in
    let v = c.in-Some.value in
    let put = ap (map named) c.in_ok-insert.ensures.entries ∙ named-put es c.into_string.result v ∙ ap (λ k. insert_entry (slice_cmp nat_cmp) (map named es) k v) c.into_string.ensures in
    c.loop-key.invariant ∙ ap (put_all (map named es)) c.in-Some.ensures.steps.0 ∙ ap (λ ms. put_all ms (into_iter_items c.next.new.self)) (sym put)
