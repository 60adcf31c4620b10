use Rattle.std.proofs.Common.{nat_cmp, ap, ◌∙◌}
use Rattle.std.specs.BTreeMap.{insert_entry}
use Rattle.std.specs.Cmp.Lexicographic.{slice_cmp}
use Rattle.bt_value.specs.Keys.{put_all}
use Rattle.bt_value.proofs.Gathered.{put_all-push}
use Rattle.bt_value.proofs.builder.FieldsBuilder.put.Goals as goal

pub returns-clause-ok : goal.returns-clause-ok
returns-clause-ok g c =
    let members = c.self.inside.members in
    let k = c.args.key in
    let v = c.args.value in
    ap (put_all members) c.in_ok-push.ensures.items ∙ put_all-push members c.self.inside.late.items (k, v) ∙ ap (λ es. insert_entry (slice_cmp nat_cmp) es k v) c.self.view_is
