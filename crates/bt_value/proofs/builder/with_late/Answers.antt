use Rattle.std.proofs.Common.{◌≡◌, IfOk, map, ap, ap₂, ◌∙◌, subst}
use Rattle.bt_value.specs.Keys.{put_all}
use Rattle.bt_value.proofs.Gathered.{named, put_all-rising}
use Rattle.bt_value.proofs.builder.with_late.Goals as goal

pub returns : goal.returns
returns g c =
    let first : map named c.put_pairs.new.sorted.entries ≡ c.args.members =
    c.in_ok-put_pairs.ensures ∙ ap₂ (λ es ps. put_all (map named es) ps) c.new-sorted.ensures.empty c.into_vec.ensures.items ∙ put_all-rising c.args.members c.into_vec.ensures.rising in
    let all = c.in_ok-put_pairs-2.ensures ∙ ap (λ es. put_all es c.args.late.items) first in
    subst (λ es. IfOk c.in_order.result (λ f. f ≡ es)) all c.in_order.ensures
