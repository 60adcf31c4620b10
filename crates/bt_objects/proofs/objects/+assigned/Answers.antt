use Rattle.std.proofs.Common.{◌≡◌, ◌≢◌, ◌-◌, ◌∙◌, sym, ap, arith}
use Rattle.std.specs.List.{fold}
use Rattle.std.proofs.lemmas.Grind.{common_steps}
use Rattle.bt_objects.specs.Objects as spec
use Rattle.bt_objects.proofs.Joining.{assigned_step}
use Rattle.bt_objects.proofs.objects.+assigned.Goals as goal

pub assigned-returns : goal.assigned-returns
assigned-returns t c =
    let some : c.args.room ≢ 0 = omega arith in
    let step : spec.assigned c.args.room c.args.ms c.args.ns ≡ fold (spec.assigned_on (spec.assigned (c.args.room - 1))) c.args.ms c.args.ns = assigned_step c.args.room c.args.ms c.args.ns some in
    let last : fold (spec.assigned_on (spec.assigned (c.args.room - 1))) c.args.ms c.args.ns ≡ c.loop-member.got = grind (arith, common_steps, c.loop-member.invariant) in
    sym (step ∙ last)
