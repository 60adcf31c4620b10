use Rattle.std.proofs.Common.{rules}
use Rattle.bt_units.specs.Expected.{IsOfMembers, IsRefusedBy}
use Rattle.bt_units.proofs.Listing.{all_named, next_named, of_member}
use Rattle.bt_units.proofs.expected.named_in.Goals as goal

pub loop-condition-preserved : goal.loop-condition-preserved
loop-condition-preserved c =
    next_named c.args.members.now c.args.conditions.now c.loop-condition.condition-index _ c.loop-condition.out c.push_named.new.out c.loop-condition-test.true
    c.in_ok-push_named.ensures.made c.loop-condition.invariant

pub returns-clause-made : goal.returns-clause-made
returns-clause-made c = all_named c.args.members.now c.args.conditions.now c.loop-condition.condition-index c.loop-condition.out c.loop-condition-test.false c.loop-condition.invariant

pub returns-in_err-push_named-clause-refused : goal.returns-in_err-push_named-clause-refused
returns-in_err-push_named-clause-refused c =
    let refused : IsRefusedBy (IsOfMembers c.args.at.now c.args.members.now) c.in_err-push_named.field-0.0 =
    of_member c.args.at.now _ c.args.members.now c.in_err-push_named.field-0.0 c.in_err-push_named.ensures.refused in
    search rules
