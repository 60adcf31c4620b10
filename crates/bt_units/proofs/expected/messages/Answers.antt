use Rattle.std.proofs.Common.{◌∙◌, rules}
use Rattle.bt_units.specs.Expected.{AreExpected, IsOfMessage, IsOfSome, IsRefusedBy}
use Rattle.bt_units.proofs.Listing.{all_done, of_some, one_more}
use Rattle.bt_units.proofs.expected.messages.Goals as goal

pub loop-i-preserved : goal.loop-i-preserved
loop-i-preserved c =
    one_more AreExpected c.args.list.now c.loop-i.out c.push_message.new.out c.loop-i.i c.index-list-i.result c.in_ok-message.message
    c.loop-i-test.true c.index-list-i.is c.in_ok-message.ensures.made c.in_ok-push_message.ensures c.loop-i.invariant

pub returns-clause-made : goal.returns-clause-made
returns-clause-made c = all_done AreExpected c.args.list.now c.loop-i.out c.loop-i.i c.loop-i-test.false c.loop-i.invariant

pub returns-in_err-message-clause-refused : goal.returns-in_err-message-clause-refused
returns-in_err-message-clause-refused c =
    let refused : IsRefusedBy (IsOfSome IsOfMessage c.args.at.now c.args.list.now) c.in_err-message.field-0.0 =
    of_some IsOfMessage c.args.at.now c.as_str.result.now c.args.list.now c.loop-i.i c.index-list-i.result c.in_err-message.field-0.0
    c.loop-i-test.true c.index-list-i.is (c.as_str.ensures ∙ c.in_ok-here.ensures) c.in_err-message.ensures.refused in
    search rules
