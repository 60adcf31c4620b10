use Rattle.std.proofs.Common.{◌∙◌, rules}
use Rattle.std.specs.Prelude.{codes}
use Rattle.bt_units.specs.Ends.{IsOfTest, IsTestEnd}
use Rattle.bt_units.specs.Expected.{IsOfSome, IsRefusedBy}
use Rattle.bt_units.proofs.Listing.{all_done, of_some, one_more}
use Rattle.bt_units.proofs.running.ends_from.Goals as goal

pub loop-i-preserved : goal.loop-i-preserved
loop-i-preserved c =
    one_more (IsTestEnd c.args.config.now.doc) c.args.tests.now c.loop-i.out c.push.new.out c.loop-i.i c.index-tests-i.result c.in_ok-end.end
    c.loop-i-test.true c.index-tests-i.is c.in_ok-end.ensures.ended c.in_ok-push.ensures c.loop-i.invariant

pub returns-clause-ends : goal.returns-clause-ends
returns-clause-ends c = all_done (IsTestEnd c.args.config.now.doc) c.args.tests.now c.loop-i.out c.loop-i.i c.loop-i-test.false c.loop-i.invariant

pub returns-in_err-end-clause-refused : goal.returns-in_err-end-clause-refused
returns-in_err-end-clause-refused c =
    let refused : IsRefusedBy (IsOfSome (IsOfTest c.args.config.now.doc) (codes "/tests") c.args.tests.now) c.in_err-end.field-0.0 =
    of_some (IsOfTest c.args.config.now.doc) (codes "/tests") c.as_str.result.now c.args.tests.now c.loop-i.i c.index-tests-i.result c.in_err-end.field-0.0
    c.loop-i-test.true c.index-tests-i.is (c.as_str.ensures ∙ c.in_ok-here.ensures) c.in_err-end.ensures.refused in
    search rules
