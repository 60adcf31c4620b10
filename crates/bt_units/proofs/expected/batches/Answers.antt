use Rattle.std.proofs.Common.{◌∙◌, rules}
use Rattle.bt_units.specs.Expected.{IsExpectedBatch, IsOfBatch, IsOfSome, IsRefusedBy}
use Rattle.bt_units.proofs.Listing.{all_done, of_some, one_more}
use Rattle.bt_units.proofs.expected.batches.Goals as goal

pub loop-i-preserved : goal.loop-i-preserved
loop-i-preserved c =
    one_more IsExpectedBatch c.args.list.now c.loop-i.out c.push_batch.new.out c.loop-i.i c.index-list-i.result c.in_ok-batch.batch
    c.loop-i-test.true c.index-list-i.is c.in_ok-batch.ensures.made c.in_ok-push_batch.ensures c.loop-i.invariant

pub returns-clause-made : goal.returns-clause-made
returns-clause-made c = all_done IsExpectedBatch c.args.list.now c.loop-i.out c.loop-i.i c.loop-i-test.false c.loop-i.invariant

pub returns-in_err-batch-clause-refused : goal.returns-in_err-batch-clause-refused
returns-in_err-batch-clause-refused c =
    let refused : IsRefusedBy (IsOfSome IsOfBatch c.args.at.now c.args.list.now) c.in_err-batch.field-0.0 =
    of_some IsOfBatch c.args.at.now c.as_str.result.now c.args.list.now c.loop-i.i c.index-list-i.result c.in_err-batch.field-0.0
    c.loop-i-test.true c.index-list-i.is (c.as_str.ensures ∙ c.in_ok-here.ensures) c.in_err-batch.ensures.refused in
    search rules
