use Rattle.bt_text_lints.proofs.interpolated.push_span.Goals as goal

pub part-requires-clause-order : goal.part-requires-clause-order
part-requires-clause-order c = (c.requires c.if-span.true).order

pub part-requires-clause-from : goal.part-requires-clause-from
part-requires-clause-from c = (c.requires c.if-span.true).from

pub part-requires-clause-to : goal.part-requires-clause-to
part-requires-clause-to c = (c.requires c.if-span.true).to
