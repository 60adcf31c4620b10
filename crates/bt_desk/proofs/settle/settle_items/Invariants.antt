use Rattle.std.proofs.Common.{◌≡◌, ◌+◌, ◌≤◌, take}
use Rattle.bt_desk.specs.Settles.{IsSettled}
use Rattle.bt_desk.proofs.settle.settle_items.Given as goal

abbrev pub invariant-loop-item : goal.invariant-loop-item
invariant-loop-item g l = record {
  part : l.part ≡ l.item-index;
  acked : l.report.acked ≤ l.initial.report.acked + l.item-index;
  refused : l.report.refused ≤ l.initial.report.refused + l.item-index;
  answer_faults : l.report.answer_faults ≤ l.initial.report.answer_faults + l.item-index;
  settled : IsSettled g.K.Sink g.A.Answerer l.initial.sink l.sink l.initial.answerer l.answerer l.initial.report l.report l.number (take l.item-index l.items);
}
