use Rattle.std.proofs.Common.{◌≡◌, ◌-◌, ◌^◌, false}
use Rattle.bt_intake.specs.Gathering.{BatchesHold, Gathers, GivesNone}
use Rattle.bt_intake.specs.Sources.{fault_count}
use Rattle.bt_intake.proofs.batches.Batches.next.Given as goal

abbrev pub invariant-steps : goal.invariant-steps
invariant-steps g l = record {
  holds : BatchesHold g.S.Readable.shown l.self;
  alive : l.self.lost ≡ false;
  gathers : Gathers g.S.Readable.shown l.fn.self l.self;
  none : GivesNone l.fn.self l.self;
  faults : fault_count g.S.Readable.shown l.self.reader.sources.list ≡ fault_count g.S.Readable.shown l.fn.self.reader.sources.list;
}

abbrev pub decreases-steps : goal.decreases-steps
decreases-steps g l = 2 ^ 48 - l.self.reader.given
