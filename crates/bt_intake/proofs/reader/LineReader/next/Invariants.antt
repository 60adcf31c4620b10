use Rattle.std.proofs.Common.{◌≡◌}
use Rattle.bt_intake.specs.Reader.{ReaderHolds, Goes, work}
use Rattle.bt_intake.specs.Sources.{fault_count}
use Rattle.bt_intake.proofs.reader.LineReader.next.Given as goal

abbrev pub invariant-steps : goal.invariant-steps
invariant-steps g l = record {
  holds : ReaderHolds g.S.Readable.shown l.self;
  goes : Goes g.S.Readable.shown l.fn.self l.self;
  given : l.self.given ≡ l.fn.self.given;
  faults : fault_count g.S.Readable.shown l.self.sources.list ≡ fault_count g.S.Readable.shown l.fn.self.sources.list;
}

abbrev pub decreases-steps : goal.decreases-steps
decreases-steps g l = work l.self
