use Rattle.std.proofs.Common.{◌≡◌, drop}
use Rattle.std.specs.Prelude.{false}
use Rattle.bt_batches.specs.Archives as spec
use Rattle.bt_batches.proofs.archive.documents.Given as goal

abbrev pub invariant-loop-p : goal.invariant-loop-p
invariant-loop-p l = record {
  documents : spec.documents l.batch ≡ spec.behind l.values (spec.documents (drop l.p-index l.batch));
  plain : spec.have_bytes l.values ≡ false;
}
