use Rattle.std.proofs.Common.{◌≡◌, arith}
use Rattle.std.specs.Prelude.{false}
use Rattle.std.proofs.lemmas.Grind.{common_steps}
use Rattle.bt_value.specs.Plain.{has_bytes}
use Rattle.bt_batches.proofs.Contents.{behind_more, plain_more}
use Rattle.bt_batches.proofs.archive.documents.Goals as goal

pub loop-p-preserved : goal.loop-p-preserved
loop-p-preserved c =
    let plain : has_bytes c.in-Ok.value ≡ false = rw c.in-Ok.is at c.in_ok-value.ensures.plain in
    record {
      documents = grind (arith, common_steps, behind_more);
      plain = rw c.in_ok-push-in-Ok.ensures.ok (plain_more c.loop-p.values c.in-Ok.value c.loop-p.invariant.plain plain);
    }
