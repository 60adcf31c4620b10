use Rattle.bt_intake.proofs.Places.{needle-found}
use Rattle.bt_intake.proofs.line.first_needle.Goals as goal

pub returns : goal.returns
returns c = needle-found c.args.bytes.now c.args.needle.now c.requires c.find.result c.find.ensures
