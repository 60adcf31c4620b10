use Rattle.bt_intake.proofs.Places.{byte-found}
use Rattle.bt_intake.proofs.line.first_byte.Goals as goal

pub returns : goal.returns
returns c = byte-found c.args.bytes.now c.args.byte c.memchr.result c.memchr.ensures
