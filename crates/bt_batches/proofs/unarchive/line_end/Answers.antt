use Rattle.bt_batches.proofs.Contents.{first_line}
use Rattle.bt_batches.proofs.unarchive.line_end.Goals as goal

pub returns : goal.returns
returns c = first_line c.args.bytes.now c.memchr.result c.memchr.ensures
