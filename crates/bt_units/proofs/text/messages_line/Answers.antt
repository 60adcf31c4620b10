use Rattle.std.proofs.Common.{append_assoc}
use Rattle.bt_units.proofs.text.messages_line.Goals as goal

pub returns : goal.returns
returns c = simp append_assoc c.in_ok-line.ensures.ok
