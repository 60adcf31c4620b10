use Rattle.std.proofs.Common.{◌≡◌}
use Rattle.bt_doc.proofs.Built.{begun_has, value_built, if_built}
use Rattle.bt_doc.proofs.build.value_at.Goals as goal

pub built-requires : goal.built-requires
built-requires c = begun_has c.args.element.now c.requires

pub returns : goal.returns
returns c = if_built c.args.element.now c.built.result c.requires c.built.ensures
