use Rattle.bt_lints.proofs.Addings.{adds_where}
use Rattle.bt_lints.proofs.linter.Linter.root.Goals as goal

pub returns : goal.returns
returns c = adds_where c.push_if.result c.is_check.result _ _ _ _ c.is_check.ensures c.push_if.ensures
