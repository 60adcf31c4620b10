use Rattle.std.proofs.Common.{◌∙◌, ap}
use Rattle.bt_lints.specs.Names.{has}
use Rattle.bt_lints.proofs.Addings.{adds_where}
use Rattle.bt_lints.proofs.Members.{is_in}
use Rattle.bt_lints.proofs.linter.Linter.cycle.Goals as goal

pub returns : goal.returns
returns c =
    adds_where c.push_if.result c.has.result _ _ _ _
    (is_in c.has.result c.args.leads.now c.args.name.now (c.has.ensures ∙ ap (has c.args.leads.now) c.as_str.ensures)) c.push_if.ensures
