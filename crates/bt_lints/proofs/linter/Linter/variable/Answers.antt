use Rattle.std.proofs.Common.{◌∙◌, ap, not}
use Rattle.bt_lints.specs.Names.{has}
use Rattle.bt_lints.proofs.Addings.{adds_where}
use Rattle.bt_lints.proofs.Members.{is_not_in}
use Rattle.bt_lints.proofs.linter.Linter.variable.Goals as goal

pub returns : goal.returns
returns c =
    adds_where c.push_if.result (not c.has-unknown.result) _ _ _ _
    (is_not_in c.has-unknown.result c.args.variables.now c.args.name.now (c.has-unknown.ensures ∙ ap (has c.args.variables.now) c.as_str.ensures)) c.push_if.ensures
