use Rattle.std.proofs.Common.{◌∙◌, ap, not}
use Rattle.bt_lints.specs.Names.{has}
use Rattle.bt_lints.proofs.Addings.{adds_where}
use Rattle.bt_lints.proofs.Members.{is_not_in}
use Rattle.bt_lints.proofs.linter.Linter.unknown_map.Goals as goal

pub returns : goal.returns
returns c =
    adds_where c.push_if.result (not c.has-unknown.result) _ _ _ _
    (is_not_in c.has-unknown.result c.args.self.now.maps.now c.args.name.now (c.has-unknown.ensures ∙ ap (has c.args.self.now.maps.now) c.as_str.ensures)) c.push_if.ensures
