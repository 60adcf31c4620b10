use Rattle.std.proofs.Common.{◌∙◌}
use Rattle.bt_blobl.proofs.Whole.{went-said, counts-named}
use Rattle.bt_blobl.proofs.command.blobl_command.Goals as goal

pub returns : goal.returns
returns g c =
    let pass = c.map_by-pass.result in
    let before = c.map_by-pass.ensures in
    let said = c.say_end.ensures in
    record {
      pass = pass;
      status = c.blobl_status.ensures;
      text_says = before.says;
      told = (λ t. before.told.0 (said.told.0 t), λ t. before.told.1 (said.told.1 t), λ t. before.told.2 (said.told.2 t));
      counts = counts-named pass _ _ _ _ _ _ said.counts.1 said.counts.2 before.count;
      files = said.counts.0 ∙ before.files;
      tells = λ t.
          went-said g.W.S.Source c.args.mapping.now _ _ _ _ _ _ _ _ _ said.told.1 said.told.2 (said.only t) said.said pass
          (before.went (said.told.0 t));
    }
