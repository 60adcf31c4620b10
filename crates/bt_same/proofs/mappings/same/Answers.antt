use Rattle.bt_same.proofs.Laws.{mapping_law}
use Rattle.bt_same.proofs.mappings.same.Goals as goal

pub returns : goal.returns
returns c =
    let law = mapping_law c.args.a.now c.args.b.now in
    ((λ h. law.0 (c.mapping.ensures.0 h)), (λ e. c.mapping.ensures.1 (law.1 e)))
