use Rattle.std.proofs.Common.{◌∙◌, ℕ, List, subst}
use Rattle.std.specs.Prelude.{IfErr, codes}
use Rattle.bt_schema.specs.Pointer.{under}
use Rattle.bt_value.specs.declared.val.Val.{Val}
use Rattle.bt_units.specs.Expected.{IsOfBatch, IsOfSome, IsRefusedBy}
use Rattle.bt_units.proofs.expected.expected_of.Goals as goal

pub returns-clause-refused : goal.returns-clause-refused
returns-clause-refused c =
    let list = c.output_batches.result.now in
    let there : IfErr c.batches.result (IsRefusedBy (IsOfSome IsOfBatch (under c.args.at.now (codes "output_batches")) list)) =
    subst (λ (at : List ℕ). IfErr c.batches.result (IsRefusedBy (IsOfSome IsOfBatch at list))) (c.as_str.ensures ∙ c.in_ok-here.ensures) c.batches.ensures.refused in
    subst (λ (vs : List Val). IfErr c.batches.result (IsRefusedBy (IsOfSome IsOfBatch (under c.args.at.now (codes "output_batches")) vs))) c.output_batches.ensures there
