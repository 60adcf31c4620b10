use Rattle.std.proofs.Common.{List, ℕ, ◌++◌, ap, ◌∙◌}
use Rattle.bt_print.proofs.StepLemmas.{on_ok}
use Rattle.bt_print.proofs.LeafLemmas.{int_is}
use Rattle.bt_print.proofs.leaves.int.Goals as goal

pub returns : goal.returns
returns c =
    on_ok c.push_str-2.result
    (λ h. h ∙ ap (λ (u : List ℕ). c.args.out.now ++ u) (c.format.ensures.text ∙ int_is c.args.n c.if-n-lt0.false c.ranges.n)) c.push_str-2.ensures.ok
