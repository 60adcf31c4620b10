use Rattle.std.proofs.Common.{ap, ◌∙◌}
use Rattle.bt_print.proofs.LeafLemmas.{quoted_is}
use Rattle.bt_print.proofs.leaves.quoted_string.Goals as goal

pub returns : goal.returns
returns c =
    ap (λ v. v.items) c.in-Ok.ensures.ok
    ∙ quoted_is c.args.s.now _ _ _ c.into_inner.ensures.items (c.string.ensures.room.0 ∙ c.new-writer.ensures.before ∙ c.new.ensures.items) (c.in_ok-string.ensures.ok)
    c.new-writer.ensures.tokens
