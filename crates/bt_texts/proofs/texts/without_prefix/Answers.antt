use Rattle.std.proofs.Common.{◌∙◌, sym}
use Rattle.bt_texts.proofs.Ends.{past_prefix}
use Rattle.bt_texts.proofs.texts.without_prefix.Goals as goal

pub range_from-requires : goal.range_from-requires
range_from-requires c =
    let told = rw (c.as_bytes.ensures.value, c.as_bytes-2.ensures.value) at c.begins.ensures in
    λ some. past_prefix c.args.s.now c.args.t.now c.utf8.s c.utf8.t (sym told ∙ c.if-begins.true)
