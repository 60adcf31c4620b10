use Rattle.std.proofs.Common.{◌≡◌, ◌∙◌, sym, subst, true, arith}
use Rattle.std.specs.Str.Iter.{split_text, split_has_more, split_pattern}
use Rattle.std.proofs.lemmas.Iterator.Splits.{YieldsList-from_str_split}
use Rattle.std.proofs.lemmas.Iterator.Consumers.{YieldsList-end}
use Rattle.bt_compile.proofs.compile.names_of.Goals as goal

pub returns : goal.returns
returns c =
    let same = sym c.into_iter-name-iterator.ensures.into_iter_gives in
    let text = subst (λ s. split_text s ≡ c.args.pointer.now) same c.split-name-items.ensures.text in
    let more = subst (λ s. split_has_more s ≡ true) same c.split-name-items.ensures.has_more in
    let at = subst (λ s. split_pattern s ≡ 47) same c.split-name-items.ensures.pattern in
    let all = YieldsList-from_str_split 47 c.args.pointer.now (omega arith) text more at in
    let t = YieldsList-end all c.loop-name.yielded _ c.loop-name.yielded_by _ _ c.in-None.is c.next.ensures.steps in
    c.loop-name.invariant ∙ t.0
