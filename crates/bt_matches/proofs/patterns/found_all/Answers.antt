use Rattle.std.proofs.Common.{◌∙◌, ap, sym, Some}
use Rattle.bt_matches.proofs.Meanings.{all_told}
use Rattle.bt_matches.proofs.patterns.found_all.Goals as goal

pub returns : goal.returns
returns c = all_told _ _ c.args.text.now c.regex.ensures (λ k. (c.type_inv.text k).fits) ∙ ap Some (sym c.in_ok-texts.ensures)
