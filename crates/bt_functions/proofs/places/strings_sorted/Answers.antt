use Rattle.std.proofs.Common.{◌≡◌, ◌∙◌}
use Rattle.bt_functions.proofs.Sorted.{strings_sorted}
use Rattle.bt_functions.proofs.places.strings_sorted.Goals as goal

pub returns : goal.returns
returns c = strings_sorted _ _ _ (c.in_ok-all.ensures ∙ c.in_ok-keys.ensures) c.sort_unstable.ensures.permutation c.sort_unstable.ensures.sorted
