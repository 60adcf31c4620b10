use Rattle.std.proofs.Common.{◌≡◌, ◌∙◌}
use Rattle.bt_functions.proofs.Sorted.{numbers_sorted}
use Rattle.bt_functions.proofs.places.numbers_sorted.Goals as goal

pub returns-in-Ok : goal.returns-in-Ok
returns-in-Ok c =
    numbers_sorted _ _ _ (c.in-Ok.ensures.items ∙ c.as_slice.ensures) c.sort_unstable.ensures.permutation c.sort_unstable.ensures.sorted
