use Rattle.std.proofs.Common.{◌∙◌}
use Rattle.std.proofs.lemmas.List.Filters.{dedup_is}
use Rattle.std.proofs.lemmas.List.Kept.{Contains-dedup, Contains-from_dedup, IsStrictlySortedBy-dedup}
use Rattle.std.proofs.lemmas.List.Sorted.{Contains-permutation, IsPermutation-sym}
use Rattle.bt_lints.specs.Order.{by_place}
use Rattle.bt_lints.specs.contracts.lint.MapLintOrd.TheImpl.Laws.{total-law, matches_eq-law}
use Rattle.bt_lints.specs.contracts.lint.MapLintEq.TheImpl.Laws.{laws-law}
use Rattle.bt_lints.proofs.Orders.{cmp_is, equal_is, strictly_same}
use Rattle.bt_lints.proofs.order.arranged.Goals as goal

pub returns-clause-in_order : goal.returns-clause-in_order
returns-clause-in_order c =
    let strict = IsStrictlySortedBy-dedup total-law matches_eq-law _ c.sort_unstable.ensures.sorted in
    let is = dedup_is _ _ _ c.dedup.ensures.filtered in
    rw (c.from_vec.ensures.list ∙ is) (strictly_same _ by_place cmp_is _ strict)

pub returns-clause-same : goal.returns-clause-same
returns-clause-same c =
    let is = c.from_vec.ensures.list ∙ dedup_is _ _ _ c.dedup.ensures.filtered in
    let moved = c.sort_unstable.ensures.permutation in
    λ x. (
      (λ h. rw (← c.into_vec-lints.ensures.items) (Contains-permutation _ _ x (IsPermutation-sym _ _ moved) (Contains-from_dedup _ _ x (rw is at h)))),
      (λ h. rw is (Contains-dedup laws-law equal_is _ x (Contains-permutation _ _ x moved (rw (← c.into_vec-lints.ensures.items) at h)))),
    )
