use Rattle.std.proofs.Common.{◌≡◌, ◌<◌, ◌-◌, ◌∙◌, ℕ, List, sym, ap, subst, length, get_or, nat_eq, arith}
use Rattle.std.specs.Prelude.{true}
use Rattle.std.specs.List.Sorted.{IsStrictlyIncreasing}
use Rattle.std.specs.Ordering.{nat_cmp}
use Rattle.std.specs.Set.{sorted_merge, IsUnion}
use Rattle.std.proofs.lemmas.Grind.{common_steps}
use Rattle.bt_ports.proofs.RisingLists.{merge_above, merge_rises, merge_is_union_of_numbers}
use Rattle.bt_ports.proofs.origins.add.Goals as goal

pub returns-then-index-others-clause-ok : goal.returns-then-index-others-clause-ok
returns-then-index-others-clause-ok c =
    let last : get_or c.args.numbers.now.items (length c.args.numbers.now.items - 1) 0 < get_or c.args.others.now 0 0 = grind (arith, common_steps) in
    c.in_ok-extend_from_slice.ensures.items ∙ sym (merge_above _ _ c.requires.rising c.requires.others last)

pub returns-clause-rises : goal.returns-clause-rises
returns-clause-rises c =
    let merged : c.in_ok-merged.merged.items ≡ sorted_merge nat_cmp true c.args.numbers.now.items c.args.others.now = c.in_ok-merged.ensures ∙ ap (λ (xs : List ℕ). sorted_merge nat_cmp true xs c.args.others.now) c.as_slice.ensures.value in
    subst IsStrictlyIncreasing (sym merged) (merge_rises _ _ c.requires.rising c.requires.others_rise)

pub returns-clause-union : goal.returns-clause-union
returns-clause-union c =
    let merged : c.in_ok-merged.merged.items ≡ sorted_merge nat_cmp true c.args.numbers.now.items c.args.others.now = c.in_ok-merged.ensures ∙ ap (λ (xs : List ℕ). sorted_merge nat_cmp true xs c.args.others.now) c.as_slice.ensures.value in
    subst (λ (zs : List ℕ). IsUnion nat_eq c.args.numbers.now.items c.args.others.now zs) (sym merged) (merge_is_union_of_numbers _ _)
