-- The order of lints that the derived comparison has.
use Rattle.std.proofs.Common.{◌≡◌, ℕ, List, [], ◌∷◌, refl, rules, ap, sym, ◌∙◌, true, false, Bool, ltb, eqb, cond, nat_eq, if◌then◌else◌}
use Rattle.std.proofs.lemmas.Bool.{eqb-true}
use Rattle.std.specs.declared.cmp.Ordering.{Ordering}
use Rattle.std.specs.declared.cmp.Ordering.TheVariants.{Less, Equal, Greater}
use Rattle.std.specs.Ordering.{nat_cmp, ordering_then, is_eq}
use Rattle.std.specs.List.{AllByRecursion}
use Rattle.std.specs.List.Sorted.{IsStrictlySortedBy}
use Rattle.bt_lints.specs.Order.{by_place, number}
use Rattle.bt_lints.specs.declared.lint.MapLint.{MapLint}
use Rattle.bt_lints.specs.declared.lint.MapLintKind.{MapLintKind}
use Rattle.bt_lints.specs.declared.lint.MapLintKind.TheVariants as kind
use Rattle.bt_lints.specs.contracts.lint.MapLintOrd.TheImpl.{cmp-value}
use Rattle.bt_lints.specs.contracts.lint.MapLintOrd.TheImpl.Laws.{matches_eq-law}
use Rattle.bt_lints.specs.contracts.lint.MapLintPartialEq.TheImpl.{ghosts}

pub cmp_is : (x y : MapLint) → cmp-value.it x y ≡ by_place x y
cmp_is x y = search rules

all_same : {K : Type 0} (f g : K → Ordering) → ((y : K) → f y ≡ g y) → (ys : List K) → AllByRecursion (λ y. f y ≡ Less) ys → AllByRecursion (λ y. g y ≡ Less) ys
all_same f g e [] h = h
all_same f g e (y ∷ ys) h = (sym (e y) ∙ h.0, all_same f g e ys h.1)

-- a list that rises by one order rises by one that agrees with it
pub strictly_same : {K : Type 0} (R S : K → K → Ordering) → ((x y : K) → R x y ≡ S x y) → (xs : List K) → IsStrictlySortedBy R xs → IsStrictlySortedBy S xs
unfolding IsStrictlySortedBy
strictly_same R S e [] h = h
strictly_same R S e (x ∷ xs) h = (all_same (R x) (S x) (e x) xs h.0, strictly_same R S e xs h.1)

kind_of : ℕ → MapLintKind
kind_of n =
    if nat_eq n 1 then kind.UnknownFunction else
    if nat_eq n 2 then kind.UnknownMethod else
    if nat_eq n 3 then kind.WrongArguments else
    if nat_eq n 4 then kind.UnknownVariable else
    if nat_eq n 5 then kind.UnknownMap else
    if nat_eq n 6 then kind.MapCycle else
    if nat_eq n 7 then kind.DuplicateMap else kind.RootInCheck

number_kind : (k : MapLintKind) → kind_of (number k) ≡ k
unfolding kind_of
number_kind kind.UnknownFunction = refl
number_kind kind.UnknownMethod = refl
number_kind kind.WrongArguments = refl
number_kind kind.UnknownVariable = refl
number_kind kind.UnknownMap = refl
number_kind kind.MapCycle = refl
number_kind kind.DuplicateMap = refl
number_kind kind.RootInCheck = refl

both_equal : (o p : Ordering) → is_eq (ordering_then o p) ≡ true → (o ≡ Equal) × (p ≡ Equal)
both_equal Less p h = cc
both_equal Equal Less h = cc
both_equal Equal Equal h = (refl, refl)
both_equal Equal Greater h = cc
both_equal Greater p h = cc

by_tests : (a b : Bool) → cond a Less (cond b Equal Greater) ≡ Equal → b ≡ true
by_tests true b h = cc
by_tests false true h = refl
by_tests false false h = cc

nat_equal : (m n : ℕ) → nat_cmp m n ≡ Equal → m ≡ n
nat_equal m n h = eqb-true m n (by_tests (ltb m n) (eqb m n) h)

pub equal_is : (x y : MapLint) → ghosts.eq x y ≡ true → x ≡ y
equal_is x y h =
    let both = both_equal _ _ (ap is_eq (sym (cmp_is x y)) ∙ sym (matches_eq-law x y) ∙ h) in
    let same : x.kind ≡ y.kind = sym (number_kind x.kind) ∙ ap kind_of (nat_equal _ _ both.1) ∙ number_kind y.kind in
    ap (λ n. record { at = n; kind = x.kind }) (nat_equal _ _ both.0) ∙ ap (λ k. record { at = y.at; kind = k }) same
