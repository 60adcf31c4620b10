use Rattle.std.proofs.Common.{◌≡◌, [], ◌∷◌, ◌++◌, String, Global, string_cmp, sym, ap, ap₂, ◌∙◌, subst}
use Rattle.std.specs.List.Sorted.{IsStrictlySortedBy}
use Rattle.std.specs.Map.{keys_of}
use Rattle.bt_value.specs.Keys.{Rising}
use Rattle.bt_value.proofs.Gathered.{rising_so_far}
use Rattle.bt_value.proofs.builder.in_order.Goals as goal

pub push-requires : goal.push-requires
push-requires g c =
    let l = c.loop-key in
    let v = c.in-Some.value in
    let left = c.next.new.self in
    let all : c.args.sorted.entries ≡ l.yielded ++ (c.in-Some.key, v) ∷ left = l.invariant.2 ∙ ap (λ es. l.yielded ++ es) c.in-Some.ensures.steps in
    let rising = rising_so_far l.yielded (c.in-Some.key, v) left (subst (λ es. IsStrictlySortedBy string_cmp (keys_of es)) all c.into_iter-key-iterator.ensures.into_iter_gives.5) in
    subst Rising (ap₂ (λ ms k. ms ++ (k, v) ∷ []) (sym l.invariant.3) (sym c.from_string.ensures)) rising
