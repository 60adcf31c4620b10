use Rattle.std.proofs.Common.{◌≡◌, ap, map, refl, List, [], ◌∷◌}
use Rattle.bt_matches.proofs.patterns.texts_found.Invariants.{cut_out}
use Rattle.bt_matches.proofs.patterns.texts_found.Goals as goal

map-map : {A B C : Type 0} (f : B → C) (g : A → B) (xs : List A) → map f (map g xs) ≡ map (λ x. f (g x)) xs
map-map f g [] = refl
map-map f g (x ∷ xs) = ap (λ ys. f (g x) ∷ ys) (map-map f g xs)

pub loop-found-init : goal.loop-found-init
loop-found-init c =
    let found = rw c.in_ok-matcher.ensures.pattern at c.find_iter-found-items.ensures.found in
    rw (c.into_iter-found-iterator.ensures.into_iter_gives, c.new-texts.ensures.items, found, c.find_iter-found-items.ensures.within)
    (map-map cut_out (λ p. (c.args.text.now, p)) _)
