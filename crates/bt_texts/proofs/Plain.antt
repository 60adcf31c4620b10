-- Values without bytes, gathered one by one.
use Rattle.std.proofs.Common.{◌≡◌, List, [], ◌∷◌, ◌++◌, ℕ, map, Bool, true, false, ◌||◌, refl}
use Rattle.std.specs.Ordering.{nat_cmp, match_ordering}
use Rattle.std.specs.Cmp.Lexicographic.{slice_cmp}
use Rattle.std.specs.declared.cmp.Ordering.{Ordering}
use Rattle.std.specs.declared.cmp.Ordering.TheVariants.{Less, Equal, Greater}
use Rattle.bt_value.specs.Plain.{has_bytes, some, some_member}
use Rattle.bt_value.specs.declared.val.Val.{Val}
use Rattle.bt_kinds.specs.Moving.{put}

neither : (a b : Bool) → a ≡ false → b ≡ false → (a || b) ≡ false
neither true b e f = cc
neither false b e f = f

first : (a b : Bool) → (a || b) ≡ false → a ≡ false
first true b e = cc
first false b e = refl

others : (a b : Bool) → (a || b) ≡ false → b ≡ false
others true b e = cc
others false b e = e

pub plain_one : (got : List Val) (x : Val) → some (map has_bytes got) ≡ false → has_bytes x ≡ false → some (map has_bytes (got ++ x ∷ [])) ≡ false
plain_one [] x e f = neither (has_bytes x) false f refl
plain_one (y ∷ ys) x e f = neither (has_bytes y) _ (first _ _ e) (plain_one ys x (others _ _ e) f)

abbrev Members : Type 0
Members = List (List ℕ × Val)

abbrev plain : Members → Bool
plain ms = some_member (map (λ m. (m.0, has_bytes m.1)) ms)

placed : (o : Ordering) (a b d : Members) → plain a ≡ false → plain b ≡ false → plain d ≡ false → plain (match_ordering o a b d) ≡ false
placed Less a b d e f g = e
placed Equal a b d e f g = f
placed Greater a b d e f g = g

pub plain_put : (n : List ℕ) (x : Val) (got : Members) → some_member (map (λ m. (m.0, has_bytes m.1)) got) ≡ false → has_bytes x ≡ false
    → some_member (map (λ m. (m.0, has_bytes m.1)) (put n x got)) ≡ false
plain_put n x [] e f = neither (has_bytes x) false f refl
plain_put n x (m ∷ ms) e f =
    let here = first (has_bytes m.1) _ e in
    let rest = others (has_bytes m.1) _ e in
    placed (slice_cmp nat_cmp n m.0) _ _ _ (neither (has_bytes x) _ f e) (neither (has_bytes x) _ f rest) (neither (has_bytes m.1) _ here (plain_put n x ms rest f))
