-- Numbers that rise from one bound to another.
use Rattle.std.proofs.Common.{◌≡◌, ◌≢◌, ℕ, suc, ◌+◌, ◌<◌, ◌≤◌, List, [], ◌∷◌, ◌++◌, length, arith, refl}
use Rattle.std.specs.List.{AllByRecursion}
use Rattle.bt_demand.specs.WellFormed.{Differ, Rises}

-- they rise, none of them is below the first bound, and all are below the second
abbrev pub Climbs : ℕ → List ℕ → ℕ → Type 0
Climbs a [] b = a ≤ b
Climbs a (x ∷ xs) b = (a ≤ x) × Climbs (suc x) xs b

pub bounds : (a : ℕ) (xs : List ℕ) (b : ℕ) → Climbs a xs b → a ≤ b
bounds a [] b h = h
bounds a (x ∷ xs) b h = omega (arith, h.0, bounds (suc x) xs b h.1)

pub lowered : (a b : ℕ) (xs : List ℕ) (c : ℕ) → a ≤ b → Climbs b xs c → Climbs a xs c
lowered a b [] c h k = omega (arith, h, k)
lowered a b (x ∷ xs) c h k = (omega (arith, h, k.0), k.1)

pub joined : (a : ℕ) (xs : List ℕ) (b : ℕ) (ys : List ℕ) (c : ℕ) → Climbs a xs b → Climbs b ys c → Climbs a (xs ++ ys) c
joined a [] b ys c h k = lowered a b ys c h k
joined a (x ∷ xs) b ys c h k = (h.0, joined (suc x) xs b ys c h.1 k)

above : (n a : ℕ) (xs : List ℕ) (b : ℕ) → n < a → Climbs a xs b → AllByRecursion (λ y. n < y) xs
above n a [] b h k = tt
above n a (x ∷ xs) b h k = (omega (arith, h, k.0), above n (suc x) xs b (omega (arith, h, k.0)) k.1)

pub rise : (a : ℕ) (xs : List ℕ) (b : ℕ) → Climbs a xs b → Rises xs
rise a [] b h = tt
rise a (x ∷ xs) b h = (above x (suc x) xs b (omega arith) h.1, rise (suc x) xs b h.1)

apart : (n : ℕ) (xs : List ℕ) → AllByRecursion (λ y. n < y) xs → AllByRecursion (λ y. n ≢ y) xs
apart n [] h = tt
apart n (x ∷ xs) h = ((λ same. omega (arith, h.0, same)), apart n xs h.1)

pub differ : (xs : List ℕ) → Rises xs → Differ xs
differ [] h = tt
differ (x ∷ xs) h = (apart x xs h.0, differ xs h.1)

pub below : (a : ℕ) (xs : List ℕ) (b c : ℕ) → b ≤ c → Climbs a xs b → AllByRecursion (λ y. y < c) xs
below a [] b c h k = tt
below a (x ∷ xs) b c h k = (omega (arith, h, bounds (suc x) xs b k.1), below (suc x) xs b c h k.1)

pub few : (a : ℕ) (xs : List ℕ) (b : ℕ) → Climbs a xs b → a + length xs ≤ b
few a [] b h = omega (arith, h)
few a (x ∷ xs) b h = omega (arith, h.0, few (suc x) xs b h.1)

-- between equal bounds there are none
pub nothing : (a : ℕ) (xs : List ℕ) → Climbs a xs a → xs ≡ []
nothing a [] h = refl
nothing a (x ∷ xs) h = absurd (omega (arith, h.0, bounds (suc x) xs a h.1))
