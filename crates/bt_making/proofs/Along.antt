-- Texts that stand behind others.
use Rattle.std.proofs.Common.{ℕ, List, [], ◌∷◌, ◌++◌, inl, inr}
use Rattle.bt_making.specs.Sources.{AreMade, AreRefused, IsFirstLint, Part, Source}
use Rattle.bt_making.specs.declared.refusal.Refusal.{Refusal}
use Rattle.bt_making.specs.declared.refusal.Refusal.TheVariants as refusal
use Rattle.bt_schema.specs.declared.lints.Lint.{Lint}

pub made_along : (a b : List Source) (p q : List Part) → AreMade a p → AreMade b q → AreMade (a ++ b) (p ++ q)
made_along [] b [] q h k = k
made_along [] b (x ∷ p) q h k = absurd h
made_along (s ∷ a) b [] q h k = absurd h
made_along (s ∷ a) b (x ∷ p) q h k = (h.0, made_along a b p q h.1 k)

first_before : (a b : List Source) (l : Lint) → IsFirstLint a l → IsFirstLint (a ++ b) l
first_before [] b l h = absurd h
first_before (s ∷ a) b l (inl h) = inl h
first_before (s ∷ a) b l (inr (p, h, k)) = inr (p, h, first_before a b l k)

first_behind : (a b : List Source) (p : List Part) (l : Lint) → AreMade a p → IsFirstLint b l → IsFirstLint (a ++ b) l
first_behind [] b p l h k = k
first_behind (s ∷ a) b [] l h k = absurd h
first_behind (s ∷ a) b (x ∷ p) l h k = inr (x, h.0, first_behind a b p l h.1 k)

-- what stands behind is not reached
pub refused_before : (a b : List Source) (r : Refusal) → AreRefused a r → AreRefused (a ++ b) r
refused_before a b (refusal.Lint l) h = first_before a b l h
refused_before a b refusal.NoMemory h = tt

-- what stands before is made ready
pub refused_behind : (a b : List Source) (p : List Part) (r : Refusal) → AreMade a p → AreRefused b r → AreRefused (a ++ b) r
refused_behind a b p (refusal.Lint l) h k = first_behind a b p l h k
refused_behind a b p refusal.NoMemory h k = tt

-- of three, the last is refused
pub third_refused : (a b c : List Source) (p q : List Part) (r : Refusal) → AreMade a p → AreMade b q → AreRefused c r → AreRefused (a ++ (b ++ c)) r
third_refused a b c p q r h k e = refused_behind a (b ++ c) p r h (refused_behind b c q r k e)
