-- Looking up a member among what the members mean.
use Rattle.std.proofs.Common.{◌≡◌, ℕ, List, [], ◌∷◌, Option, Some, None, option_map, is_some, refl, Bool, true, false, cond, ap, ◌∙◌}
use Rattle.std.specs.Str.{bytes_eq}
use Rattle.bt_value.specs.Keys.{find}
use Rattle.bt_value.specs.declared.val.Val.{Val}
use Rattle.bt_walk.specs.Meaning.{Meaning}
use Rattle.bt_walk.specs.Members.{has}
use Rattle.bt_walk.specs.Walk.{meaning, met}

chosen : (b : Bool) (v : Val) (o : Option Meaning) (r : Option Val) → o ≡ option_map meaning r →
    cond b (Some (meaning v)) o ≡ option_map meaning (cond b (Some v) r)
chosen true v o r h = refl
chosen false v o r h = h

pub find_met : (k : List ℕ) (ms : List (List ℕ × Val)) → find k (met ms) ≡ option_map meaning (find k ms)
find_met k [] = refl
find_met k (m ∷ ms) = chosen (bytes_eq k m.0) m.1 (find k (met ms)) (find k ms) (find_met k ms)

pub is_some-map : {A B : Type 0} (f : A → B) (o : Option A) → is_some (option_map f o) ≡ is_some o
is_some-map f (Some x) = refl
is_some-map f None = refl

pub has_met : (k : List ℕ) (ms : List (List ℕ × Val)) → has (met ms) k ≡ is_some (find k ms)
has_met k ms = ap is_some (find_met k ms) ∙ is_some-map meaning (find k ms)
