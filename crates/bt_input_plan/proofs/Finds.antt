-- Members by their keys, and what they mean.
use Rattle.std.proofs.Common.{◌≡◌, ◌≤◌, ℕ, List, [], ◌∷◌, Option, Some, None, option_map, map, refl, Bool, true, false, cond, arith, max, ap, sym, ◌∙◌}
use Rattle.std.specs.Str.{bytes_eq}
use Rattle.bt_value.specs.Depth.{depth, members_depth}
use Rattle.bt_value.specs.Keys.{find}
use Rattle.bt_value.specs.declared.val.Val.{Val}
use Rattle.bt_input_plan.specs.Kinds.{Chosen, chosen, chosen_or, kind_named}
use Rattle.bt_input_plan.specs.Reading.{Reading, met, reading}
use Rattle.bt_input_plan.specs.declared.kinds.Kind.{Kind}

found_or : (b : Bool) (v : Val) (o : Option Reading) (r : Option Val) → o ≡ option_map reading r →
    cond b (Some (reading v)) o ≡ option_map reading (cond b (Some v) r)
found_or true v o r h = refl
found_or false v o r h = h

pub find_met : (k : List ℕ) (ms : List (List ℕ × Val)) → find k (met ms) ≡ option_map reading (find k ms)
find_met k [] = refl
find_met k (m ∷ ms) = found_or (bytes_eq k m.0) m.1 (find k (met ms)) (find k ms) (find_met k ms)

found_in : (b : Bool) (w v : Val) (r : Option Val) (n : ℕ) → (r ≡ Some v → depth v ≤ n) → cond b (Some w) r ≡ Some v → depth v ≤ max (depth w) n
found_in true w v r n h e = let same : depth w ≡ depth v = grind (arith, e) in omega arith
found_in false w v r n h e = omega (arith, h e)

pub found_depth : (k : List ℕ) (ms : List (List ℕ × Val)) (v : Val) → find k ms ≡ Some v → depth v ≤ members_depth ms
found_depth k [] v e = absurd (cc)
found_depth k (m ∷ ms) v e = found_in (bytes_eq k m.0) m.1 v (find k ms) (members_depth ms) (found_depth k ms v) e

abbrev pub read_chosen : Chosen Val → Chosen Reading
read_chosen c = record { kind = c.kind; key = c.key; value = reading c.value }

chosen_by : (k : Option Kind) (m : List ℕ × Val) (o : Option (Chosen Reading)) (r : Option (Chosen Val)) → o ≡ option_map read_chosen r →
    chosen_or k (m.0, reading m.1) o ≡ option_map read_chosen (chosen_or k m r)
chosen_by (Some k) m o r h = refl
chosen_by None m o r h = h

pub chosen_met : (ms : List (List ℕ × Val)) → chosen (met ms) ≡ option_map read_chosen (chosen ms)
chosen_met [] = refl
chosen_met (m ∷ ms) = chosen_by (kind_named m.0) m (chosen (met ms)) (chosen ms) (chosen_met ms)

pub none_met : (ms : List (List ℕ × Val)) → None ≡ chosen ms → chosen (met ms) ≡ None
none_met ms h = chosen_met ms ∙ ap (option_map read_chosen) (sym h)
