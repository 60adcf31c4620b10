-- Parts of the window as slices of it.
use Rattle.std.proofs.Common.{◌≡◌, ℕ, ◌+◌, ◌-◌, List, length, take, drop, sym, ap, ◌∙◌, arith}
use Rattle.std.proofs.lemmas.List.{length-drop, drop-drop, take_all}

-- the bytes from a place on
pub tail_is : (w : List ℕ) (k : ℕ) → take (length w - k) (drop k w) ≡ drop k w
tail_is w k = take_all (length w - k) (drop k w) (omega (arith, length-drop k w))

-- the same, some bytes behind
pub tail_behind : (w : List ℕ) (from clear : ℕ) → take (length w - (from + clear)) (drop (from + clear) w) ≡ drop clear (drop from w)
tail_behind w from clear = tail_is w (from + clear) ∙ sym (drop-drop clear from w)

-- n bytes from a place on
pub part_is : (w : List ℕ) (from n : ℕ) → take (from + n - from) (drop from w) ≡ take n (drop from w)
part_is w from n = let e : from + n - from ≡ n = omega arith in ap (λ k. take k (drop from w)) e
