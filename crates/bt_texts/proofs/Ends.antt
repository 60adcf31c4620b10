-- Where a text that begins or ends with another may be cut.
use Rattle.std.proofs.Common.{◌≡◌, ℕ, ◌-◌, ◌≤◌, true, List, length, take, drop, sym, subst, ap, ◌∙◌, arith, length-drop, nat_eq}
use Rattle.std.specs.Prelude.{IsUtf8}
use Rattle.std.specs.List.{starts_with, ends_with}
use Rattle.std.specs.Str.{IsCharBoundary}
use Rattle.std.specs.Cmp.Lexicographic.{same_text}
use Rattle.std.proofs.Math.Nat.{min-le_right}
use Rattle.std.proofs.lemmas.List.{length-take}
use Rattle.std.proofs.lemmas.Str.{IsCharBoundary-from_take, IsCharBoundary-from_drop}

prefix_is : (s t : List ℕ) → starts_with nat_eq s t ≡ true → t ≡ take (length t) s
prefix_is s t e = same_text t (take (length t) s) (sym e)

suffix_is : (s t : List ℕ) → ends_with nat_eq s t ≡ true → t ≡ drop (length s - length t) s
suffix_is s t e = same_text t (drop (length s - length t) s) (sym e)

pub prefix_fits : (s t : List ℕ) → starts_with nat_eq s t ≡ true → length t ≤ length s
prefix_fits s t e = omega (arith, ap length (prefix_is s t e) ∙ length-take (length t) s, min-le_right (length t) (length s))

pub suffix_fits : (s t : List ℕ) → ends_with nat_eq s t ≡ true → length t ≤ length s
suffix_fits s t e = omega (arith, ap length (suffix_is s t e), length-drop (length s - length t) s)

-- a string may be cut behind a string that it begins with
pub past_prefix : (s t : List ℕ) → IsUtf8 s → IsUtf8 t → starts_with nat_eq s t ≡ true → IsCharBoundary s (length t)
past_prefix s t us ut e = IsCharBoundary-from_take s (length t) us (prefix_fits s t e) (subst IsUtf8 (prefix_is s t e) ut)

-- and before one that it ends with
pub before_suffix : (s t : List ℕ) → IsUtf8 t → ends_with nat_eq s t ≡ true → IsCharBoundary s (length s - length t)
before_suffix s t ut e = IsCharBoundary-from_drop s (length s - length t) (omega arith) (subst IsUtf8 (suffix_is s t e) ut)
