-- One byte more before a place.
use Rattle.std.proofs.Common.{◌≡◌, ℕ, ◌+◌, ◌-◌, ◌<◌, ◌≤◌, true, take, length, get_or, List, arith, ◌∙◌, ap, refl}
use Rattle.std.proofs.lemmas.Bool.Decides.{nat_tests}
use Rattle.std.specs.List.{suffix_len}
use Rattle.std.proofs.lemmas.List.Sums.{suffix_len-le-length, suffix_len-take_no, suffix_len-take_yes}
use Rattle.std.proofs.lemmas.List.{length-take-le}
use Rattle.bt_lexer.specs.Bytes.{is_in_line}

module _ (xs : List ℕ) (i : ℕ) (h : i < length xs) where
  back : (i + 1) - 1 ≡ i
  back = omega arith

  pub column_short : suffix_len is_in_line (take i xs) ≤ i
  column_short = let a = suffix_len-le-length is_in_line (take i xs) in let b = length-take-le i xs (omega arith) in omega arith

  pub column_restarts : get_or xs i 0 ≡ 10 → suffix_len is_in_line (take (i + 1) xs) ≡ 0
  column_restarts e = suffix_len-take_no is_in_line xs (i + 1) 0 (omega arith) (omega arith) (rw (back, e) refl)

  not_ten : (c : ℕ) → (c ≡ 10 → ⊥) → is_in_line c ≡ true
  not_ten c e = grind (arith, nat_tests)

  pub column_grows : (get_or xs i 0 ≡ 10 → ⊥) → suffix_len is_in_line (take (i + 1) xs) ≡ 1 + suffix_len is_in_line (take i xs)
  column_grows e = suffix_len-take_yes is_in_line xs (i + 1) 0 (omega arith) (omega arith) (rw back (not_ten (get_or xs i 0) e)) ∙ ap (λ k. 1 + suffix_len is_in_line (take k xs)) back

-- what `place` goes by
pub ruleset column_steps = (column_short, column_restarts, column_grows)
