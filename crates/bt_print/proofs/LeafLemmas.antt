-- Texts and numbers as they are printed.
use Rattle.std.proofs.Common.{◌≡◌, ℕ, ℤ, pos, negsuc, zero, suc, ◌<◌, ◌^◌, decimal, List, [], ◌∷◌, ◌++◌, sym, ap, ◌∙◌, append-nil, arith}
use Rattle.std.proofs.lemmas.Int.{ints}
use Rattle.std.proofs.Common.{SFits, w64, to_z, of_z, false}
use lib.Signed.{lt_z}
use Rattle.std.proofs.Math.Facts.{to_z-of_z}
use Rattle.std.specs.Fmt.{signed_decimal}
use Rattle.std.proofs.lemmas.Fmt.{decimal-digits_of, decimal_digit}
use Rattle.json.specs.Token.{Token, string}
use Rattle.json.specs.Print.{print, print_from, quoted}
use Rattle.bt_words.specs.Printing.{digits, int_digits}

printed_one : (s : List ℕ) → print (string s ∷ []) ≡ quoted s
unfolding print_from
printed_one s = append-nil (quoted s)

pub quoted_is : (s items before : List ℕ) (ts : List Token) → items ≡ before ++ print ts → before ≡ [] → {old : List Token} → ts ≡ old ++ string s ∷ [] → old ≡ [] → items ≡ quoted s
quoted_is s items before ts e f {old} h k =
    e ∙ ap (λ u. u ++ print ts) f ∙ ap print (h ∙ ap (λ us. us ++ string s ∷ []) k) ∙ printed_one s

digits_decimal : (n : ℕ) → n < 2 ^ 64 → digits n ≡ decimal n
unfolding digits
digits_decimal zero h = sym (decimal_digit 0 (omega arith))
digits_decimal (suc n) h = sym (decimal-digits_of (suc n) (omega arith) h)

pub int_is : (z : ℤ) → lt_z (to_z w64 (of_z w64 z)) (pos 0) ≡ false → SFits w64 z → signed_decimal (to_z w64 (of_z w64 z)) ≡ int_digits z
int_is z low fits = ap signed_decimal (to_z-of_z fits) ∙ go z (ap (λ y. lt_z y (pos 0)) (sym (to_z-of_z fits)) ∙ low) fits
  where
    go : (z : ℤ) → lt_z z (pos 0) ≡ false → SFits w64 z → signed_decimal z ≡ int_digits z
    go (pos n) low fits = sym (digits_decimal n (omega (arith, ints)))
    go (negsuc n) low fits = absurd (cc)
