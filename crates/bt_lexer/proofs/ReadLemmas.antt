-- One step of reading a text.
use Rattle.std.proofs.Common.{◌≡◌, ℕ, zero, suc, ◌+◌, ◌≤◌, ◌<◌, Bool, true, false, List, [], ◌∷◌, length, take, drop, refl, sym, subst, ap, arith, Result, Ok, Err, nat_eq, take-append-drop, length-drop}
use Rattle.std.proofs.lemmas.List.{length-take-le, drop-drop, drop_all, append-nil}
use Rattle.bt_lexer.specs.declared.token.Kind.{Kind}
use Rattle.bt_lexer.specs.declared.token.Token.{Token}
use Rattle.bt_lexer.specs.declared.token.LexFault.{LexFault}
use Rattle.bt_lexer.specs.declared.token.LexFault.TheVariants.{Char, Text, Number}
use Rattle.bt_lexer.specs.declared.lines.Behind.{Behind}
use Rattle.bt_lexer.specs.declared.lines.Behind.TheVariants as behinds
use Rattle.bt_lexer.specs.Bytes.{quote, is_quote, begins}
use Rattle.bt_lexer.specs.Tokens.{NoToken, NoGap, is_dot, is_bad, before, Reads, at_end, gap, token, bad_number, bad_text, bad_char}
use Rattle.bt_lexer.specs.Fronts.{BeginsToken, FindsGap}
use Rattle.bt_lexer.specs.Lines.{HasTokens}
use Rattle.bt_lexer.specs.Collected.{completed}
use Rattle.bt_lexer.proofs.KindLemmas.{nat_eq_same}

pub text_fault : (s : List ℕ) (at : ℕ) (dot : Bool) → begins is_quote s ≡ true → NoToken s → Reads at dot s (Err (Text at))
text_fault [] at dot h none = absurd (cc)
text_fault (c ∷ v) at dot h none = bad_text v (ap (λ y. y ∷ v) (nat_eq_same c quote h)) none

pub char_fault : (s : List ℕ) (at : ℕ) (dot : Bool) → 0 < length s → begins is_quote s ≡ false → NoToken s → NoGap s → Reads at dot s (Err (Char at))
char_fault [] at dot some h none no_gap = absurd (omega arith)
char_fault (c ∷ v) at dot some h none no_gap = bad_char c v refl none no_gap (λ e. let x : nat_eq quote quote ≡ false = subst (λ y. nat_eq y quote ≡ false) e h in cc)

module _ (s : List ℕ) (at : ℕ) (dot : Bool) where
  pub number_fault : (k : Kind) (n : ℕ) → BeginsToken k n (drop at s) → is_bad k dot (take n (drop at s)) (drop n (drop at s)) ≡ true → Reads at dot (drop at s) (Err (Number at))
  number_fault k n w bad = bad_number k (take n (drop at s)) (drop n (drop at s)) (sym (take-append-drop n (drop at s))) w.is bad

  pub token_then : (k : Kind) (n : ℕ) → BeginsToken k n (drop at s) → is_bad k dot (take n (drop at s)) (drop n (drop at s)) ≡ false → (r : Result (List Token) LexFault) →
      Reads (at + n) (is_dot k) (drop (at + n) s) r → Reads at dot (drop at s) (before (record { kind = k; from = at; to = at + n }) r)
  token_then k n w good r more =
      let len = length-take-le n (drop at s) w.within in
      let rest = drop-drop n at s in
      subst (λ m. Reads at dot (drop at s) (before (record { kind = k; from = at; to = at + m }) r)) len
      (token k (take n (drop at s)) (drop n (drop at s)) (sym (take-append-drop n (drop at s))) w.is good
      (subst (λ m. Reads (at + m) (is_dot k) (drop n (drop at s)) r) (sym len) (subst (λ y. Reads (at + n) (is_dot k) y r) (sym rest) more)))

  pub gap_then : (n : ℕ) → FindsGap (drop at s) n → 0 < n → (r : Result (List Token) LexFault) → Reads (at + n) false (drop (at + n) s) r → Reads at dot (drop at s) r
  gap_then zero g some r more = absurd (omega arith)
  gap_then (suc n) (le, g) some r more =
      let len = length-take-le (suc n) (drop at s) le in
      let rest = drop-drop (suc n) at s in
      gap (take (suc n) (drop at s)) (drop (suc n) (drop at s)) (sym (take-append-drop (suc n) (drop at s))) g
      (subst (λ m. Reads (at + m) false (drop (suc n) (drop at s)) r) (sym len) (subst (λ y. Reads (at + suc n) false y r) (sym rest) more))

  pub gap_within : (n : ℕ) → FindsGap (drop at s) n → at ≤ length s → at + n ≤ length s
  gap_within zero g le = omega arith
  gap_within (suc n) (g, h) le = omega (arith, g, length-drop at s)

completed_end : (s : List ℕ) (found : List Token) (behind : Behind) → completed s found behind [] ≡ found
completed_end s found behinds.Nothing = append-nil found
completed_end s found (behinds.Read k) = append-nil found
completed_end s found (behinds.Pending line) = append-nil found

pub end_reached : (s : List ℕ) (at : ℕ) (dot : Bool) (found : List Token) (behind : Behind) → length s ≤ at →
    ((us : List Token) → Reads at dot (drop at s) (Ok us) → HasTokens s (completed s found behind us)) → HasTokens s found
end_reached s at dot found behind le good =
    let end : Reads at dot (drop at s) (Ok []) = subst (λ y. Reads at dot y (Ok [])) (sym (drop_all at s le)) at_end in
    subst (HasTokens s) (completed_end s found behind) (good [] end)
