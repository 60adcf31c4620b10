-- Contents joined by line feeds, and documents one behind another.
use Rattle.std.proofs.Common.{◌≡◌, ℕ, zero, suc, ◌+◌, Option, Some, None, List, [], ◌∷◌, ◌++◌, length, get_or, take, drop, ◌-◌, map, Bool, true, false, ◌<◌, refl, sym, ◌∙◌, ap, append_assoc, arith}
use Rattle.std.specs.Prelude.{Result, Ok, Err}
use Rattle.std.specs.List.{join_with_byte, flat_map, slice_split}
use Rattle.std.specs.Prelude.{MatchOption, ◌==◌}
use Rattle.std.proofs.lemmas.Bool.{false_from_ne_true}
use Rattle.std.proofs.lemmas.Grind.{common_steps}
use Rattle.memchr.specs.Find.{IsFirstByte, is_byte}
use native.Mathlib.Numerals.{unary_clauses}
use Rattle.std.proofs.lemmas.List.{append-nil, map-append}
use Rattle.bt_value.specs.Plain.{has_bytes, some}
use Rattle.bt_batches.specs.declared.piece.Piece.{Piece}
use Rattle.bt_value.specs.declared.val.Val.{Val}
use Rattle.bt_batches.specs.Archives.{one_more, behind, contents, have_bytes}

-- a first piece with those behind it, each behind the byte
pub joined_is : (b : ℕ) (c : List ℕ) (cs : List (List ℕ)) → join_with_byte b (c ∷ cs) ≡ c ++ flat_map (λ d. b ∷ d) cs
joined_is b c [] = sym (append-nil c)
joined_is b c (d ∷ ds) = ap (λ e. c ++ (b ∷ e)) (joined_is b d ds)

-- the same of the messages of a batch
pub joined_first : (ps : List Piece) (d : Piece) → 0 < length ps → join_with_byte 10 (contents ps) ≡ (get_or ps 0 d).msg.content ++ flat_map (λ c. 10 ∷ c) (contents (drop 1 ps))
joined_first [] d l = absurd (omega arith)
joined_first (p ∷ ps) d l = joined_is 10 p.msg.content (contents ps)

-- all behind the first, as the code has them
pub behind_first : (ps : List Piece) → take (length ps - 1) (drop 1 ps) ≡ drop 1 ps
behind_first [] = grind (arith, common_steps)
behind_first (p ∷ ps) = grind (arith, common_steps)

plain_more_by : (b : Bool) (bs : List Bool) → some bs ≡ false → b ≡ false → some (bs ++ b ∷ []) ≡ false
plain_more_by b [] h e = rw e refl
plain_more_by b (true ∷ bs) h e = cc
plain_more_by b (false ∷ bs) h e = plain_more_by b bs h e

-- no bytes in one value more
pub plain_more : (xs : List Val) (x : Val) → have_bytes xs ≡ false → has_bytes x ≡ false → have_bytes (xs ++ x ∷ []) ≡ false
plain_more xs x h e = ap some (map-append has_bytes xs (x ∷ [])) ∙ plain_more_by (has_bytes x) (map has_bytes xs) h e

-- one document more
pub behind_more : (xs : List Val) (x : Val) (r : Result (List Val) (List ℕ)) → behind xs (one_more (Ok x) r) ≡ behind (xs ++ x ∷ []) r
behind_more xs x (Ok ys) = ap Ok (sym (append_assoc xs (x ∷ []) ys))
behind_more xs x (Err t) = refl

-- lines ----------------------------------------------------------------------

abbrev is_end : ℕ → Bool
is_end b = b == 10

split_at : (bs : List ℕ) (n : ℕ) → n < length bs → ((k : ℕ) → k < n → is_end (get_or bs k 0) ≡ false) → is_end (get_or bs n 0) ≡ true
    → slice_split (λ b. b == 10) bs ≡ take n bs ∷ slice_split (λ b. b == 10) (drop (n + 1) bs)
split_at [] n l none here = absurd (omega arith)
split_at (b ∷ bs) zero l none here = rw here refl
split_at (b ∷ bs) (suc n) l none here =
    let first : is_end b ≡ false = none 0 (omega arith) in
    let rest = split_at bs n (omega arith) (λ k m. none (suc k) (omega arith)) here in
    rw (first, rest) (simp unary_clauses)

split_none : (bs : List ℕ) → ((k : ℕ) → k < length bs → is_end (get_or bs k 0) ≡ false) → slice_split (λ b. b == 10) bs ≡ bs ∷ []
split_none [] none = refl
split_none (b ∷ bs) none =
    let first : is_end b ≡ false = none 0 (omega arith) in
    let rest = split_none bs (λ k m. none (suc k) (omega arith)) in
    rw (first, rest) refl

-- the first line feed ends the first piece
pub first_line : (bs : List ℕ) (r : Option ℕ) → IsFirstByte (is_byte 10) bs r → MatchOption r (slice_split (λ b. b == 10) bs ≡ bs ∷ []) (λ n. (n < length bs)
    × (slice_split (λ b. b == 10) bs ≡ take n bs ∷ slice_split (λ b. b == 10) (drop (n + 1) bs)))
first_line bs None h = split_none bs (λ k l. false_from_ne_true (is_end (get_or bs k 0)) (h k (omega arith) l))
first_line bs (Some n) h = (h.0.high, split_at bs n h.0.high (λ k l. false_from_ne_true (is_end (get_or bs k 0)) (h.0.before k (omega arith) l)) h.1)
