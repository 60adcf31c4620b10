-- The longest token at the front of a text.
use Rattle.std.proofs.Common.{◌≡◌, ℕ, suc, ◌+◌, ◌-◌, ◌*◌, ◌≤◌, ◌<◌, Bool, true, false, cond, List, [], ◌∷◌, ◌++◌, length, take, drop, get_or, refl, sym, subst, ap, ◌∙◌, arith, Option, Some, None, nat_eq, nat_le, nat_lt, take-append-drop}
use Rattle.std.proofs.lemmas.Bool.Decides.{nat_tests}
use Rattle.std.specs.List.{list_all, prefix_len, fold}
use Rattle.std.proofs.lemmas.List.Sums.{fold_more, fold-append}
use Rattle.bt_lexer.specs.declared.token.Kind.{Kind}
use Rattle.bt_lexer.specs.declared.token.Kind.TheVariants.{Name, Var, Int}
use Rattle.bt_lexer.specs.Bytes.{quote, begins, is_letter, is_digit, is_name_byte, is_blank, is_in_line}
use Rattle.bt_lexer.specs.Strings.{begins_tripled}
use Rattle.bt_lexer.specs.Kinds.{kind_of, is_name, marks, mark_in, same_text}
use Rattle.bt_lexer.specs.Tokens.{NoToken, IsGap, NoGap, blank, comment, int_value}
use Rattle.bt_lexer.specs.Fronts.{BeginsToken, FindsGap, pair_at}
use Rattle.bt_lexer.proofs.KindLemmas.{kind-letter, kind-digit, kind-dollar, kind-other, kind-empty, and_left, and_right, false_left, false_right, nat_eq_same}
use Rattle.bt_lexer.proofs.OneReading.{run_ends}
use Rattle.bt_lexer.proofs.SomeReading.{no_gap_here}

pub prefix_all : (p : ℕ → Bool) (s : List ℕ) → list_all p (take (prefix_len p s) s) ≡ true
prefix_all p [] = refl
prefix_all p (c ∷ v) = go (p c) refl (prefix_all p v)
  where
    go : (b : Bool) → p c ≡ b → list_all p (take (prefix_len p v) v) ≡ true → list_all p (take (cond b (1 + prefix_len p v) 0) (c ∷ v)) ≡ true
    go false h ih = refl
    go true h ih = let e : 1 + prefix_len p v ≡ suc (prefix_len p v) = omega arith in subst (λ n. list_all p (take n (c ∷ v)) ≡ true) (sym e) (rw h ih)

pub prefix_ends : (p : ℕ → Bool) (s : List ℕ) → begins p (drop (prefix_len p s) s) ≡ false
prefix_ends p [] = refl
prefix_ends p (c ∷ v) = go (p c) refl (prefix_ends p v)
  where
    go : (b : Bool) → p c ≡ b → begins p (drop (prefix_len p v) v) ≡ false → begins p (drop (cond b (1 + prefix_len p v) 0) (c ∷ v)) ≡ false
    go false h ih = h
    go true h ih = let e : 1 + prefix_len p v ≡ suc (prefix_len p v) = omega arith in subst (λ n. begins p (drop n (c ∷ v)) ≡ false) (sym e) ih

pub prefix_within : (p : ℕ → Bool) (s : List ℕ) → prefix_len p s ≤ length s
prefix_within p [] = omega arith
prefix_within p (c ∷ v) = go (p c) (prefix_within p v)
  where
    go : (b : Bool) → prefix_len p v ≤ length v → cond b (1 + prefix_len p v) 0 ≤ suc (length v)
    go false ih = omega arith
    go true ih = omega arith

prefix_more : (p : ℕ → Bool) (c : ℕ) (v : List ℕ) → p c ≡ true → prefix_len p (c ∷ v) ≡ suc (prefix_len p v)
prefix_more p c v h = let e : 1 + prefix_len p v ≡ suc (prefix_len p v) = omega arith in rw h e

-- after the longest run a longer one isn't all of the class
past_prefix : (p : ℕ → Bool) (v : List ℕ) (d : ℕ) (x w : List ℕ) → drop (prefix_len p v) v ≡ d ∷ (x ++ w) → list_all p (take (prefix_len p v) v ++ d ∷ x) ≡ false
past_prefix p v d x w e = run_ends p (take (prefix_len p v) v) d x (subst (λ y. begins p y ≡ false) e (prefix_ends p v))

no_three : (c : ℕ) (y : List ℕ) → nat_eq c quote ≡ false → begins_tripled (c ∷ y) ≡ false
no_three c [] h = refl
no_three c (d ∷ []) h = refl
no_three c (d ∷ e ∷ y) h = rw h refl

-- the clause on three quotation marks, where another byte begins
never_tripled : (c : ℕ) (y : List ℕ) → nat_eq c quote ≡ false → begins_tripled (c ∷ y) ≡ true → ⊥
never_tripled c y h t = let x : true ≡ false = sym t ∙ no_three c y h in cc

letter_no_quote : (c : ℕ) → is_letter c ≡ true → nat_eq c quote ≡ false
letter_no_quote c h = grind (arith, nat_tests)

digit_no_quote : (c : ℕ) → is_digit c ≡ true → nat_eq c quote ≡ false
digit_no_quote c h = grind (arith, nat_tests)

letter_name_byte : (c : ℕ) → is_letter c ≡ true → is_name_byte c ≡ true
letter_name_byte c h = rw h refl

name_at : (c : ℕ) (v : List ℕ) → is_letter c ≡ true → BeginsToken Name (suc (prefix_len is_name_byte v)) (c ∷ v)
name_at c v h = let n = prefix_len is_name_byte v in record {
  some = omega arith;
  within = (let l = prefix_within is_name_byte v in omega arith);
  is = record {
    has = kind-letter c (take n v) h ∙ (rw (prefix_all is_name_byte v) refl);
    longest = λ d x w e. kind-letter c (take n v ++ d ∷ x) h ∙ (rw (past_prefix is_name_byte v d x w e) refl);
    tripled = λ t. absurd (never_tripled c (take n v ++ drop n v) (letter_no_quote c h) t);
  };
}

pub name_token : (s : List ℕ) (n : ℕ) → 0 < length s → is_letter (get_or s 0 0) ≡ true → n ≡ prefix_len is_name_byte s → BeginsToken Name n s
name_token [] n some h e = absurd (omega arith)
name_token (c ∷ v) n some h e = subst (λ m. BeginsToken Name m (c ∷ v)) (sym (e ∙ prefix_more is_name_byte c v (letter_name_byte c h))) (name_at c v h)

number_at : (c : ℕ) (v : List ℕ) → is_digit c ≡ true → BeginsToken Int (suc (prefix_len is_digit v)) (c ∷ v)
number_at c v h = let n = prefix_len is_digit v in record {
  some = omega arith;
  within = (let l = prefix_within is_digit v in omega arith);
  is = record {
    has = kind-digit c (take n v) h ∙ (rw (prefix_all is_digit v) refl);
    longest = λ d x w e. kind-digit c (take n v ++ d ∷ x) h ∙ (rw (past_prefix is_digit v d x w e) refl);
    tripled = λ t. absurd (never_tripled c (take n v ++ drop n v) (digit_no_quote c h) t);
  };
}

pub number_token : (s : List ℕ) (n : ℕ) → 0 < length s → is_digit (get_or s 0 0) ≡ true → n ≡ prefix_len is_digit s → BeginsToken Int n s
number_token [] n some h e = absurd (omega arith)
number_token (c ∷ v) n some h e = subst (λ m. BeginsToken Int m (c ∷ v)) (sym (e ∙ prefix_more is_digit c v h)) (number_at c v h)

-- the name after a `$`
var_at : (c : ℕ) (v : List ℕ) → is_letter c ≡ true → BeginsToken Var (suc (suc (prefix_len is_name_byte v))) (36 ∷ c ∷ v)
var_at c v h = let n = prefix_len is_name_byte v in record {
  some = omega arith;
  within = (let l = prefix_within is_name_byte v in omega arith);
  is = record {
    has = kind-dollar (c ∷ take n v) ∙ (rw (h, prefix_all is_name_byte v) refl);
    longest = λ d x w e. kind-dollar (c ∷ take n v ++ d ∷ x) ∙ (rw (h, past_prefix is_name_byte v d x w e) refl);
    tripled = λ t. absurd (never_tripled 36 (c ∷ take n v ++ drop n v) refl t);
  };
}

abbrev is_dollar : ℕ → Bool
is_dollar c = nat_eq c 36

pub var_token : (s : List ℕ) (n : ℕ) → begins is_dollar s ≡ true → 2 ≤ length s → is_letter (get_or s 1 0) ≡ true → n ≡ 1 + prefix_len is_name_byte (drop 1 s) → BeginsToken Var n s
var_token [] n some l h e = absurd (omega arith)
var_token (a ∷ []) n some l h e = absurd (omega arith)
var_token (a ∷ c ∷ v) n some l h e =
    let is : a ≡ 36 = nat_eq_same a 36 some in
    let p = prefix_more is_name_byte c v (letter_name_byte c h) in
    let m : n ≡ suc (suc (prefix_len is_name_byte v)) = omega (arith, e, p) in
    subst (λ y. BeginsToken Var n (y ∷ c ∷ v)) (sym is) (subst (λ y. BeginsToken Var y (36 ∷ c ∷ v)) (sym m) (var_at c v h))

abbrev some_kind : Kind → Option Kind
some_kind k = Some k

if_name : (v : List ℕ) → is_name v ≡ false → kind_of (36 ∷ v) ≡ None
if_name v h = kind-dollar v ∙ (rw h refl)

-- no name follows the `$`
pub no_var : (s : List ℕ) → begins is_dollar s ≡ true → ((2 ≤ length s) → is_letter (get_or s 1 0) ≡ false) → NoToken s
no_var s h none k [] rest e w = let x : None ≡ some_kind k = sym kind-empty ∙ w.has in cc
no_var s h none k (a ∷ []) rest e w =
    let is : a ≡ 36 = nat_eq_same a 36 (subst (λ y. begins is_dollar y ≡ true) e h) in
    let x : None ≡ some_kind k = sym (ap (λ y. kind_of (y ∷ [])) is ∙ if_name [] refl) ∙ w.has in cc
no_var s h none k (a ∷ c ∷ u) rest e w =
    let is : a ≡ 36 = nat_eq_same a 36 (subst (λ y. begins is_dollar y ≡ true) e h) in
    let l : 2 ≤ length s = subst (λ y. 2 ≤ length y) (sym e) (omega arith) in
    let n : is_letter c ≡ false = subst (λ y. is_letter (get_or y 1 0) ≡ false) e (none l) in
    let x : None ≡ some_kind k = sym (ap (λ y. kind_of (y ∷ c ∷ u)) is ∙ if_name (c ∷ u) (false_left _ _ n)) ∙ w.has in cc

-- a mark has at most two bytes
too_long : (ms : List (List ℕ × Kind)) → list_all (λ m. nat_le (length m.0) 2) ms ≡ true → (a b c : ℕ) (v : List ℕ) → mark_in ms (a ∷ b ∷ c ∷ v) ≡ None
too_long [] h a b c v = refl
too_long (m ∷ ms) h a b c v = rw (differs m.0 (and_left _ _ h)) (too_long ms (and_right _ _ h) a b c v)
  where
    differs : (w : List ℕ) → nat_le (length w) 2 ≡ true → same_text (a ∷ b ∷ c ∷ v) w ≡ false
    differs [] h = refl
    differs (d ∷ []) h = false_right (nat_eq a d) false refl
    differs (d ∷ e ∷ []) h = false_right (nat_eq a d) _ (false_right (nat_eq b e) false refl)
    differs (d ∷ e ∷ f ∷ w) h = let x : length (d ∷ e ∷ f ∷ w) ≤ 2 = grind (arith, nat_tests) in absurd (omega arith)

-- what begins no name, number, variable or text
pub record IsOther (a : ℕ) : Type 0 where
  pub letter : is_letter a ≡ false
  pub digit : is_digit a ≡ false
  pub dollar : nat_eq a 36 ≡ false
  pub mark : nat_eq a quote ≡ false

other_kind : (a : ℕ) (v : List ℕ) → IsOther a → kind_of (a ∷ v) ≡ mark_in marks (a ∷ v)
other_kind a v o = kind-other a v o.letter o.digit o.dollar o.mark

pair_token : (a b : ℕ) (v : List ℕ) (k : Kind) → IsOther a → mark_in marks (a ∷ b ∷ []) ≡ Some k → BeginsToken k 2 (a ∷ b ∷ v)
pair_token a b v k o h = record {
  some = omega arith;
  within = omega arith;
  is = record {
    has = other_kind a (b ∷ []) o ∙ h;
    longest = λ d x w e. other_kind a (b ∷ d ∷ x) o ∙ too_long marks refl a b d x;
    tripled = λ t. absurd (never_tripled a (b ∷ v) o.mark t);
  };
}

one_token : (a : ℕ) (v : List ℕ) (k : Kind) → IsOther a → pair_at (a ∷ v) ≡ None → mark_in marks (a ∷ []) ≡ Some k → BeginsToken k 1 (a ∷ v)
one_token a v k o p h = record {
  some = omega arith;
  within = omega arith;
  is = record {
    has = other_kind a [] o ∙ h;
    longest = λ d x w e. other_kind a (d ∷ x) o ∙ longer d x w (subst (λ y. pair_at (a ∷ y) ≡ None) e p);
    tripled = λ t. absurd (never_tripled a v o.mark t);
  };
}
  where
    longer : (d : ℕ) (x w : List ℕ) → pair_at (a ∷ d ∷ (x ++ w)) ≡ None → mark_in marks (a ∷ d ∷ x) ≡ None
    longer d [] w p = p
    longer d (c ∷ x) w p = too_long marks refl a d c x

pub pair_found : (s : List ℕ) (k : Kind) → IsOther (get_or s 0 0) → pair_at s ≡ Some k → BeginsToken k 2 s
pair_found [] k o h = absurd (cc)
pair_found (a ∷ []) k o h = absurd (cc)
pair_found (a ∷ b ∷ v) k o h = pair_token a b v k o h

pub one_found : (s : List ℕ) (k : Kind) → 0 < length s → IsOther (get_or s 0 0) → pair_at s ≡ None → mark_in marks (get_or s 0 0 ∷ []) ≡ Some k → BeginsToken k 1 s
one_found [] k some o p h = absurd (omega arith)
one_found (a ∷ v) k some o p h = one_token a v k o p h

pub no_mark_found : (s : List ℕ) → 0 < length s → IsOther (get_or s 0 0) → pair_at s ≡ None → mark_in marks (get_or s 0 0 ∷ []) ≡ None → NoToken s
no_mark_found s some o p h k [] rest e w = let x : None ≡ some_kind k = sym kind-empty ∙ w.has in cc
no_mark_found s some o p h k (a ∷ u) rest e w =
    let o' : IsOther a = subst (λ y. IsOther (get_or y 0 0)) e o in
    let p' : pair_at (a ∷ (u ++ rest)) ≡ None = subst (λ y. pair_at y ≡ None) e p in
    let h' : mark_in marks (a ∷ []) ≡ None = subst (λ y. mark_in marks (get_or y 0 0 ∷ []) ≡ None) e h in
    let x : None ≡ some_kind k = sym (other_kind a u o' ∙ none u p' h') ∙ w.has in cc
  where
    none : (u : List ℕ) → pair_at (a ∷ (u ++ rest)) ≡ None → mark_in marks (a ∷ []) ≡ None → mark_in marks (a ∷ u) ≡ None
    none [] p h = h
    none (b ∷ []) p h = p
    none (b ∷ c ∷ u) p h = too_long marks refl a b c u

pub blank_found : (s : List ℕ) → 0 < length s → is_blank (get_or s 0 0) ≡ true → FindsGap s 1
blank_found [] n h = absurd (omega arith)
blank_found (c ∷ v) n h = (omega arith, blank c h)

pub comment_found : (s : List ℕ) → 0 < length s → get_or s 0 0 ≡ 35 → FindsGap s (suc (prefix_len is_in_line (drop 1 s)))
comment_found [] some h = absurd (omega arith)
comment_found (c ∷ v) some h = ((let l = prefix_within is_in_line v in omega arith), subst (λ x. IsGap (x ∷ take (prefix_len is_in_line v) v) (drop (prefix_len is_in_line v) v)) (sym h) (comment (prefix_all is_in_line v) (prefix_ends is_in_line v)))

not_hash : (c : ℕ) → (c ≡ 35 → ⊥) → nat_eq c 35 ≡ false
not_hash c h = grind (arith, nat_tests)

pub no_gap_found : (s : List ℕ) → 0 < length s → is_blank (get_or s 0 0) ≡ false → (get_or s 0 0 ≡ 35 → ⊥) → NoGap s
no_gap_found [] some b h = absurd (omega arith)
no_gap_found (c ∷ v) some b h = no_gap_here c v b (not_hash c h)

int_grows : (a : ℕ) (ys : List ℕ) → a ≤ fold (λ n c. 10 * n + (c - 48)) a ys
int_grows a [] = omega arith
int_grows a (c ∷ ys) = let h = int_grows (10 * a + (c - 48)) ys in omega arith

-- a run of digits is at least what a front of it is
int_front : (xs : List ℕ) (n : ℕ) → int_value (take n xs) ≤ int_value xs
int_front xs n =
    let e : int_value xs ≡ fold (λ n c. 10 * n + (c - 48)) (int_value (take n xs)) (drop n xs) = ap int_value (sym (take-append-drop n xs)) ∙ fold-append (λ n c. 10 * n + (c - 48)) 0 (take n xs) (drop n xs) in
    omega (arith, e, int_grows (int_value (take n xs)) (drop n xs))

pub int_more : (xs : List ℕ) (i : ℕ) → i < length xs → int_value (take (i + 1) xs) ≡ 10 * int_value (take i xs) + (get_or xs i 0 - 48)
int_more xs i h = fold_more (λ n c. 10 * n + (c - 48)) 0 xs i 0 h

is_above : (n m : ℕ) → n < m → true ≡ nat_lt n m
is_above n m h = grind (arith, nat_tests)

pub too_large : (xs : List ℕ) (i value limit : ℕ) → i < length xs → value ≡ int_value (take i xs) → limit < 10 * value + (get_or xs i 0 - 48) → true ≡ nat_lt limit (int_value xs)
too_large xs i value limit h e l = is_above limit (int_value xs) (omega (arith, int_more xs i h, e, l, int_front xs (i + 1)))

pub no_token_at_end : (s : List ℕ) → length s ≡ 0 → NoToken s
no_token_at_end s h k [] rest e w = let x : None ≡ some_kind k = sym kind-empty ∙ w.has in cc
no_token_at_end s h k (c ∷ u) rest e w = absurd (omega (arith, ap length e))

-- each step towards a number that isn't too large is within it
pub int_step : (xs : List ℕ) (i value limit : ℕ) → i < length xs → value ≡ int_value (take i xs) → int_value xs ≤ limit → value * 10 + (get_or xs i 0 - 48) ≤ limit
int_step xs i value limit h e l = omega (arith, int_more xs i h, e, l, int_front xs (i + 1))
