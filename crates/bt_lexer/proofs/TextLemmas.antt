-- A text's value while it is read from the left, and where its pieces may be cut.
use Rattle.std.proofs.Common.{◌≡◌, ℕ, suc, ◌+◌, ◌-◌, ◌≤◌, ◌<◌, Bool, true, false, ◌&&◌, ◌||◌, not, List, [], ◌∷◌, ◌++◌, length, take, drop, get_or, refl, sym, subst, ap, ◌∙◌, arith, Some, None, if◌then◌else◌, nat_eq, slice_range, append_assoc, append-nil, length-drop}
use Rattle.std.proofs.lemmas.Bool.Decides.{nat_tests}
use Rattle.std.specs.List.{list_all, prefix_len}
use Rattle.std.specs.Str.{IsUtf8, IsCharBoundary}
use Rattle.std.proofs.lemmas.List.{drop-drop, get_or-drop}
use Rattle.std.proofs.lemmas.Str.{IsCharBoundary-before_ascii, IsCharBoundary-after_ascii}
use Rattle.bt_lexer.specs.declared.token.Kind.{Kind}
use Rattle.bt_lexer.specs.declared.token.Kind.TheVariants.{Text}
use Rattle.bt_lexer.specs.Bytes.{quote, is_backslash, begins}
use Rattle.bt_lexer.specs.Strings.{Part, is_plain, part_at, len_of, is_closed, parts_value, is_quoted, begins_tripled, ends_tripled, is_tripled}
use Rattle.bt_lexer.specs.Kinds.{kind_of, is_name, is_var, is_number, is_text, marks, mark_in, same_text}
use Rattle.bt_lexer.proofs.KindLemmas.{and_left, and_right, false_left, nat_eq_same, kind-tripled}
use Rattle.bt_lexer.proofs.PartLemmas.{part_fits}
use Rattle.bt_lexer.proofs.FrontLemmas.{prefix_all, prefix_ends, prefix_within}
use Rattle.bt_lexer.proofs.PieceLemmas.{by_tests, kind-tests}
use Rattle.bt_lexer.proofs.ValueLemmas.{part_step, plain_run, run_stops, quoted_is, escape_ends}

-- the bytes from one place to the next stand for `value`, and the rest is closed
pub record Leads (s : List ℕ) (at next : ℕ) (value : List ℕ) : Type 0 where
  pub within : next ≤ length s
  pub cut : IsCharBoundary s next
  pub closed : is_closed (drop next s) 0 ≡ true
  pub same : parts_value (drop at s) 0 ≡ value ++ parts_value (drop next s) 0

at_place : (s : List ℕ) (i : ℕ) → get_or (drop i s) 0 0 ≡ get_or s i 0
at_place s i = let z : i + 0 ≡ i = omega arith in get_or-drop i s 0 0 ∙ ap (λ k. get_or s k 0) z

pub plain_stops : (s : List ℕ) (at n : ℕ) → n ≡ prefix_len is_plain (drop at s) → begins is_plain (drop (at + n) s) ≡ false
plain_stops s at n e = subst (λ y. begins is_plain y ≡ false) (ap (λ k. drop k (drop at s)) (sym e) ∙ drop-drop n at s) (prefix_ends is_plain (drop at s))

pub plain_leads : (s : List ℕ) (at n : ℕ) → at ≤ length s → is_closed (drop at s) 0 ≡ true → n ≡ prefix_len is_plain (drop at s) → Leads s at (at + n) (take n (drop at s))
plain_leads s at n le k e =
    let fits : n ≤ length (drop at s) = omega (arith, e, prefix_within is_plain (drop at s)) in
    let all : list_all is_plain (take n (drop at s)) ≡ true = subst (λ m. list_all is_plain (take m (drop at s)) ≡ true) (sym e) (prefix_all is_plain (drop at s)) in
    let run = plain_run n (drop at s) fits all k in
    let rest = drop-drop n at s in
    let closed : is_closed (drop (at + n) s) 0 ≡ true = subst (λ y. is_closed y 0 ≡ true) rest run.closed in
    let stops = run_stops (drop (at + n) s) closed (plain_stops s at n e) in
    let room : at + n < length s = omega (arith, stops.0, length-drop (at + n) s) in
    record {
      within = omega arith;
      cut = IsCharBoundary-before_ascii s (at + n) room (subst (λ x. x < 128) (at_place s (at + n)) stops.1);
      closed = closed;
      same = run.same ∙ ap (λ y. take n (drop at s) ++ parts_value y 0) rest;
    }

pub escape_leads : (s : List ℕ) (at : ℕ) (p : Part) → IsUtf8 s → at ≤ length s → is_closed (drop at s) 0 ≡ true → begins is_backslash (drop at s) ≡ true → part_at (drop at s) ≡ Some p → Leads s at (at + p.len) p.value
escape_leads s at p utf8 le k b h =
    let step = part_step (drop at s) p h k in
    let rest = drop-drop p.len at s in
    let low = escape_ends (drop at s) p b h in
    let two = low.long in
    let fits : at + p.len ≤ length s = omega (arith, part_fits (drop at s), ap len_of h, length-drop at s) in
    let i : at + (p.len - 1) ≡ at + p.len - 1 = omega arith in
    let back : at + p.len - 1 + 1 ≡ at + p.len = omega arith in
    let last : get_or s (at + p.len - 1) 0 < 128 = subst (λ x. x < 128) (get_or-drop at s (p.len - 1) 0 ∙ ap (λ k. get_or s k 0) i) low.last in
    record {
      within = fits;
      cut = subst (IsCharBoundary s) back (IsCharBoundary-after_ascii s (at + p.len - 1) utf8 (omega arith) last);
      closed = subst (λ y. is_closed y 0 ≡ true) rest step.closed;
      same = step.same ∙ ap (λ y. p.value ++ parts_value y 0) rest;
    }

pub escape_long : (s : List ℕ) (p : Part) → begins is_backslash s ≡ true → part_at s ≡ Some p → 0 < p.len
escape_long s p b h = let low = escape_ends s p b h in let two = low.long in omega arith

pub after_mark : (s : List ℕ) → IsUtf8 s → is_quoted s ≡ true → Leads s 1 1 []
after_mark s utf8 h =
    let q = quoted_is s h in
    let some = q.some in
    let place : 0 + 1 ≡ 1 = omega arith in
    record {
      within = some;
      cut = subst (IsCharBoundary s) place (IsCharBoundary-after_ascii s 0 utf8 (omega arith) q.mark);
      closed = q.closed;
      same = refl;
    }

abbrev is_text_kind : Kind → Bool
is_text_kind Text = true
is_text_kind _ = false

mark_is_no_text : (ms : List (List ℕ × Kind)) → list_all (λ m. not (is_text_kind m.1)) ms ≡ true → (u : List ℕ) → mark_in ms u ≡ Some Text → ⊥
mark_is_no_text [] all u h = cc
mark_is_no_text (m ∷ ms) all u h = go (same_text u m.0) h (λ h. mark_is_no_text ms (and_right _ _ all) u h)
  where
    some_same : (j k : Kind) → Some j ≡ Some k → j ≡ k
    some_same j k h = cc

    go : (b : Bool) → (if b then Some m.1 else mark_in ms u) ≡ Some Text → (mark_in ms u ≡ Some Text → ⊥) → ⊥
    go true h ih =
        let e : m.1 ≡ Text = some_same m.1 Text h in
        let x : not (is_text_kind Text) ≡ true = subst (λ k. not (is_text_kind k) ≡ true) e (and_left _ _ all) in cc
    go false h ih = ih h

-- what has the kind of a text has one of the two forms
pub kind_text : (u : List ℕ) → kind_of u ≡ Some Text → is_text u ≡ true
kind_text u h = go (is_name u) (is_var u) (is_number u) (is_text u) (sym (kind-tests u) ∙ h)
  where
    go : (n v i t : Bool) → by_tests n v i t (mark_in marks u) ≡ Some Text → t ≡ true
    go true v i t h = absurd (cc)
    go false true i t h = absurd (cc)
    go false false true t h = absurd (cc)
    go false false false true h = refl
    go false false false false h = absurd (mark_is_no_text marks refl u h)

or_false : (a b : Bool) → (a || b) ≡ true → b ≡ false → a ≡ true
or_false true b h k = refl
or_false false b h k = let x : true ≡ false = sym h ∙ k in absurd (cc)

pub text_quoted : (u : List ℕ) → kind_of u ≡ Some Text → begins_tripled u ≡ false → is_quoted u ≡ true
text_quoted u h t = or_false (is_quoted u) (is_tripled u) (kind_text u h) (false_left (begins_tripled u) (ends_tripled (drop 3 u)) t)

if_text : (b : Bool) → (if b then Some Text else None) ≡ Some Text → b ≡ true
if_text true h = refl
if_text false h = absurd (cc)

text_tripled : (u : List ℕ) → kind_of u ≡ Some Text → begins_tripled u ≡ true → ends_tripled (drop 3 u) ≡ true
text_tripled u h t = and_right (begins_tripled u) (ends_tripled (drop 3 u)) (if_text (is_tripled u) (sym (kind-tripled u t) ∙ h))

-- the last three bytes are marks
pub record Tail (v : List ℕ) : Type 0 where
  pub long : 3 ≤ length v
  pub low : get_or v (length v - 3) 0 < 128

tail_of : (v : List ℕ) → ends_tripled v ≡ true → Tail v
tail_of [] h = absurd (cc)
tail_of (c ∷ []) h = absurd (cc)
tail_of (c ∷ d ∷ []) h = absurd (cc)
tail_of (c ∷ d ∷ e ∷ v) h = go (begins_tripled (c ∷ d ∷ e ∷ v)) refl h (λ h. tail_of (d ∷ e ∷ v) h)
  where
    here : (v : List ℕ) → begins_tripled (c ∷ d ∷ e ∷ v) ≡ true → nat_eq (length (d ∷ e ∷ v)) 2 ≡ true → Tail (c ∷ d ∷ e ∷ v)
    here [] t h = let q = nat_eq_same c quote (and_left (nat_eq c quote) (nat_eq d quote) (and_left (nat_eq c quote && nat_eq d quote) (nat_eq e quote) t)) in record { long = omega arith; low = omega arith }
    here (f ∷ v) t h = let x : length (d ∷ e ∷ f ∷ v) ≡ 2 = grind (arith, nat_tests) in absurd (omega arith)

    later : Tail (d ∷ e ∷ v) → Tail (c ∷ d ∷ e ∷ v)
    later x =
        let l = x.long in
        let i : length (c ∷ d ∷ e ∷ v) - 3 ≡ suc (length (d ∷ e ∷ v) - 3) = omega arith in
        record { long = omega arith; low = subst (λ k. get_or (c ∷ d ∷ e ∷ v) k 0 < 128) (sym i) x.low }

    go : (b : Bool) → begins_tripled (c ∷ d ∷ e ∷ v) ≡ b → (if b then nat_eq (length (d ∷ e ∷ v)) 2 else ends_tripled (d ∷ e ∷ v)) ≡ true → (ends_tripled (d ∷ e ∷ v) ≡ true → Tail (d ∷ e ∷ v)) → Tail (c ∷ d ∷ e ∷ v)
    go true t h ih = here v t h
    go false t h ih = later (ih h)

third_low : (u : List ℕ) → begins_tripled u ≡ true → get_or u 2 0 < 128
third_low [] t = absurd (cc)
third_low (a ∷ []) t = absurd (cc)
third_low (a ∷ b ∷ []) t = absurd (cc)
third_low (a ∷ b ∷ c ∷ u) t = let q = nat_eq_same c quote (and_right (nat_eq a quote && nat_eq b quote) (nat_eq c quote) t) in omega arith

-- where a text of the second form may be cut
pub record Inner (u : List ℕ) : Type 0 where
  pub long : 6 ≤ length u
  pub start : IsCharBoundary u 3
  pub end : IsCharBoundary u (length u - 3)

pub inner_of : (u : List ℕ) → IsUtf8 u → kind_of u ≡ Some Text → begins_tripled u ≡ true → Inner u
inner_of u utf8 h t =
    let tail = tail_of (drop 3 u) (text_tripled u h t) in
    let l = tail.long in
    let d = length-drop 3 u in
    let three : 2 + 1 ≡ 3 = omega arith in
    let i : 3 + (length (drop 3 u) - 3) ≡ length u - 3 = omega arith in
    record {
      long = omega arith;
      start = subst (IsCharBoundary u) three (IsCharBoundary-after_ascii u 2 utf8 (omega arith) (third_low u t));
      end = IsCharBoundary-before_ascii u (length u - 3) (omega arith) (subst (λ x. x < 128) (get_or-drop 3 u (length (drop 3 u) - 3) 0 ∙ ap (λ k. get_or u k 0) i) tail.low);
    }

-- a value so far, and a piece more
pub joined : (value run rest next all new : List ℕ) → value ++ rest ≡ all → rest ≡ run ++ next → new ≡ value ++ run → new ++ next ≡ all
joined value run rest next all new h k n = ap (λ y. y ++ next) n ∙ append_assoc value run next ∙ ap (λ y. value ++ y) (sym k) ∙ h

pub run_text : (s piece run : List ℕ) (at n : ℕ) → s ≡ piece → run ≡ slice_range piece at (at + n) → run ≡ take n (drop at s)
run_text s piece run at n e h = let k : (at + n) - at ≡ n = omega arith in h ∙ ap (λ y. slice_range y at (at + n)) (sym e) ∙ ap (λ m. take m (drop at s)) k

pub done : (new rest all : List ℕ) → new ++ rest ≡ all → rest ≡ [] → new ≡ all
done new rest all h e = sym (append-nil new) ∙ ap (λ y. new ++ y) (sym e) ∙ h
