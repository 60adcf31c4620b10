-- How the lines to come change as bytes are cut off at their front.
use Rattle.std.proofs.Common.{◌≡◌, ℕ, zero, suc, ◌+◌, ◌-◌, ◌<◌, ◌≤◌, min, Bool, true, false, not, ◌&&◌, leb, eqb, ltb, if◌then◌else◌, List, [], ◌∷◌, ◌++◌, length, take, drop, Option, Some, None, slice_get, refl, sym, ap, ◌∙◌, arith, append_assoc, append-nil, length-append, zero-add, inl, inr}
use Rattle.std.proofs.lemmas.List.{length-take, length-drop, drop-drop, drop_all, take_all}
use Rattle.std.proofs.lemmas.Bool.{cases_Bool, leb-true, leb-false, le-leb, lt-leb, ne_eqb, and_left, and_right, lt-ltb, le-ltb}
use Rattle.std.proofs.Math.Seq.{take-append-add, take-append_seam}
use Rattle.bt_ports.specs.declared.parts.Item.{Item}
use Rattle.bt_ports.specs.Intake.{input_end, bound_met, line_too_long}
use Rattle.bt_cut.proofs.Pieces.{chosen, other}
use Rattle.bt_lines.specs.Pieces.{pieces, NoneBefore, NoneIn, FirstAt}
use Rattle.bt_lines.specs.Lines.{SourceBytes, Line, byte_count, within, reaches, lines_among, lines_of, lines, is_long, item, item_of, items, first_long, stop}
use Rattle.bt_lines.specs.Follows.{Follows, source}
use Rattle.bt_lines.specs.declared.TheConstants.{LONGEST}
use Rattle.bt_lines.proofs.Pieces.{pieces-first, pieces-none, one_piece, pieces-long}

zero-sub : (n : ℕ) → 0 - n ≡ 0
zero-sub n = omega arith

take-nil : (n : ℕ) → take {A = ℕ} n [] ≡ []
take-nil zero = refl
take-nil (suc n) = refl

pub leb-add : (a c d : ℕ) → leb (a + c) (a + d) ≡ leb c d
leb-add a c d =
    elim (cases_Bool (leb c d)) [
      | inl e ↦ let h : c ≤ d = leb-true c d e in le-leb (a + c) (a + d) (omega arith) ∙ sym e
      | inr e ↦ let h : d < c = leb-false c d e in lt-leb (a + c) (a + d) (omega arith) ∙ sym e
    ]

-- a line of a source, whole or not
abbrev pub line : Option (List ℕ) → List ℕ → Bool → Line
line p bytes whole = record { path = p; bytes = bytes; whole = whole }

-- a piece before others is a whole line
pub lines_among-cons : (p : Option (List ℕ)) (cut_off : Bool) (piece : List ℕ) (later : List (List ℕ)) → 1 ≤ length later → lines_among p cut_off (piece ∷ later) ≡ line p piece true ∷ lines_among p cut_off later
lines_among-cons p cut_off piece [] h = absurd (omega (arith, h))
lines_among-cons p cut_off piece (next ∷ later) h = refl

module _ (d : List ℕ) where
  pub same_lines : (b c : Bool) (xs ys : List SourceBytes) → b ≡ c → xs ≡ ys → lines_of d b xs ≡ lines_of d c ys
  same_lines b c xs ys e f = cc

  -- within no bytes there is no line
  pub lines-within_zero : (b : Bool) (ss : List SourceBytes) → lines_of d b (within 0 ss) ≡ []
  lines-within_zero b [] = refl
  lines-within_zero b (s ∷ ss) = rw (zero-sub (length s.bytes)) (lines-within_zero b ss)

pub count-within_zero : (ss : List SourceBytes) → byte_count (within 0 ss) ≡ 0
count-within_zero [] = refl
count-within_zero (s ∷ ss) = rw (zero-sub (length s.bytes)) (rw (count-within_zero ss) refl)

-- as many bytes as there are, and no more than the bound
pub count-within : (c : ℕ) (ss : List SourceBytes) → byte_count (within c ss) ≡ min c (byte_count ss)
count-within c [] = omega arith
count-within c (s ∷ ss) = omega (arith, length-take c s.bytes, count-within (c - length s.bytes) ss)

-- a source isn't cut off where room is left behind it: bytes follow it there, or the bound isn't reached
not_cut_off : (c : ℕ) (ss : List SourceBytes) → 1 ≤ c → (reaches c ss && eqb (byte_count (within c ss)) 0) ≡ false
not_cut_off c ss room =
    elim (cases_Bool (reaches c ss)) [
      | inl e ↦ let h : c ≤ byte_count ss = leb-true c (byte_count ss) e in
          and_right _ _ (ne_eqb _ _ (λ (q : byte_count (within c ss) ≡ 0). omega (arith, count-within c ss)))
      | inr e ↦ and_left _ _ e
    ]

reaches-front : (c : ℕ) (p : Option (List ℕ)) (front tail : List ℕ) (ss : List SourceBytes) → reaches (length front + c) (source p (front ++ tail) ∷ ss) ≡ reaches c (source p tail ∷ ss)
reaches-front c p front tail ss =
    let e : length (front ++ tail) + byte_count ss ≡ length front + (length tail + byte_count ss) = omega (arith, length-append front tail) in
    ap (leb (length front + c)) e ∙ leb-add (length front) c (length tail + byte_count ss)

within-front : (c : ℕ) (p : Option (List ℕ)) (front tail : List ℕ) (ss : List SourceBytes) → within (length front + c) (source p (front ++ tail) ∷ ss) ≡ source p (front ++ take c tail) ∷ within (c - length tail) ss
within-front c p front tail ss =
    let e : take (length front + c) (front ++ tail) ≡ front ++ take c tail = take-append-add front tail c in
    let f : (length front + c) - length (front ++ tail) ≡ c - length tail = omega (arith, length-append front tail) in
    ap (λ b. source p b ∷ within ((length front + c) - length (front ++ tail)) ss) e ∙ ap (λ k. source p (front ++ take c tail) ∷ within k ss) f

module _ (d : List ℕ) (some : 1 ≤ length d) where
  -- a line with its delimiter at the front
  pub lines-front : (c : ℕ) (p : Option (List ℕ)) (front tail : List ℕ) (n : ℕ) (ss : List SourceBytes) → FirstAt d front n → length front ≡ n + length d → lines d (length front + c) (source p (front ++ tail) ∷ ss) ≡ line p (take n front) true ∷ lines d c (source p tail ∷ ss)
  lines-front c p front tail n ss first size =
      let r : Bool = reaches c (source p tail ∷ ss) in
      let cut : Bool = r && eqb (byte_count (within (c - length tail) ss)) 0 in
      let none : drop (n + length d) front ≡ [] = drop_all (n + length d) front (omega (arith, size)) in
      let cut_so : pieces d (front ++ take c tail) ≡ take n front ∷ pieces d (take c tail) =
      pieces-first d front (take c tail) n some first ∙ ap (λ b. take n front ∷ pieces d (b ++ take c tail)) none in
      same_lines d _ _ _ _ (reaches-front c p front tail ss) (within-front c p front tail ss)
      ∙ ap (λ ps. lines_among p cut ps ++ lines_of d r (within (c - length tail) ss)) cut_so
      ∙ ap (λ ls. ls ++ lines_of d r (within (c - length tail) ss)) (lines_among-cons p cut (take n front) (pieces d (take c tail)) (one_piece d 0 (take c tail)))

  pub lines-zero : (ss : List SourceBytes) → lines d 0 ss ≡ []
  lines-zero ss = lines-within_zero d (reaches 0 ss) ss

  -- a source without bytes has no line
  pub lines-skip : (c : ℕ) (p : Option (List ℕ)) (ss : List SourceBytes) → lines d c (source p [] ∷ ss) ≡ lines d c ss
  lines-skip c p ss =
      let e : reaches c (source p [] ∷ ss) ≡ reaches c ss = ap (leb c) (zero-add (byte_count ss)) in
      let f : c - 0 ≡ c = omega arith in
      let w : within c (source p [] ∷ ss) ≡ source p [] ∷ within c ss = rw f (rw (take-nil c) refl) in
      same_lines d _ _ _ _ e w

  -- the piece that the bound cuts off
  abbrev pub cut_piece : Option (List ℕ) → List ℕ → List Line
  cut_piece p piece = if eqb (length piece) 0 then [] else line p piece false ∷ []

  -- bytes without a delimiter, with as many bytes as the bound, are cut off
  pub lines-none : (p : Option (List ℕ)) (piece more : List ℕ) (ss : List SourceBytes) → NoneIn d piece → lines d (length piece + 0) (source p (piece ++ more) ∷ ss) ≡ cut_piece p piece
  lines-none p piece more ss h =
      let e : reaches (length piece + 0) (source p (piece ++ more) ∷ ss) ≡ true = le-leb _ _ (omega (arith, length-append piece more)) in
      let f : length piece + 0 ≡ length piece = omega arith in
      let t : take (length piece + 0) (piece ++ more) ≡ piece = rw f (take-append_seam piece more) in
      let z : (length piece + 0) - length (piece ++ more) ≡ 0 = omega (arith, length-append piece more) in
      let w : within (length piece + 0) (source p (piece ++ more) ∷ ss) ≡ source p piece ∷ within 0 ss = rw t (rw z refl) in
      let k : (true && eqb (byte_count (within 0 ss)) 0) ≡ true = rw (count-within_zero ss) refl in
      same_lines d _ _ _ _ e w
      ∙ ap (λ ps. lines_among p (true && eqb (byte_count (within 0 ss)) 0) ps ++ lines_of d true (within 0 ss)) (pieces-none d piece h)
      ∙ ap (λ b. lines_among p b (piece ∷ []) ++ lines_of d true (within 0 ss)) k
      ∙ ap (λ ls. lines_among p true (piece ∷ []) ++ ls) (lines-within_zero d true ss) ∙ append-nil _

  -- a last piece is a whole line where bytes may still follow
  pub lines-last : (c : ℕ) (p : Option (List ℕ)) (piece : List ℕ) (ss : List SourceBytes) → NoneIn d piece → 1 ≤ length piece → 1 ≤ c → lines d (length piece + c) (source p piece ∷ ss) ≡ line p piece true ∷ lines d c ss
  lines-last c p piece ss h more room =
      let e : reaches (length piece + c) (source p piece ∷ ss) ≡ reaches c ss = leb-add (length piece) c (byte_count ss) in
      let t : take (length piece + c) piece ≡ piece = take_all (length piece + c) piece (omega arith) in
      let z : (length piece + c) - length piece ≡ c = omega arith in
      let w : within (length piece + c) (source p piece ∷ ss) ≡ source p piece ∷ within c ss = rw t (rw z refl) in
      let k : (reaches c ss && eqb (byte_count (within c ss)) 0) ≡ false = not_cut_off c ss room in
      let n : eqb (length piece) 0 ≡ false = ne_eqb _ _ (λ (q : length piece ≡ 0). omega (arith, more, q)) in
      same_lines d _ _ _ _ e w
      ∙ ap (λ ps. lines_among p (reaches c ss && eqb (byte_count (within c ss)) 0) ps ++ lines_of d (reaches c ss) (within c ss)) (pieces-none d piece h)
      ∙ ap (λ b. lines_among p b (piece ∷ []) ++ lines_of d (reaches c ss) (within c ss)) k
      ∙ ap (λ ls. ls ++ lines_of d (reaches c ss) (within c ss)) (other _ _ _ n)

  -- what a line gives
  short : (l : Line) → length l.bytes ≤ LONGEST → is_long l ≡ false
  short l h = le-ltb LONGEST (length l.bytes) h

  long : (l : Line) → LONGEST < length l.bytes → is_long l ≡ true
  long l h = lt-ltb LONGEST (length l.bytes) h

  pub items-short : (l : Line) (ls : List Line) → length l.bytes ≤ LONGEST → items d (l ∷ ls) ≡ item_of d l ++ items d ls
  items-short l ls h = other _ _ _ (short l h)

  pub first-short : (n : ℕ) (l : Line) (ls : List Line) → length l.bytes ≤ LONGEST → first_long n (l ∷ ls) ≡ first_long (suc n) ls
  first-short n l ls h = other _ _ _ (short l h)

  pub items-long : (l : Line) (ls : List Line) → LONGEST < length l.bytes → items d (l ∷ ls) ≡ []
  items-long l ls h = chosen _ _ _ (long l h)

  pub first-long : (n : ℕ) (l : Line) (ls : List Line) → LONGEST < length l.bytes → first_long n (l ∷ ls) ≡ Some n
  first-long n l ls h = chosen _ _ _ (long l h)

  -- a piece that is cut off gives no item, and is long where it has more bytes
  pub items-cut_piece : (p : Option (List ℕ)) (piece : List ℕ) → items d (cut_piece p piece) ≡ []
  items-cut_piece p piece =
      elim (cases_Bool (eqb (length piece) 0)) [
        | inl e ↦ ap (items d) (chosen _ _ _ e)
        | inr e ↦ ap (items d) (other _ _ _ e) ∙ elim (cases_Bool (is_long (line p piece false))) [ inl k ↦ chosen _ _ _ k | inr k ↦ other _ _ _ k ]
      ]

  pub first-cut_piece : (n : ℕ) (p : Option (List ℕ)) (piece : List ℕ) → length piece ≤ LONGEST → first_long n (cut_piece p piece) ≡ None
  first-cut_piece n p piece h =
      elim (cases_Bool (eqb (length piece) 0)) [
        | inl e ↦ ap (first_long n) (chosen _ _ _ e)
        | inr e ↦ ap (first_long n) (other _ _ _ e) ∙ first-short n (line p piece false) [] h
      ]

  pub cut_piece-some : (p : Option (List ℕ)) (piece : List ℕ) → 1 ≤ length piece → cut_piece p piece ≡ line p piece false ∷ []
  cut_piece-some p piece h = other _ _ _ (ne_eqb _ _ (λ (z : length piece ≡ 0). omega (arith, h, z)))

  pub first-cut_long : (n : ℕ) (p : Option (List ℕ)) (piece : List ℕ) → LONGEST < length piece → first_long n (cut_piece p piece) ≡ Some n
  first-cut_long n p piece h = ap (first_long n) (cut_piece-some p piece (omega (arith, h))) ∙ first-long n (line p piece false) [] h

  -- following ----------------------------------------------------------------------------------------------------------------------

  -- nothing was taken and nothing cut
  pub follows-start : (all : List SourceBytes) → Follows d all 0 0 [] all
  follows-start all = record { lines_come = λ room. refl; to_come = λ room. refl; long_comes = λ room. refl; totals = omega arith }

  -- bytes were taken: those that are still to be cut stay
  pub follows-read : (all : List SourceBytes) (given taken n : ℕ) (uncut more : List ℕ) (rest : List SourceBytes) → length more ≡ n → Follows d all given taken uncut rest → Follows d all given (taken + n) (uncut ++ more) rest
  follows-read all given taken n uncut more rest e f =
      record {
        lines_come = λ room.
            let a : (taken + n) + room ≡ taken + (n + room) = omega arith in
            let b : length (uncut ++ more) + room ≡ length uncut + (n + room) = omega (arith, length-append uncut more) in
            rw a (rw b (f.lines_come (n + room)));
        to_come = λ room.
            let a : (taken + n) + room ≡ taken + (n + room) = omega arith in
            let b : length (uncut ++ more) + room ≡ length uncut + (n + room) = omega (arith, length-append uncut more) in
            rw a (rw b (f.to_come (n + room)));
        long_comes = λ room.
            let a : (taken + n) + room ≡ taken + (n + room) = omega arith in
            let b : length (uncut ++ more) + room ≡ length uncut + (n + room) = omega (arith, length-append uncut more) in
            rw a (rw b (f.long_comes (n + room)));
        totals = omega (arith, length-append uncut more, f.totals);
      }

  drop-one : {A : Type 0} (n : ℕ) (xs : List A) → drop (n + 1) xs ≡ drop 1 (drop n xs)
  drop-one n xs = sym (drop-drop 1 n xs)

  same_cut : (b c : ℕ) (ss ts : List SourceBytes) → b ≡ c → ss ≡ ts → lines d b ss ≡ lines d c ts
  same_cut b c ss ts e f = ap (λ x. lines d x ss) e ∙ ap (lines d c) f

  module _ (all : List SourceBytes) (given taken : ℕ) (p : Option (List ℕ)) (ss : List SourceBytes) where
    -- a line with its delimiter stands at the front of what isn't cut
    module _ (front tail more : List ℕ) (n : ℕ) (first : FirstAt d front n) (size : length front ≡ n + length d) (f : Follows d all given taken (front ++ tail) (source p ((front ++ tail) ++ more) ∷ ss)) where
      front_comes : (room : ℕ) → lines d (length (front ++ tail) + room) (source p ((front ++ tail) ++ more) ∷ ss) ≡ line p (take n front) true ∷ lines d (length tail + room) (source p (tail ++ more) ∷ ss)
      front_comes room =
          let b : length (front ++ tail) + room ≡ length front + (length tail + room) = omega (arith, length-append front tail) in
          same_cut _ _ (source p ((front ++ tail) ++ more) ∷ ss) (source p (front ++ (tail ++ more)) ∷ ss) b (ap (λ bytes. source p bytes ∷ ss) (append_assoc front tail more))
          ∙ lines-front (length tail + room) p front (tail ++ more) n ss first size

      size_of_line : length (take n front) ≡ n
      size_of_line = omega (arith, length-take n front, size)

      module _ (fits : n ≤ LONGEST) where
        items_come : (room : ℕ) → drop given (items d (lines d (taken + room) all)) ≡ item d p (take n front) ∷ items d (lines d (length tail + room) (source p (tail ++ more) ∷ ss))
        items_come room = f.to_come room ∙ ap (items d) (front_comes room) ∙ items-short (line p (take n front) true) (lines d (length tail + room) (source p (tail ++ more) ∷ ss)) (omega (arith, size_of_line, fits))

        -- it was cut off
        pub follows-line : Follows d all (given + 1) taken tail (source p (tail ++ more) ∷ ss)
        follows-line = record {
          lines_come = λ room. drop-one given (lines d (taken + room) all) ∙ ap (drop 1) (f.lines_come room ∙ front_comes room);
          to_come = λ room. drop-one given (items d (lines d (taken + room) all)) ∙ ap (drop 1) (items_come room);
          long_comes = λ room.
              let e : suc (given + 1) ≡ (given + 1) + 1 = omega arith in
              f.long_comes room ∙ ap (first_long (given + 1)) (front_comes room) ∙ first-short (given + 1) (line p (take n front) true) (lines d (length tail + room) (source p (tail ++ more) ∷ ss)) (omega (arith, size_of_line, fits))
              ∙ ap (λ k. first_long k (lines d (length tail + room) (source p (tail ++ more) ∷ ss))) e;
          totals = omega (arith, length-append front tail, length-append (front ++ tail) more, length-append tail more, f.totals);
        }

        -- it is the next item
        pub next-line : (bound : ℕ) → taken ≤ bound → (later : List Item) × (drop given (items d (lines d bound all)) ≡ item d p (take n front) ∷ later)
        next-line bound w =
            let room : ℕ = bound - taken in
            let t : taken + room ≡ bound = omega (arith, w) in
            (items d (lines d (length tail + room) (source p (tail ++ more) ∷ ss)), ap (λ b. drop given (items d (lines d b all))) (sym t) ∙ items_come room)

      -- it is long: no item comes, and it is the first long line
      pub long-line : LONGEST < n → (bound : ℕ) → taken ≤ bound → (drop given (items d (lines d bound all)) ≡ []) × (first_long 1 (lines d bound all) ≡ Some (given + 1))
      long-line h bound w =
          let room : ℕ = bound - taken in
          let t : taken + room ≡ bound = omega (arith, w) in
          let l : LONGEST < length (take n front) = omega (arith, size_of_line, h) in (
            ap (λ b. drop given (items d (lines d b all))) (sym t) ∙ f.to_come room ∙ ap (items d) (front_comes room) ∙ items-long (line p (take n front) true) (lines d (length tail + room) (source p (tail ++ more) ∷ ss)) l,
            ap (λ b. first_long 1 (lines d b all)) (sym t) ∙ f.long_comes room ∙ ap (first_long (given + 1)) (front_comes room) ∙ first-long (given + 1) (line p (take n front) true) (lines d (length tail + room) (source p (tail ++ more) ∷ ss)) l,
          )

    -- a source that has no bytes left was passed
    pub follows-skip : Follows d all given taken [] (source p [] ∷ ss) → Follows d all given taken [] ss
    follows-skip f = record {
      lines_come = λ room. f.lines_come room ∙ lines-skip (0 + room) p ss;
      to_come = λ room. f.to_come room ∙ ap (items d) (lines-skip (0 + room) p ss);
      long_comes = λ room. f.long_comes room ∙ ap (first_long (given + 1)) (lines-skip (0 + room) p ss);
      totals = omega (arith, f.totals);
    }

    -- a last piece that isn't long
    module _ (piece : List ℕ) (none : NoneIn d piece) (more : 1 ≤ length piece) (fits : length piece ≤ LONGEST) (f : Follows d all given taken piece (source p piece ∷ ss)) where
      -- behind it the items go on with the later sources, for every room
      last_comes : (room : ℕ) → drop 1 (items d (lines d (length piece + room) (source p piece ∷ ss))) ≡ items d (lines d (0 + room) ss)
      last_comes zero =
          let e : lines d (length piece + 0) (source p piece ∷ ss) ≡ cut_piece p piece =
          ap (λ b. lines d (length piece + 0) (source p b ∷ ss)) (sym (append-nil piece)) ∙ lines-none p piece [] ss none in
          ap (λ ls. drop 1 (items d ls)) e ∙ ap (drop 1) (items-cut_piece p piece) ∙ ap (items d) (sym (lines-zero ss))
      last_comes (suc room) =
          ap (λ ls. drop 1 (items d ls)) (lines-last (suc room) p piece ss none more (omega arith))
          ∙ ap (drop 1) (items-short (line p piece true) (lines d (suc room) ss) fits) ∙ ap (λ c. items d (lines d c ss)) (sym (zero-add (suc room)))

      last_line : (room : ℕ) → drop 1 (lines d (length piece + room) (source p piece ∷ ss)) ≡ lines d (0 + room) ss
      last_line zero =
          let e : lines d (length piece + 0) (source p piece ∷ ss) ≡ cut_piece p piece =
          ap (λ b. lines d (length piece + 0) (source p b ∷ ss)) (sym (append-nil piece)) ∙ lines-none p piece [] ss none in
          ap (drop 1) (e ∙ other _ _ _ (ne_eqb _ _ (λ (z : length piece ≡ 0). omega (arith, more, z)))) ∙ sym (lines-zero ss)
      last_line (suc room) =
          ap (drop 1) (lines-last (suc room) p piece ss none more (omega arith)) ∙ ap (λ c. lines d c ss) (sym (zero-add (suc room)))

      last_long : (room : ℕ) → first_long (given + 1) (lines d (length piece + room) (source p piece ∷ ss)) ≡ first_long ((given + 1) + 1) (lines d (0 + room) ss)
      last_long zero =
          let e : lines d (length piece + 0) (source p piece ∷ ss) ≡ cut_piece p piece =
          ap (λ b. lines d (length piece + 0) (source p b ∷ ss)) (sym (append-nil piece)) ∙ lines-none p piece [] ss none in
          ap (first_long (given + 1)) e ∙ first-cut_piece (given + 1) p piece fits ∙ ap (first_long ((given + 1) + 1)) (sym (lines-zero ss))
      last_long (suc room) =
          let k : suc (given + 1) ≡ (given + 1) + 1 = omega arith in
          ap (first_long (given + 1)) (lines-last (suc room) p piece ss none more (omega arith))
          ∙ first-short (given + 1) (line p piece true) (lines d (suc room) ss) fits ∙ ap (λ n. first_long n (lines d (suc room) ss)) k ∙ ap (λ c. first_long ((given + 1) + 1) (lines d c ss)) (sym (zero-add (suc room)))

      -- it was cut off, and its source passed
      pub follows-last : Follows d all (given + 1) taken [] ss
      follows-last = record {
        lines_come = λ room. drop-one given (lines d (taken + room) all) ∙ ap (drop 1) (f.lines_come room) ∙ last_line room;
        to_come = λ room. drop-one given (items d (lines d (taken + room) all)) ∙ ap (drop 1) (f.to_come room) ∙ last_comes room;
        long_comes = λ room. f.long_comes room ∙ last_long room;
        totals = omega (arith, f.totals);
      }

      -- it is the next item where room is left
      pub next-last : (bound : ℕ) → taken < bound → (later : List Item) × (drop given (items d (lines d bound all)) ≡ item d p piece ∷ later)
      next-last bound w =
          let room : ℕ = bound - taken in
          let t : taken + room ≡ bound = omega (arith, w) in (
            items d (lines d room ss),
            ap (λ b. drop given (items d (lines d b all))) (sym t) ∙ f.to_come room ∙ ap (items d) (lines-last room p piece ss none more (omega (arith, w))) ∙ items-short (line p piece true) (lines d room ss) fits,
          )

    -- bytes without a delimiter
    module _ (piece more : List ℕ) (f : Follows d all given taken piece (source p (piece ++ more) ∷ ss)) where
      -- each item that is closed in the bytes taken was given
      pub none_closed : NoneIn d piece → drop given (items d (lines d taken all)) ≡ []
      none_closed none =
          let t : taken + 0 ≡ taken = omega arith in
          ap (λ b. drop given (items d (lines d b all))) (sym t) ∙ f.to_come 0 ∙ ap (items d) (lines-none p piece more ss none) ∙ items-cut_piece p piece

      -- the line that is open is the last of those in the bytes taken
      pub open_comes : NoneIn d piece → drop given (lines d taken all) ≡ cut_piece p piece
      open_comes none =
          let t : taken + 0 ≡ taken = omega arith in
          ap (λ b. drop given (lines d b all)) (sym t) ∙ f.lines_come 0 ∙ lines-none p piece more ss none

      pub open_long : NoneIn d piece → first_long 1 (lines d taken all) ≡ first_long (given + 1) (cut_piece p piece)
      open_long none =
          let t : taken + 0 ≡ taken = omega arith in
          ap (λ b. first_long 1 (lines d b all)) (sym t) ∙ f.long_comes 0 ∙ ap (first_long (given + 1)) (lines-none p piece more ss none)

      -- and no line among them is long where they aren't
      pub none_long : NoneIn d piece → length piece ≤ LONGEST → first_long 1 (lines d taken all) ≡ None
      none_long none fits = open_long none ∙ first-cut_piece (given + 1) p piece fits

    -- bytes at whose first places no delimiter stands, and which are too many for a line
    first_is_long : (c : ℕ) (bytes : List ℕ) → NoneBefore d (LONGEST + 1) (take c bytes) → LONGEST < length (take c bytes) → (q : List ℕ) × (whole : Bool) × (later : List Line) × (lines d c (source p bytes ∷ ss) ≡ line p q whole ∷ later) × (LONGEST < length q)
    first_is_long c bytes none many =
        let (q, qs, e, more) = pieces-long d LONGEST (take c bytes) none many in
        let r : Bool = reaches c (source p bytes ∷ ss) in
        let cut : Bool = r && eqb (byte_count (within (c - length bytes) ss)) 0 in
        let (whole, later, is) = first_of cut q qs more in
        (q, whole, later ++ lines_of d r (within (c - length bytes) ss), ap (λ ps. lines_among p cut ps ++ lines_of d r (within (c - length bytes) ss)) e ∙ ap (λ ls. ls ++ lines_of d r (within (c - length bytes) ss)) is, more)
      where
        first_of : (cut : Bool) (q : List ℕ) (qs : List (List ℕ)) → LONGEST < length q → (whole : Bool) × (later : List Line) × (lines_among p cut (q ∷ qs) ≡ line p q whole ∷ later)
        first_of cut q [] more = (not cut, [], other _ _ _ (ne_eqb _ _ (λ (z : length q ≡ 0). omega (arith, z, more))))
        first_of cut q (next ∷ qs) more = (true, lines_among p cut (next ∷ qs), refl)

    pub long-bytes : (uncut bytes : List ℕ) (bound : ℕ) → taken ≤ bound → Follows d all given taken uncut (source p bytes ∷ ss)
        → NoneBefore d (LONGEST + 1) (take (length uncut + (bound - taken)) bytes) → LONGEST < length (take (length uncut + (bound - taken)) bytes)
        → (drop given (items d (lines d bound all)) ≡ []) × (first_long 1 (lines d bound all) ≡ Some (given + 1))
    long-bytes uncut bytes bound w f none many =
        let room : ℕ = bound - taken in
        let t : taken + room ≡ bound = omega (arith, w) in
        let (q, whole, later, is, more) = first_is_long (length uncut + room) bytes none many in (
          ap (λ b. drop given (items d (lines d b all))) (sym t) ∙ f.to_come room ∙ ap (items d) is ∙ items-long (line p q whole) later more,
          ap (λ b. first_long 1 (lines d b all)) (sym t) ∙ f.long_comes room ∙ ap (first_long (given + 1)) is ∙ first-long (given + 1) (line p q whole) later more,
        )

  -- where no source is left the items are given, and none is long
  module _ (all : List SourceBytes) (given taken bound : ℕ) (w : taken ≤ bound) (f : Follows d all given taken [] []) where
    here : taken + (bound - taken) ≡ bound
    here = omega (arith, w)

    pub none_left : drop given (items d (lines d bound all)) ≡ []
    none_left = ap (λ b. drop given (items d (lines d b all))) (sym here) ∙ f.to_come (bound - taken)

    pub none_long_left : first_long 1 (lines d bound all) ≡ None
    none_long_left = ap (λ b. first_long 1 (lines d b all)) (sym here) ∙ f.long_comes (bound - taken)

-- why the input stops
stop-long : (d : List ℕ) (bound n : ℕ) (all : List SourceBytes) → first_long 1 (lines d bound all) ≡ Some n → stop d bound all ≡ line_too_long n
stop-long d bound n all e = rw e refl
