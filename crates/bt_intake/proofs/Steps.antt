-- What stands of the reader after each of its steps.
use Rattle.std.proofs.Common.{◌≡◌, ◌⊎◌, ℕ, zero, suc, ◌+◌, ◌-◌, ◌<◌, ◌≤◌, IsTrue, List, [], ◌∷◌, length, take, drop, Some, slice_get, refl, sym, ap, ◌∙◌, subst, arith, inl, inr}
use Rattle.std.proofs.lemmas.Bool.{cases_lt}
use Rattle.std.proofs.lemmas.List.{length-drop, take-take, drop-drop, drop_all}
use Rattle.std.proofs.lemmas.Option.{same_Some}
use Rattle.bt_ports.specs.declared.parts.Item.{Item}
use Rattle.bt_ports.specs.declared.parts.Named.{Named}
use Rattle.bt_ports.specs.declared.outside.Source as Source
use Rattle.bt_lines.specs.Pieces.{NoneBefore, NoneIn, FirstAt}
use Rattle.bt_lines.specs.Lines.{item}
use Rattle.bt_lines.specs.Follows.{Follows, source}
use Rattle.bt_lines.specs.declared.TheConstants.{LONGEST}
use Rattle.bt_lines.proofs.Pieces.{front-length, first-front}
use Rattle.bt_lines.proofs.Lines.{follows-line, next-line, follows-skip, follows-last, next-last}
use Rattle.bt_intake.specs.declared.reader.LineReader.{LineReader}
use Rattle.bt_intake.specs.Batches.{source_items}
use Rattle.bt_intake.specs.Sources.{all_tell, told, Ended}
use Rattle.bt_intake.specs.Reader.{uncut, rest, ReaderHolds, MakesItem, GivesLine}
use Rattle.bt_intake.proofs.Rests.{get-inside, left, follows-back, follows-split, follows-ended}

-- a list of which n elements were dropped and one is left has more than n
pub more_than_dropped : {A : Type 0} (n : ℕ) (xs : List A) (x : A) (later : List A) → drop n xs ≡ x ∷ later → n + 1 ≤ length xs
more_than_dropped n xs x later e = omega (arith, ap length e, length-drop n xs)

-- the element behind those that were dropped
pub get-dropped : {A : Type 0} (n : ℕ) (xs : List A) (x : A) (later : List A) → drop n xs ≡ x ∷ later → slice_get xs n ≡ Some x
get-dropped zero [] x later e = absurd (omega (arith, ap length e))
get-dropped zero (y ∷ ys) x later e = cc
get-dropped (suc n) [] x later e = absurd (omega (arith, ap length e))
get-dropped (suc n) (y ∷ ys) x later e = get-dropped n ys x later e

module _ {S : Type 0} (g : Source.Ghosts S) (s : LineReader S) (stands : ReaderHolds g s) where
  pub length-uncut : length (uncut s) ≡ length s.window.items - s.from
  length-uncut = length-drop s.from s.window.items

  -- some bytes aren't cut, so there is a source at hand
  pub at_hand : 1 ≤ length (uncut s) → s.at < length s.sources.list
  at_hand more = elim (cases_lt s.at (length s.sources.list)) [ inl h ↦ h | inr h ↦ absurd (omega (arith, more, ap length (stands.done h))) ]

  -- a line that a delimiter ends
  module _ (n : ℕ) (first : FirstAt s.delimiter (uncut s) n) (fits : n ≤ LONGEST) where
    abbrev size : ℕ
    size = n + length s.delimiter

    pub first_at_hand : s.at < length s.sources.list
    first_at_hand = at_hand (omega (arith, first.inside, stands.some))

    same_line : take n (take size (uncut s)) ≡ take n (uncut s)
    same_line = take-take n size (uncut s) (omega arith)

    -- the line is the next item
    pub line_next : (m : Named S) → slice_get s.sources.list s.at ≡ Some m → IsTrue (all_tell g s.sources.list) → (later : List Item) × (drop s.given (source_items s.delimiter s.bound (told g s.sources.list)) ≡ item s.delimiter m.path (take n (uncut s)) ∷ later)
    line_next m at t =
        let (later, e) = next-line s.delimiter stands.some (told g s.sources.list) s.given s.taken m.path (rest g [] (drop (s.at + 1) s.sources.list)) (take size (uncut s)) (drop size (uncut s)) (left g m) n
        (first-front s.delimiter (uncut s) n first) (front-length s.delimiter (uncut s) n first)
        (follows-split g s.delimiter (told g s.sources.list) s.given s.taken s.sources.list s.at m at (uncut s) size (stands.follows t)) fits s.bound stands.within_bound in
        (later, e ∙ ap (λ b. item s.delimiter m.path b ∷ later) same_line)

    -- what isn't cut once the line was: the bytes behind its delimiter
    line_leaves : drop (s.from + size) s.window.items ≡ drop size (uncut s)
    line_leaves = sym (drop-drop size s.from s.window.items)

    pub stands-line : ReaderHolds g (record s { from = s.from + size; clear = 0; given = s.given + 1 })
    stands-line =
        let (m, at) = get-inside s.sources.list s.at first_at_hand in
        record {
          some = stands.some;
          inside = omega (arith, first.inside, length-uncut, stands.inside);
          window_taken = stands.window_taken;
          clear = λ k h. absurd (omega (arith, h));
          clear_fits = inl refl;
          at_end = stands.at_end;
          done = λ h. absurd (omega (arith, h, first_at_hand));
          within_bound = stands.within_bound;
          bound_fits = stands.bound_fits;
          used = omega (arith, ap length line_leaves, length-drop size (uncut s), first.inside, stands.used, stands.some);
          counted = stands.counted;
          in_list = λ t. more_than_dropped s.given _ _ _ (line_next m at t).1;
          follows = λ t.
              subst (λ u. Follows s.delimiter (told g s.sources.list) (s.given + 1) s.taken u (rest g u (drop s.at s.sources.list))) (sym line_leaves)
              (follows-back g s.delimiter (told g s.sources.list) (s.given + 1) s.taken s.sources.list s.at m at (drop size (uncut s))
              (follows-line s.delimiter stands.some (told g s.sources.list) s.given s.taken m.path (rest g [] (drop (s.at + 1) s.sources.list)) (take size (uncut s)) (drop size (uncut s)) (left g m) n
              (first-front s.delimiter (uncut s) n first) (front-length s.delimiter (uncut s) n first)
              (follows-split g s.delimiter (told g s.sources.list) s.given s.taken s.sources.list s.at m at (uncut s) size (stands.follows t)) fits));
        }

    pub gives-line : (i : Item) → MakesItem s (take n (uncut s)) i → GivesLine g s (record s { from = s.from + size; clear = 0; given = s.given + 1 }) i
    gives-line i makes = record {
      given = refl;
      next = λ t. get-dropped s.given _ _ _ (line_next makes.at_hand makes.found t).1 ∙ ap Some (sym makes.made);
    }

  -- no delimiter stands in the bytes that aren't cut
  module _ (none : NoneIn s.delimiter (uncut s)) where
    pub stands-passed_bytes : (c : ℕ) → c ≡ (length s.window.items - s.from + 1) - length s.delimiter → ReaderHolds g (record s { clear = c })
    stands-passed_bytes c is = record {
      some = stands.some;
      inside = stands.inside;
      window_taken = stands.window_taken;
      clear = λ k h. none k;
      clear_fits = fits;
      at_end = stands.at_end;
      done = stands.done;
      within_bound = stands.within_bound;
      bound_fits = stands.bound_fits;
      used = stands.used;
      counted = stands.counted;
      in_list = stands.in_list;
      follows = stands.follows;
    }
      where
        fits : (c ≡ 0) ⊎ (c + length s.delimiter ≤ length (uncut s) + 1)
        fits = elim (cases_lt (length s.window.items - s.from + 1) (length s.delimiter)) [
          | inl few ↦ inl (omega (arith, is, few))
          | inr more ↦ inr (omega (arith, is, more, length-uncut))
        ]

  -- the bytes that are cut were left behind
  pub stands-dropped : (t : LineReader S) → t.window.items ≡ uncut s → ReaderHolds g (record s { window = t.window; from = 0; spare = t.spare })
  stands-dropped t is =
      let same : drop 0 t.window.items ≡ uncut s = is in
      record {
        some = stands.some;
        inside = omega arith;
        window_taken = omega (arith, ap length is, length-uncut, stands.window_taken);
        clear = subst (NoneBefore s.delimiter s.clear) (sym same) stands.clear;
        clear_fits = subst (λ u. (s.clear ≡ 0) ⊎ (s.clear + length s.delimiter ≤ length u + 1)) (sym same) stands.clear_fits;
        at_end = stands.at_end;
        done = λ h. same ∙ stands.done h;
        within_bound = stands.within_bound;
        bound_fits = stands.bound_fits;
        used = omega (arith, ap length same, stands.used);
        counted = stands.counted;
        in_list = stands.in_list;
        follows = λ q. subst (λ u. Follows s.delimiter (told g s.sources.list) s.given s.taken u (rest g u (drop s.at s.sources.list))) (sym same) (stands.follows q);
      }

  -- a source that ended was passed
  pub stands-passed : s.at < length s.sources.list → uncut s ≡ [] → (IsTrue (all_tell g s.sources.list) → Ended g s.sources.list s.at) → ReaderHolds g (record s { at = s.at + 1 })
  stands-passed here empty ended = record {
    some = stands.some;
    inside = stands.inside;
    window_taken = stands.window_taken;
    clear = stands.clear;
    clear_fits = stands.clear_fits;
    at_end = omega (arith, here);
    done = λ h. empty;
    within_bound = stands.within_bound;
    bound_fits = stands.bound_fits;
    used = stands.used;
    counted = stands.counted;
    in_list = stands.in_list;
    follows = λ q.
        let e = ended q in
        subst (λ u. Follows s.delimiter (told g s.sources.list) s.given s.taken u (rest g u (drop (s.at + 1) s.sources.list))) (sym empty)
        (follows-skip s.delimiter stands.some (told g s.sources.list) s.given s.taken e.at_hand.path (rest g [] (drop (s.at + 1) s.sources.list))
        (follows-ended g s.delimiter (told g s.sources.list) s.given s.taken s.sources.list s.at e.at_hand e.found [] e.none_left
        (subst (λ u. Follows s.delimiter (told g s.sources.list) s.given s.taken u (rest g u (drop s.at s.sources.list))) empty (stands.follows q))));
  }

  -- the last piece of a source that ended
  module _ (here : s.at < length s.sources.list) (none : NoneIn s.delimiter (uncut s)) (more : 1 ≤ length (uncut s)) (fits : length (uncut s) ≤ LONGEST) (room : s.taken < s.bound) (ended : IsTrue (all_tell g s.sources.list) → Ended g s.sources.list s.at) where
    last_follows : (q : IsTrue (all_tell g s.sources.list)) (m : Named S) → slice_get s.sources.list s.at ≡ Some m → Follows s.delimiter (told g s.sources.list) s.given s.taken (uncut s) (source m.path (uncut s) ∷ rest g [] (drop (s.at + 1) s.sources.list))
    last_follows q m at =
        let e = ended q in
        let same : e.at_hand ≡ m = same_Some _ _ (sym e.found ∙ at) in
        follows-ended g s.delimiter (told g s.sources.list) s.given s.taken s.sources.list s.at m at (uncut s) (subst (λ n. length (g.bytes n.source) ≤ g.taken n.source) same e.none_left) (stands.follows q)

    pub last_next : (m : Named S) → slice_get s.sources.list s.at ≡ Some m → IsTrue (all_tell g s.sources.list) → (later : List Item) × (drop s.given (source_items s.delimiter s.bound (told g s.sources.list)) ≡ item s.delimiter m.path (uncut s) ∷ later)
    last_next m at q =
        next-last s.delimiter stands.some (told g s.sources.list) s.given s.taken m.path (rest g [] (drop (s.at + 1) s.sources.list)) (uncut s) none more fits (last_follows q m at) s.bound room

    last_leaves : drop (length s.window.items) s.window.items ≡ []
    last_leaves = drop_all (length s.window.items) s.window.items (omega arith)

    pub stands-last : ReaderHolds g (record s { from = length s.window.items; clear = 0; at = s.at + 1; given = s.given + 1 })
    stands-last =
        let (m, at) = get-inside s.sources.list s.at here in
        record {
          some = stands.some;
          inside = omega arith;
          window_taken = stands.window_taken;
          clear = λ k h. absurd (omega (arith, h));
          clear_fits = inl refl;
          at_end = omega (arith, here);
          done = λ h. last_leaves;
          within_bound = stands.within_bound;
          bound_fits = stands.bound_fits;
          used = omega (arith, ap length last_leaves, stands.used, more);
          counted = stands.counted;
          in_list = λ q. more_than_dropped s.given _ _ _ (last_next m at q).1;
          follows = λ q.
              subst (λ u. Follows s.delimiter (told g s.sources.list) (s.given + 1) s.taken u (rest g u (drop (s.at + 1) s.sources.list))) (sym last_leaves)
              (follows-last s.delimiter stands.some (told g s.sources.list) s.given s.taken m.path (rest g [] (drop (s.at + 1) s.sources.list)) (uncut s) none more fits (last_follows q m at));
        }

    pub gives-last : (i : Item) → MakesItem s (uncut s) i → GivesLine g s (record s { from = length s.window.items; clear = 0; at = s.at + 1; given = s.given + 1 }) i
    gives-last i makes = record {
      given = refl;
      next = λ q. get-dropped s.given _ _ _ (last_next makes.at_hand makes.found q).1 ∙ ap Some (sym makes.made);
    }

-- the bytes at which no delimiter stands are among those that aren't cut
pub clear_inside : {S : Type 0} (g : Source.Ghosts S) (s : LineReader S) → ReaderHolds g s → s.clear ≤ length (uncut s)
clear_inside g s stands = elim stands.clear_fits [ inl z ↦ omega (arith, z) | inr fits ↦ omega (arith, fits, stands.some) ]
