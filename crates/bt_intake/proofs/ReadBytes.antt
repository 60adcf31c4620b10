-- What stands of the reader after a read.
use Rattle.std.proofs.Common.{◌≡◌, ◌⊎◌, ℕ, ◌+◌, ◌-◌, ◌<◌, ◌≤◌, IsTrue, List, [], ◌++◌, length, take, drop, Some, slice_get, refl, sym, ap, ◌∙◌, subst, arith, append-nil, length-append, inl, inr}
use Rattle.std.proofs.lemmas.List.{take-append-drop, length-take, length-drop, drop-drop}
use Rattle.std.proofs.Math.Seq.{drop-append-le, take-append-add}
use Rattle.bt_ports.specs.declared.parts.Read.{Read}
use Rattle.bt_ports.specs.declared.outside.Source as Source
use Rattle.bt_lines.specs.Follows.{Follows}
use Rattle.bt_lines.specs.Pieces.{NoneBefore}
use Rattle.bt_lines.proofs.Lines.{follows-read}
use Rattle.bt_lines.proofs.Pieces.{none-more}
use Rattle.bt_intake.specs.declared.reader.LineReader.{LineReader}
use Rattle.bt_intake.specs.Batches.{source_items}
use Rattle.bt_intake.specs.Reader.{uncut, rest, ReaderHolds}
use Rattle.bt_intake.specs.Reading.{ReadsAt}
use Rattle.bt_intake.specs.Sources.{all_tell, told, taken_count, SourcesKept, Ended}
use Rattle.bt_intake.proofs.SourceLists.{kept-slice_set, kept-length, get-slice_set, tell-at, tell-kept, told-kept, taken-slice_set}
use Rattle.bt_intake.proofs.Rests.{left, rest-read}

-- bytes that were read behind others
pub read_window : (w x : List ℕ) (end n : ℕ) → end ≡ length w → take end x ≡ w → take (end + n) x ≡ w ++ take n (drop end x)
read_window w x end n e k =
    let whole : w ++ drop end x ≡ x = ap (λ y. y ++ drop end x) (sym k) ∙ take-append-drop end x in
    let places : end + n ≡ length w + n = omega (arith, e) in
    ap (λ y. take (end + n) y) (sym whole) ∙ ap (λ m. take m (w ++ drop end x)) places ∙ take-append-add w (drop end x) n

-- the front of a window stays while room is made behind it and bytes are read there
pub front_kept : (w x y : List ℕ) (end : ℕ) → end ≡ length w → take (length w) x ≡ w → take end y ≡ take end x → take end y ≡ w
front_kept w x y end e k f = f ∙ ap (λ n. take n x) e ∙ k

-- n of the bytes read are a window's new bytes
pub read_part : (w x y : List ℕ) (end n : ℕ) → end ≡ length w → take (length w) x ≡ w → take end y ≡ take end x → length y ≡ length x → n ≤ length x - end
    → (take (end + n) y ≡ w ++ take n (drop end y)) × (length (take n (drop end y)) ≡ n)
read_part w x y end n e k f l h =
    (read_window w y end n e (front_kept w x y end e k f), omega (arith, length-take n (drop end y), length-drop end y, l, h))

module _ {S : Type 0} (g : Source.Ghosts S) (s : LineReader S) (stands : ReaderHolds g s) (here : s.at < length s.sources.list) where
  module _ (r : Read) (t : LineReader S) (size : ℕ) (buffer : List ℕ) (reads : ReadsAt g r s.sources.list t.sources.list s.at size buffer) where
    pub read-kept : SourcesKept g s.sources.list t.sources.list
    read-kept = subst (SourcesKept g s.sources.list) (sym reads.is) (kept-slice_set g s.sources.list s.at reads.old reads.new reads.was reads.reads.kept)

    read_length : length t.sources.list ≡ length s.sources.list
    read_length = kept-length g s.sources.list t.sources.list read-kept

    pub read_found : slice_get t.sources.list s.at ≡ Some reads.new
    read_found = ap (λ ns. slice_get ns s.at) reads.is ∙ get-slice_set s.sources.list s.at reads.old reads.new reads.was

    pub read_tells : IsTrue (all_tell g t.sources.list) → IsTrue (g.tells reads.new.source)
    read_tells = tell-at g t.sources.list s.at reads.new read_found

    read_taken : taken_count g t.sources.list + g.taken reads.old.source ≡ taken_count g s.sources.list + g.taken reads.new.source
    read_taken = ap (λ ns. taken_count g ns + g.taken reads.old.source) reads.is ∙ taken-slice_set g s.sources.list s.at reads.old reads.new reads.was

    -- a read gave these bytes
    module _ (more : List ℕ) (n : ℕ) (window : t.window.items ≡ s.window.items ++ more) (size_of : length more ≡ n) (room : s.taken + n ≤ s.bound) (takes : IsTrue (all_tell g t.sources.list) → (g.taken reads.new.source ≡ g.taken reads.old.source + n) × (more ++ left g reads.new ≡ left g reads.old)) where
      pub more_uncut : drop s.from t.window.items ≡ uncut s ++ more
      more_uncut = ap (drop s.from) window ∙ drop-append-le s.from s.window.items more stands.inside

      more_length : length (drop s.from t.window.items) ≡ length (uncut s) + n
      more_length = omega (arith, ap length more_uncut, length-append (uncut s) more, size_of)

      more_clear : (s.clear ≡ 0) ⊎ (s.clear + length s.delimiter ≤ length (drop s.from t.window.items) + 1)
      more_clear = elim stands.clear_fits [ inl z ↦ inl z | inr h ↦ inr (omega (arith, h, more_length)) ]

      pub stands-read : ReaderHolds g (record s { sources = t.sources; window = t.window; taken = s.taken + n })
      stands-read = record {
        some = stands.some;
        inside = omega (arith, ap length window, length-append s.window.items more, stands.inside);
        window_taken = omega (arith, ap length window, length-append s.window.items more, size_of, stands.window_taken);
        clear = subst (NoneBefore s.delimiter s.clear) (sym more_uncut) (none-more s.delimiter (uncut s) more s.clear stands.clear stands.clear_fits);
        clear_fits = more_clear;
        at_end = omega (arith, stands.at_end, read_length);
        done = λ h. absurd (omega (arith, h, here, read_length));
        within_bound = room;
        bound_fits = stands.bound_fits;
        used = omega (arith, stands.used, more_length);
        counted = λ q. omega (arith, read_taken, (takes q).0, stands.counted (tell-kept g s.sources.list t.sources.list read-kept q));
        in_list = λ q. subst (λ all. s.given ≤ length (source_items s.delimiter s.bound all)) (sym (told-kept g s.sources.list t.sources.list read-kept q)) (stands.in_list (tell-kept g s.sources.list t.sources.list read-kept q));
        follows = λ q.
            let before = tell-kept g s.sources.list t.sources.list read-kept q in
            let same : rest g (uncut s ++ more) (drop s.at t.sources.list) ≡ rest g (uncut s) (drop s.at s.sources.list) =
            ap (λ ns. rest g (uncut s ++ more) (drop s.at ns)) reads.is ∙ rest-read g s.sources.list s.at reads.old reads.new (uncut s) more reads.was reads.reads.kept.path (takes q).1 in
            subst (λ all. Follows s.delimiter all s.given (s.taken + n) (drop s.from t.window.items) (rest g (drop s.from t.window.items) (drop s.at t.sources.list)))
            (sym (told-kept g s.sources.list t.sources.list read-kept q))
            (subst (λ u. Follows s.delimiter (told g s.sources.list) s.given (s.taken + n) u (rest g u (drop s.at t.sources.list))) (sym more_uncut)
            (subst (Follows s.delimiter (told g s.sources.list) s.given (s.taken + n) (uncut s ++ more)) (sym same)
            (follows-read s.delimiter stands.some (told g s.sources.list) s.given s.taken n (uncut s) more (rest g (uncut s) (drop s.at s.sources.list)) size_of (stands.follows before))));
      }

    -- a read gave the next bytes
    pub takes-next : (n : ℕ) → IsTrue (all_tell g t.sources.list) → g.taken reads.new.source ≡ g.taken reads.old.source + n → take n buffer ≡ take n (left g reads.old) → take n buffer ++ left g reads.new ≡ left g reads.old
    takes-next n q e b =
        let d : left g reads.new ≡ drop n (left g reads.old) =
        ap (λ k. drop k (g.bytes reads.new.source)) e ∙ ap (drop (g.taken reads.old.source + n)) (reads.reads.kept.same (read_tells q)) ∙ sym (drop-drop n (g.taken reads.old.source) (g.bytes reads.old.source)) in
        ap (λ x. x ++ left g reads.new) b ∙ ap (λ x. take n (left g reads.old) ++ x) d ∙ take-append-drop n (left g reads.old)

    -- a read gave none
    pub stands-quiet : t.window.items ≡ s.window.items → (IsTrue (all_tell g t.sources.list) → g.taken reads.new.source ≡ g.taken reads.old.source) → ReaderHolds g (record s { sources = t.sources; window = t.window })
    stands-quiet window same =
        let zero : s.taken + 0 ≡ s.taken = omega arith in
        subst (λ k. ReaderHolds g (record s { sources = t.sources; window = t.window; taken = k })) zero
        (stands-read [] 0 (window ∙ sym (append-nil s.window.items)) refl (omega (arith, stands.within_bound)) (λ q. (
          omega (arith, same q),
          ap (λ n. drop n (g.bytes reads.new.source)) (same q) ∙ ap (drop (g.taken reads.old.source)) (reads.reads.kept.same (read_tells q)),
        )))

    pub read-ended : (IsTrue (all_tell g t.sources.list) → (g.taken reads.new.source ≡ g.taken reads.old.source) × (length (g.bytes reads.old.source) ≤ g.taken reads.old.source)) → IsTrue (all_tell g t.sources.list) → Ended g t.sources.list s.at
    read-ended takes q =
        let k = takes q in
        record { at_hand = reads.new; found = read_found; none_left = omega (arith, k.0, k.1, ap length (reads.reads.kept.same (read_tells q))) }
