-- What is still to be cut of some sources, as bytes of the one at hand are taken and cut.
use Rattle.std.proofs.Common.{◌≡◌, ℕ, zero, suc, ◌+◌, ◌<◌, ◌≤◌, List, [], ◌∷◌, ◌++◌, length, take, drop, Some, slice_get, slice_set, refl, sym, ap, ◌∙◌, subst, arith, append_assoc, append-nil}
use Rattle.std.proofs.lemmas.List.{drop_all, take-append-drop}
use Rattle.std.specs.List.{All}
use Rattle.std.proofs.lemmas.List.Elements.{All-head, All-tail}
use Rattle.bt_ports.specs.declared.parts.Named.{Named}
use Rattle.bt_ports.specs.declared.outside.Source as Source
use Rattle.bt_lines.specs.Lines.{SourceBytes}
use Rattle.bt_lines.specs.Follows.{Follows, source}
use Rattle.bt_intake.specs.Sources.{told, taken_count}
use Rattle.bt_intake.specs.Reader.{rest}
use Rattle.bt_intake.proofs.SourceLists.{drop-get, drop-slice_set}

pub get-inside : {A : Type 0} (xs : List A) (i : ℕ) → i < length xs → (x : A) × (slice_get xs i ≡ Some x)
get-inside [] i h = absurd (omega arith)
get-inside (x ∷ xs) zero h = (x, refl)
get-inside (x ∷ xs) (suc i) h = get-inside xs i (omega arith)

module _ {S : Type 0} (g : Source.Ghosts S) where
  -- the bytes of a source that weren't taken
  abbrev pub left : Named S → List ℕ
  left n = drop (g.taken n.source) (g.bytes n.source)

  pub rest-at : (bytes : List ℕ) (ns : List (Named S)) (i : ℕ) (n : Named S) → slice_get ns i ≡ Some n → rest g bytes (drop i ns) ≡ source n.path (bytes ++ left n) ∷ rest g [] (drop (i + 1) ns)
  rest-at bytes ns i n e = ap (rest g bytes) (drop-get ns i n e)

  -- a read gave `more` of the source at hand
  pub rest-read : (ns : List (Named S)) (i : ℕ) (old new : Named S) (bytes more : List ℕ) → slice_get ns i ≡ Some old → new.path ≡ old.path → more ++ left new ≡ left old → rest g (bytes ++ more) (drop i (slice_set ns i new)) ≡ rest g bytes (drop i ns)
  rest-read ns i old new bytes more e p l =
      let a : rest g (bytes ++ more) (drop i (slice_set ns i new)) ≡ source new.path ((bytes ++ more) ++ left new) ∷ rest g [] (drop (i + 1) ns) =
      ap (rest g (bytes ++ more)) (drop-slice_set ns i old new e) in
      let b : (bytes ++ more) ++ left new ≡ bytes ++ left old = append_assoc bytes more (left new) ∙ ap (λ x. bytes ++ x) l in
      a ∙ ap (λ q. source q ((bytes ++ more) ++ left new) ∷ rest g [] (drop (i + 1) ns)) p ∙ ap (λ x. source old.path x ∷ rest g [] (drop (i + 1) ns)) b ∙ sym (rest-at bytes ns i old e)

  -- nothing was taken
  pub rest-start : (ns : List (Named S)) → All (λ n. g.taken n.source ≡ 0) ns → rest g [] ns ≡ told g ns
  rest-start [] h = refl
  rest-start (n ∷ ns) h =
      let e : left n ≡ g.bytes n.source = ap (λ k. drop k (g.bytes n.source)) (All-head (λ m. g.taken m.source ≡ 0) n ns h) in
      ap (λ b. source n.path b ∷ rest g [] ns) e ∙ ap (λ ss. source n.path (g.bytes n.source) ∷ ss) (rest-start ns (All-tail (λ m. g.taken m.source ≡ 0) n ns h))

  pub taken_count-start : (ns : List (Named S)) → All (λ n. g.taken n.source ≡ 0) ns → taken_count g ns ≡ 0
  taken_count-start [] h = refl
  taken_count-start (n ∷ ns) h = omega (arith, All-head (λ m. g.taken m.source ≡ 0) n ns h, taken_count-start ns (All-tail (λ m. g.taken m.source ≡ 0) n ns h))

  pub none-left : (n : Named S) → length (g.bytes n.source) ≤ g.taken n.source → left n ≡ []
  none-left n h = drop_all (g.taken n.source) (g.bytes n.source) h

  module _ (d : List ℕ) (all : List SourceBytes) (given taken : ℕ) (ns : List (Named S)) (i : ℕ) (n : Named S) (at : slice_get ns i ≡ Some n) where
    -- the sources from the one at hand on, as a list with it at the front
    pub follows-at : (bytes : List ℕ) → Follows d all given taken bytes (rest g bytes (drop i ns)) → Follows d all given taken bytes (source n.path (bytes ++ left n) ∷ rest g [] (drop (i + 1) ns))
    follows-at bytes f = subst (Follows d all given taken bytes) (rest-at bytes ns i n at) f

    pub follows-back : (bytes : List ℕ) → Follows d all given taken bytes (source n.path (bytes ++ left n) ∷ rest g [] (drop (i + 1) ns)) → Follows d all given taken bytes (rest g bytes (drop i ns))
    follows-back bytes f = subst (Follows d all given taken bytes) (sym (rest-at bytes ns i n at)) f

    -- with its bytes in two parts
    pub follows-split : (bytes : List ℕ) (k : ℕ) → Follows d all given taken bytes (rest g bytes (drop i ns))
        → Follows d all given taken (take k bytes ++ drop k bytes) (source n.path ((take k bytes ++ drop k bytes) ++ left n) ∷ rest g [] (drop (i + 1) ns))
    follows-split bytes k f =
        subst (λ b. Follows d all given taken b (source n.path (b ++ left n) ∷ rest g [] (drop (i + 1) ns))) (sym (take-append-drop k bytes)) (follows-at bytes f)

    -- with no bytes behind those that were taken, where it ended
    pub follows-ended : (bytes : List ℕ) → length (g.bytes n.source) ≤ g.taken n.source → Follows d all given taken bytes (rest g bytes (drop i ns)) → Follows d all given taken bytes (source n.path bytes ∷ rest g [] (drop (i + 1) ns))
    follows-ended bytes h f =
        subst (λ b. Follows d all given taken bytes (source n.path b ∷ rest g [] (drop (i + 1) ns))) (ap (λ x. bytes ++ x) (none-left n h) ∙ append-nil bytes) (follows-at bytes f)
