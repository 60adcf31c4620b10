-- Messages gathered by their texts, one after another.
use Rattle.std.proofs.Common.{◌≡◌, ℕ, zero, suc, ◌<◌, ◌⊎◌, inl, inr, Bool, true, false, not, List, [], ◌∷◌, ◌++◌, length, map, Option, Some, None, option_map, refl, sym, ◌∙◌, ap, subst, filter, append-nil, arith, if◌then◌else◌, get_or, slice_set}
use Rattle.std.specs.Str.{bytes_eq}
use Rattle.std.proofs.lemmas.Bool.{false_from_ne_true}
use Rattle.std.proofs.lemmas.List.{map-append, length-map}
use Rattle.std.proofs.lemmas.List.Elements.{filter-append}
use Rattle.std.proofs.lemmas.Slice.Eq.{bytes_eq-Decides}
use Rattle.bt_batches.specs.declared.piece.Piece.{Piece}
use Rattle.bt_batches.specs.Grouping.{Keyed, texts_of, appearing, of_text, by_text}
use Rattle.bt_batches.specs.Gathered.{IsGathered, place, put_at}

-- two texts are the same, or the test tells them apart in either order
abbrev pub Same : List ℕ → List ℕ → Type 0
Same a b = (a ≡ b) × (bytes_eq a b ≡ true) × (bytes_eq b a ≡ true)

abbrev pub Other : List ℕ → List ℕ → Type 0
Other a b = (bytes_eq a b ≡ false) × (bytes_eq b a ≡ false)

same_or_other_by : (a b : List ℕ) (r : Bool) → bytes_eq a b ≡ r → Same a b ⊎ Other a b
same_or_other_by a b true e =
    let same : a ≡ b = (bytes_eq-Decides a b).0 e in
    inl (same, e, (bytes_eq-Decides b a).1 (sym same))
same_or_other_by a b false e = inr (
  e,
  false_from_ne_true (bytes_eq b a) (λ h.
      let back : bytes_eq a b ≡ true = (bytes_eq-Decides a b).1 (sym ((bytes_eq-Decides b a).0 h)) in cc),
)

pub same_or_other : (a b : List ℕ) → Same a b ⊎ Other a b
same_or_other a b = same_or_other_by a b (bytes_eq a b) refl

-- the test for the texts that differ from one
abbrev differs : List ℕ → List ℕ → Bool
differs s = λ u. not (bytes_eq u s)

-- places ---------------------------------------------------------------------

not_at_by : (b : Bool) (o : Option ℕ) → (if b then Some 0 else option_map suc o) ≡ None → (b ≡ false) × (o ≡ None)
not_at_by true o e = (cc, cc)
not_at_by false None e = (refl, refl)
not_at_by false (Some i) e = (cc, cc)

-- a text that isn't among texts is other than the first, and isn't among those behind it
not_at : (t u : List ℕ) (us : List (List ℕ)) → place t (u ∷ us) ≡ None → (bytes_eq t u ≡ false) × (place t us ≡ None)
not_at t u us e = not_at_by (bytes_eq t u) (place t us) e

at_none : (t u : List ℕ) (us : List (List ℕ)) → bytes_eq t u ≡ false → place t us ≡ None → place t (u ∷ us) ≡ None
at_none t u us a b = rw a (rw b refl)

known_or_new_by : (o : Option ℕ) → (o ≡ None) ⊎ ((i : ℕ) × (o ≡ Some i))
known_or_new_by None = inl refl
known_or_new_by (Some i) = inr (i, refl)

known_or_new : (t : List ℕ) (ts : List (List ℕ)) → (place t ts ≡ None) ⊎ ((i : ℕ) × (place t ts ≡ Some i))
known_or_new t ts = known_or_new_by (place t ts)

within_by : (b : Bool) (o : Option ℕ) (n i : ℕ) → ((j : ℕ) → o ≡ Some j → j < n) → (if b then Some 0 else option_map suc o) ≡ Some i → i < suc n
within_by true o n i h e = let z : 0 ≡ i = cc in omega arith
within_by false None n i h e = cc
within_by false (Some j) n i h e = let z : suc j ≡ i = cc in let b : j < n = h j refl in omega arith

-- a place is one of a text
pub place_within : (q : List ℕ) (ts : List (List ℕ)) (i : ℕ) → place q ts ≡ Some i → i < length ts
place_within q [] i e = cc
place_within q (t ∷ ts) i e = within_by (bytes_eq q t) (place q ts) (length ts) i (place_within q ts) e

-- a filter lets no text in
place_filter : (p : List ℕ → Bool) (t : List ℕ) (ts : List (List ℕ)) → place t ts ≡ None → place t (filter p ts) ≡ None
place_filter p t [] e = refl
place_filter p t (u ∷ us) e =
    let n = not_at t u us e in
    let rest = place_filter p t us n.1 in
    elim (p u) as (λ b. place t (if b then u ∷ filter p us else filter p us) ≡ None) [ true ↦ at_none t u (filter p us) n.0 rest | false ↦ rest ]

-- the texts that differ from one lack no other
place_unfilter : (s t : List ℕ) (ts : List (List ℕ)) → bytes_eq t s ≡ false → place t (filter (differs s) ts) ≡ None → place t ts ≡ None
place_unfilter s t [] d h = refl
place_unfilter s t (u ∷ us) d h = elim (same_or_other u s) [
  | inl x ↦
      let h' : place t (filter (differs s) us) ≡ None = rw x.1 at h in
      at_none t u us (subst (λ v. bytes_eq t v ≡ false) (sym x.0) d) (place_unfilter s t us d h')
  | inr x ↦
      let h' : place t (u ∷ filter (differs s) us) ≡ None = rw x.0 at h in
      let n = not_at t u (filter (differs s) us) h' in
      at_none t u us n.0 (place_unfilter s t us d n.1)
]

-- and lack that one
place_self : (s : List ℕ) (ts : List (List ℕ)) → place s (filter (differs s) ts) ≡ None
place_self s [] = refl
place_self s (u ∷ us) = elim (same_or_other u s) [
  | inl x ↦ rw x.1 (place_self s us)
  | inr x ↦ rw x.0 (at_none s u (filter (differs s) us) x.1 (place_self s us))
]

last_by : (b : Bool) (n : ℕ) (o : Option ℕ) → option_map suc (if b then Some n else o) ≡ (if b then Some (suc n) else option_map suc o)
last_by true n o = refl
last_by false n o = refl

-- a new text at the end has the last place
place_last : (q t : List ℕ) (ts : List (List ℕ)) → place t ts ≡ None → place q (ts ++ t ∷ []) ≡ (if bytes_eq q t then Some (length ts) else place q ts)
place_last q t [] h = refl
place_last q t (u ∷ us) h =
    let n = not_at t u us h in
    let rest = place_last q t us n.1 in
    elim (same_or_other q u) [
      | inl x ↦
          let d : bytes_eq q t ≡ false = differs_back t q (subst (λ v. bytes_eq t v ≡ false) (sym x.0) n.0) in
          rw (x.1, d) refl
      | inr x ↦ rw (x.0, rest) (last_by (bytes_eq q t) (length us) (place q us))
    ]
  where
    differs_back : (a b : List ℕ) → bytes_eq a b ≡ false → bytes_eq b a ≡ false
    differs_back a b e = elim (same_or_other a b) [ inl x ↦ let y = x.1 in cc | inr x ↦ x.1 ]

-- texts of which none comes twice ------------------------------------------------

abbrev Distinct : List (List ℕ) → Type 0
Distinct [] = Unit {0}
Distinct (t ∷ ts) = (place t ts ≡ None) × Distinct ts

distinct_filter : (p : List ℕ → Bool) (ts : List (List ℕ)) → Distinct ts → Distinct (filter p ts)
distinct_filter p [] d = tt
distinct_filter p (t ∷ ts) d = elim (p t) as (λ b. Distinct (if b then t ∷ filter p ts else filter p ts)) [ true ↦ (place_filter p t ts d.0, distinct_filter p ts d.1) | false ↦ distinct_filter p ts d.1 ]

appearing_distinct : (ts : List (List ℕ)) → Distinct (appearing ts)
appearing_distinct [] = tt
appearing_distinct (t ∷ ts) = (place_self t (appearing ts), distinct_filter (differs t) (appearing ts) (appearing_distinct ts))

-- a text more ------------------------------------------------------------------

appears_new : (ts : List (List ℕ)) (t : List ℕ) → place t (appearing ts) ≡ None → appearing (ts ++ t ∷ []) ≡ appearing ts ++ t ∷ []
appears_new [] t h = refl
appears_new (s ∷ ts) t h =
    let n = not_at t s (filter (differs s) (appearing ts)) h in
    let rest = appears_new ts t (place_unfilter s t (appearing ts) n.0 n.1) in
    rw (rest, filter-append (differs s) (appearing ts) (t ∷ []), n.0) refl

appears_known : (ts : List (List ℕ)) (t : List ℕ) (i : ℕ) → place t (appearing ts) ≡ Some i → appearing (ts ++ t ∷ []) ≡ appearing ts
appears_known [] t i h = cc
appears_known (s ∷ ts) t i h = elim (same_or_other t s) [
  | inl x ↦ elim (known_or_new t (appearing ts)) [
    | inl n ↦ rw (appears_new ts t n, filter-append (differs s) (appearing ts) (t ∷ []), x.1) (ap (λ us. s ∷ us) (append-nil (filter (differs s) (appearing ts))))
    | inr k ↦ rw (appears_known ts t k.0 k.1) refl
  ]
  | inr x ↦
      let h' : option_map suc (place t (filter (differs s) (appearing ts))) ≡ Some i = rw x.0 at h in
      elim (known_or_new t (appearing ts)) [
        | inl n ↦ let none : place t (filter (differs s) (appearing ts)) ≡ None = place_filter (differs s) t (appearing ts) n in let no : None ≡ Some i = rw none at h' in cc
        | inr k ↦ rw (appears_known ts t k.0 k.1) refl
      ]
]

-- a message more -----------------------------------------------------------------

both : {X : Type 0} (x y : X) (xs ys : List X) → x ≡ y → xs ≡ ys → x ∷ xs ≡ y ∷ ys
both x y xs ys a b = cc

of_text_more : (ks : List Keyed) (k : Keyed) (u : List ℕ) → of_text (ks ++ k ∷ []) u ≡ of_text ks u ++ of_text (k ∷ []) u
of_text_more ks k u = rw (filter-append (λ j. bytes_eq j.0 u) ks (k ∷ []), map-append (λ j. j.1) (filter (λ j. bytes_eq j.0 u) ks) (filter (λ j. bytes_eq j.0 u) (k ∷ []))) refl

of_text_same : (ks : List Keyed) (k : Keyed) (u : List ℕ) → bytes_eq k.0 u ≡ true → of_text (ks ++ k ∷ []) u ≡ of_text ks u ++ k.1 ∷ []
of_text_same ks k u e = of_text_more ks k u ∙ rw e refl

of_text_other : (ks : List Keyed) (k : Keyed) (u : List ℕ) → bytes_eq k.0 u ≡ false → of_text (ks ++ k ∷ []) u ≡ of_text ks u
of_text_other ks k u e = of_text_more ks k u ∙ rw e (append-nil (of_text ks u))

others_stay : (ks : List Keyed) (k : Keyed) (ts : List (List ℕ)) → place k.0 ts ≡ None → map (of_text (ks ++ k ∷ [])) ts ≡ map (of_text ks) ts
others_stay ks k [] h = refl
others_stay ks k (t ∷ ts) h = let n = not_at k.0 t ts h in both _ _ _ _ (of_text_other ks k t n.0) (others_stay ks k ts n.1)

-- it joins the batch of its text
put_known : (ks : List Keyed) (k : Keyed) (ts : List (List ℕ)) (i : ℕ) → Distinct ts → place k.0 ts ≡ Some i → map (of_text (ks ++ k ∷ [])) ts ≡ put_at (map (of_text ks) ts) i k.1
put_known ks k [] i d h = cc
put_known ks k (t ∷ ts) i d h = elim (same_or_other k.0 t) [
  | inl x ↦
      let first : 0 ≡ i = let h' : Some 0 ≡ Some i = rw x.1 at h in cc in
      let none : place k.0 ts ≡ None = subst (λ v. place v ts ≡ None) (sym x.0) d.0 in
      subst (λ j. map (of_text (ks ++ k ∷ [])) (t ∷ ts) ≡ put_at (map (of_text ks) (t ∷ ts)) j k.1) first (both _ _ _ _ (of_text_same ks k t x.1) (others_stay ks k ts none))
  | inr x ↦
      let h' : option_map suc (place k.0 ts) ≡ Some i = rw x.0 at h in
      elim (known_or_new k.0 ts) [
        | inl n ↦ let no : None ≡ Some i = rw n at h' in cc
        | inr j ↦
            let next : suc j.0 ≡ i = let h'' : Some (suc j.0) ≡ Some i = rw j.1 at h' in cc in
            subst (λ n. map (of_text (ks ++ k ∷ [])) (t ∷ ts) ≡ put_at (map (of_text ks) (t ∷ ts)) n k.1) next (both _ _ _ _ (of_text_other ks k t x.0) (put_known ks k ts j.0 d.1 j.1))
      ]
]

-- a text that didn't appear has no message
none_of : (ks : List Keyed) (t : List ℕ) → place t (appearing (texts_of ks)) ≡ None → of_text ks t ≡ []
none_of [] t h = refl
none_of (k ∷ ks) t h =
    let n = not_at t k.0 (filter (differs k.0) (appearing (texts_of ks))) h in
    let rest = none_of ks t (place_unfilter k.0 t (appearing (texts_of ks)) n.0 n.1) in
    let other : bytes_eq k.0 t ≡ false = elim (same_or_other t k.0) [ inl x ↦ let y = x.1 in cc | inr x ↦ x.1 ] in
    rw other rest

texts_more : (ks : List Keyed) (k : Keyed) → texts_of (ks ++ k ∷ []) ≡ texts_of ks ++ k.0 ∷ []
texts_more ks k = map-append (λ j. j.0) ks (k ∷ [])

-- a message whose text appeared joins that text's batch
pub joins_known : (ks : List Keyed) (k : Keyed) (places : List ℕ → Option ℕ) (batches : List (List Piece)) (i : ℕ) → IsGathered ks places batches → places k.0 ≡ Some i → IsGathered (ks ++ k ∷ []) places (put_at batches i k.1)
joins_known ks k places batches i g e =
    let at : place k.0 (appearing (texts_of ks)) ≡ Some i = sym (g.at k.0) ∙ e in
    let texts : appearing (texts_of (ks ++ k ∷ [])) ≡ appearing (texts_of ks) = ap appearing (texts_more ks k) ∙ appears_known (texts_of ks) k.0 i at in
    record {
      at = λ q. g.at q ∙ ap (place q) (sym texts);
      batches = ap (λ bs. put_at bs i k.1) g.batches ∙ sym (put_known ks k (appearing (texts_of ks)) i (appearing_distinct (texts_of ks)) at) ∙ ap (map (of_text (ks ++ k ∷ []))) (sym texts);
    }

-- and one whose text is new is a batch behind the others
pub joins_new : (ks : List Keyed) (k : Keyed) (places next : List ℕ → Option ℕ) (batches : List (List Piece)) (n : ℕ) → IsGathered ks places batches → places k.0 ≡ None
    → ((q : List ℕ) → next q ≡ (if bytes_eq q k.0 then Some n else places q)) → n ≡ length batches → IsGathered (ks ++ k ∷ []) next (batches ++ (k.1 ∷ []) ∷ [])
joins_new ks k places next batches n g e step len =
    let none : place k.0 (appearing (texts_of ks)) ≡ None = sym (g.at k.0) ∙ e in
    let texts : appearing (texts_of (ks ++ k ∷ [])) ≡ appearing (texts_of ks) ++ k.0 ∷ [] = ap appearing (texts_more ks k) ∙ appears_new (texts_of ks) k.0 none in
    let size : n ≡ length (appearing (texts_of ks)) = len ∙ ap length g.batches ∙ length-map (appearing (texts_of ks)) (of_text ks) in
    let own : of_text (ks ++ k ∷ []) k.0 ≡ k.1 ∷ [] = of_text_same ks k k.0 ((bytes_eq-Decides k.0 k.0).1 refl) ∙ ap (λ ps. ps ++ k.1 ∷ []) (none_of ks k.0 none) in
    let all : map (of_text (ks ++ k ∷ [])) (appearing (texts_of ks) ++ k.0 ∷ []) ≡ by_text ks ++ (k.1 ∷ []) ∷ [] = map-append (of_text (ks ++ k ∷ [])) (appearing (texts_of ks)) (k.0 ∷ []) ∙ rw (others_stay ks k (appearing (texts_of ks)) none, own) refl in
    record {
      at = λ q. step q ∙ rw (size, g.at q) (sym (place_last q k.0 (appearing (texts_of ks)) none)) ∙ ap (place q) (sym texts);
      batches = ap (λ bs. bs ++ (k.1 ∷ []) ∷ []) g.batches ∙ sym all ∙ ap (map (of_text (ks ++ k ∷ []))) (sym texts);
    }

-- each place is one of a batch
pub gathered_within : (ks : List Keyed) (places : List ℕ → Option ℕ) (batches : List (List Piece)) → IsGathered ks places batches → (q : List ℕ) (i : ℕ) → places q ≡ Some i → i < length batches
gathered_within ks places batches g q i e =
    let b : i < length (appearing (texts_of ks)) = place_within q (appearing (texts_of ks)) i (sym (g.at q) ∙ e) in
    let len : length batches ≡ length (appearing (texts_of ks)) = ap length g.batches ∙ length-map (appearing (texts_of ks)) (of_text ks) in
    omega arith

-- a message more at the end of a batch of vectors
pub put_at_set : {V : Type 0} (f : V → List Piece) (bs : List V) (i : ℕ) (b v : V) (p : Piece) → i < length bs → b ≡ get_or bs i b → f v ≡ f b ++ p ∷ [] → map f (slice_set bs i v) ≡ put_at (map f bs) i p
put_at_set f [] i b v p l e h = absurd (omega arith)
put_at_set f (x ∷ xs) zero b v p l e h = both _ _ _ _ (h ∙ ap (λ c. f c ++ p ∷ []) e) refl
put_at_set f (x ∷ xs) (suc i) b v p l e h = ap (λ cs. f x ∷ cs) (put_at_set f xs i b v p (omega arith) e h)
