-- Members put in one after another, directly or by way of a map.
use Rattle.std.proofs.Common.{◌≡◌, ℕ, List, [], ◌∷◌, ◌++◌, map, String, Global, Ordering, Less, Equal, Greater, string_bytes, string_cmp, nat_cmp, refl, sym, ap, ◌∙◌, subst, append_assoc, append-nil}
use Rattle.std.proofs.lemmas.Cmp.{nat_list_cmp_total}
use Rattle.std.specs.BTreeMap.{insert_entry}
use Rattle.std.specs.Cmp.Lexicographic.{slice_cmp}
use Rattle.std.specs.List.{AllByRecursion}
use Rattle.std.specs.List.Sorted.{IsStrictlySortedBy}
use Rattle.std.specs.Map.{keys_of}
use Rattle.std.specs.Ordering.{match_ordering, ordering_reverse}
use Rattle.bt_value.specs.Keys.{Rising, put_all}
use Rattle.bt_value.proofs.Putting.{put_by}

abbrev by_bytes : List ℕ → List ℕ → Ordering
by_bytes = slice_cmp nat_cmp

-- an entry of a map, by the bytes of its key
abbrev pub named : {V : Type 0} → String Global × V → List ℕ × V
named e = (string_bytes e.0, e.1)

module _ {V : Type 0} where
  -- one more is put in
  pub put_all-push : (es ps : List (List ℕ × V)) (p : List ℕ × V) → put_all es (ps ++ p ∷ []) ≡ insert_entry by_bytes (put_all es ps) p.0 p.1
  put_all-push es [] p = refl
  put_all-push es (q ∷ ps) p = put_all-push (insert_entry by_bytes es q.0 q.1) ps p

  -- ---- keys that rise

  all_first : (P : List ℕ → Type 0) (xs ys : List (List ℕ × V)) → AllByRecursion P (keys_of (xs ++ ys)) → AllByRecursion P (keys_of xs)
  all_first P [] ys a = tt
  all_first P (x ∷ xs) ys a = (a.0, all_first P xs ys a.1)

  pub rising_first : (xs ys : List (List ℕ × V)) → Rising (xs ++ ys) → Rising xs
  unfolding IsStrictlySortedBy
  rising_first [] ys r = tt
  rising_first (x ∷ xs) ys r = (all_first (λ y. by_bytes x.0 y ≡ Less) xs ys r.0, rising_first xs ys r.1)

  of_last : (P : List ℕ → Type 0) (xs : List (List ℕ × V)) (p : List ℕ × V) → AllByRecursion P (keys_of (xs ++ p ∷ [])) → P p.0
  of_last P [] p a = a.0
  of_last P (x ∷ xs) p a = of_last P xs p a.1

  -- a key above all that are there goes last
  put-last : (es : List (List ℕ × V)) (p : List ℕ × V) → Rising (es ++ p ∷ []) → insert_entry by_bytes es p.0 p.1 ≡ es ++ p ∷ []
  unfolding IsStrictlySortedBy
  put-last [] p r = refl
  put-last (e ∷ es) p r =
      let above : by_bytes p.0 e.0 ≡ Greater = nat_list_cmp_total.antisymm p.0 e.0 ∙ ap ordering_reverse (of_last (λ y. by_bytes e.0 y ≡ Less) es p r.0) in
      ap (put_by p.0 p.1 e es) above ∙ ap (λ l. e ∷ l) (put-last es p r.1)

  one_further : (done es : List (List ℕ × V)) (p : List ℕ × V) → done ++ p ∷ es ≡ (done ++ p ∷ []) ++ es
  one_further done es p = sym (append_assoc done (p ∷ []) es)

  put_rising : (done es : List (List ℕ × V)) → Rising (done ++ es) → put_all done es ≡ done ++ es
  put_rising done [] r = sym (append-nil done)
  put_rising done (p ∷ es) r =
      let all = subst Rising (one_further done es p) r in
      ap (λ l. put_all l es) (put-last done p (rising_first (done ++ p ∷ []) es all)) ∙ put_rising (done ++ p ∷ []) es all ∙ sym (one_further done es p)

  -- members put in one after another are the members
  pub put_all-rising : (es : List (List ℕ × V)) → Rising es → put_all [] es ≡ es
  put_all-rising es r = put_rising [] es r

  -- ---- a map's entries

  chosen : (o : Ordering) (a b c : List (String Global × V)) → map named (match_ordering o a b c) ≡ match_ordering o (map named a) (map named b) (map named c)
  chosen Less a b c = refl
  chosen Equal a b c = refl
  chosen Greater a b c = refl

  pub named-put : (es : List (String Global × V)) (k : String Global) (v : V) → map named (insert_entry string_cmp es k v) ≡ insert_entry by_bytes (map named es) (string_bytes k) v
  named-put [] k v = refl
  named-put (e ∷ es) k v =
      chosen (string_cmp k e.0) ((k, v) ∷ e ∷ es) ((e.0, v) ∷ es) (e ∷ insert_entry string_cmp es k v)
      ∙ ap (λ l. match_ordering (string_cmp k e.0) ((string_bytes k, v) ∷ named e ∷ map named es) ((string_bytes e.0, v) ∷ map named es) (named e ∷ l)) (named-put es k v)

  all_named : (k : String Global) (es : List (String Global × V)) → AllByRecursion (λ y. string_cmp k y ≡ Less) (keys_of es) → AllByRecursion (λ y. by_bytes (string_bytes k) y ≡ Less) (keys_of (map named es))
  all_named k [] a = tt
  all_named k (e ∷ es) a = (a.0, all_named k es a.1)

  rising_named : (es : List (String Global × V)) → IsStrictlySortedBy string_cmp (keys_of es) → Rising (map named es)
  unfolding IsStrictlySortedBy
  rising_named [] r = tt
  rising_named (e ∷ es) r = (all_named e.0 es r.0, rising_named es r.1)

  pub named-push : (done : List (String Global × V)) (e : String Global × V) → map named (done ++ e ∷ []) ≡ map named done ++ named e ∷ []
  named-push [] e = refl
  named-push (x ∷ done) e = ap (λ l. named x ∷ l) (named-push done e)

  first_named : (xs ys : List (String Global × V)) → map named (xs ++ ys) ≡ map named xs ++ map named ys
  first_named [] ys = refl
  first_named (x ∷ xs) ys = ap (λ l. named x ∷ l) (first_named xs ys)

  -- the entries so far and one more, of a map
  pub rising_so_far : (done : List (String Global × V)) (e : String Global × V) (left : List (String Global × V)) → IsStrictlySortedBy string_cmp (keys_of (done ++ e ∷ left)) → Rising (map named done ++ named e ∷ [])
  rising_so_far done e left r =
      let all = subst Rising (first_named done (e ∷ left)) (rising_named (done ++ e ∷ left) r) in
      rising_first (map named done ++ named e ∷ []) (map named left) (subst Rising (one_further (map named done) (map named left) (named e)) all)
