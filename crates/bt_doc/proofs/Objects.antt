-- The members of JSON data put in one after another, as values.
use Rattle.std.proofs.Common.{◌≡◌, ℕ, List, [], ◌∷◌, Option, Some, None, option_map, option_and_then, Ordering, Less, Equal, Greater, nat_cmp, refl, sym, ap, ◌∙◌}
use Rattle.std.specs.BTreeMap.{insert_entry}
use Rattle.std.specs.Cmp.Lexicographic.{slice_cmp}
use Rattle.std.specs.Ordering.{match_ordering}
use Rattle.serde_json.specs.Data.{Data, Members, no_members, member, put}
use Rattle.bt_value.specs.Reading.{of_data, of_members}
use Rattle.bt_value.specs.declared.val.Val.{Val}

abbrev pick : {A : Type 0} → A → Option A → A
pick a None = a
pick a (Some b) = b

abbrev one : List ℕ → Option Val → Option (List (List ℕ × Val)) → Option (List (List ℕ × Val))
one k a b = option_and_then (λ v. option_map (λ vs. (k, v) ∷ vs) b) a

split_member : (k : List ℕ) (a : Option Val) (b : Option (List (List ℕ × Val))) (vs : List (List ℕ × Val)) → one k a b ≡ Some vs
    → (v : Val) × (ws : List (List ℕ × Val)) × (a ≡ Some v) × (b ≡ Some ws) × (vs ≡ (k, v) ∷ ws)
split_member k None b vs e = absurd (cc)
split_member k (Some v) None vs e = absurd (cc)
split_member k (Some v) (Some ws) vs e = (v, ws, refl, refl, ap (pick vs) (sym e))

one_some : (k : List ℕ) (a : Option Val) (b : Option (List (List ℕ × Val))) (v : Val) (ws : List (List ℕ × Val)) → a ≡ Some v → b ≡ Some ws → one k a b ≡ Some ((k, v) ∷ ws)
one_some k a b v ws e f = rw (e, f) refl

chosen : (o : Ordering) (a b c : Members) (x y z : List (List ℕ × Val)) → of_members a ≡ Some x → of_members b ≡ Some y → of_members c ≡ Some z → of_members (match_ordering o a b c) ≡ Some (match_ordering o x y z)
chosen Less a b c x y z p q r = p
chosen Equal a b c x y z p q r = q
chosen Greater a b c x y z p q r = r

-- an object of values to which a member is put
pub of_members-put : (ds : Members) (k : List ℕ) (d : Data) (vs : List (List ℕ × Val)) (v : Val) → of_members ds ≡ Some vs → of_data d ≡ Some v
    → of_members (put k d ds) ≡ Some (insert_entry (slice_cmp nat_cmp) vs k v)
of_members-put no_members k d vs v e f = one_some k (of_data d) (Some []) v [] f refl ∙ ap (λ o. Some (insert_entry (slice_cmp nat_cmp) (pick vs o) k v)) e
of_members-put (member l c ds) k d vs v e f =
    let s = split_member l (of_data c) (of_members ds) vs e in
    let later = of_members-put ds k d s.1 v s.3 f in
    chosen (slice_cmp nat_cmp k l) (member k d (member l c ds)) (member l d ds) (member l c (put k d ds)) ((k, v) ∷ (l, s.0) ∷ s.1) ((l, v) ∷ s.1) ((l, s.0) ∷ insert_entry (slice_cmp nat_cmp) s.1 k v)
    (one_some k (of_data d) (of_members (member l c ds)) v ((l, s.0) ∷ s.1) f (one_some l (of_data c) (of_members ds) s.0 s.1 s.2 s.3))
    (one_some l (of_data d) (of_members ds) v s.1 f s.3) (one_some l (of_data c) (of_members (put k d ds)) s.0 (insert_entry (slice_cmp nat_cmp) s.1 k v) s.2 later)
    ∙ ap (λ us. Some (insert_entry (slice_cmp nat_cmp) us k v)) (sym s.4)
