-- Data is a value exactly where it has no mark.
use Rattle.std.proofs.Common.{◌≡◌, ℕ, ℤ, List, [], ◌∷◌, ◌++◌, ◌||◌, Bool, true, false, cond, Option, Some, None, option_map, option_and_then, Ordering, Less, Equal, Greater, nat_cmp, IsSome, refl, sym, ap, ◌∙◌, rules}
use Rattle.std.specs.BTreeMap.{insert_entry}
use Rattle.std.specs.Cmp.Lexicographic.{slice_cmp}
use Rattle.std.specs.Ordering.{match_ordering}
use Rattle.serde_json.specs.Data.{Data, null, boolean, number, string, array, object, Items, no_items, item, Members, no_members, member, put}
use Rattle.serde_json.specs.Find.{as_i64}
use Rattle.serde_json.specs.Read.{read}
use Rattle.serde_json.specs.View.{items_of}
use Rattle.bt_value.specs.Marked.{mark, marked, marked_items, marked_members}
use Rattle.bt_value.specs.Plain.{has_bytes}
use Rattle.bt_value.specs.Reading.{reading, of_data, of_items, of_members}
use Rattle.bt_value.specs.declared.val.Val.{Val, Null, Bool as Boolean, Int, Str, Bytes, Arr, Obj, the_lemmas}
use Rattle.bt_value.proofs.Texts.{items_have_bytes, members_have_bytes}

-- nothing where there is a mark
abbrev pub unless : {A : Type 0} → Bool → A → Option A
unless b a = cond b None (Some a)

same : (v : Val) (b : Bool) → has_bytes v ≡ b → b ≡ false → Some v ≡ unless (has_bytes v) v
same v b e h = sym (ap (λ c. unless c v) (e ∙ h))

plain : (v : Val) → has_bytes v ≡ false → Some v ≡ unless (has_bytes v) v
plain v e = sym (ap (λ c. unless c v) e)

number_settled : (o : Option ℤ) → option_map Int o ≡ unless (has_bytes (mark o)) (mark o)
number_settled None = let is : has_bytes (Bytes []) ≡ true = search (rules, the_lemmas) in sym (ap (λ c. unless c (Bytes [])) is)
number_settled (Some n) = plain (Int n) (search (rules, the_lemmas))

list_settled : (b : Bool) (vs : List Val) → option_map Arr (unless b vs) ≡ unless b (Arr vs)
list_settled true vs = refl
list_settled false vs = refl

object_settled : (b : Bool) (ms : List (List ℕ × Val)) → option_map Obj (unless b ms) ≡ unless b (Obj ms)
object_settled true ms = refl
object_settled false ms = refl

item_settled : (b c : Bool) (v : Val) (vs : List Val) → option_and_then (λ w. option_map (λ ws. w ∷ ws) (unless c vs)) (unless b v) ≡ unless (b || c) (v ∷ vs)
item_settled true c v vs = refl
item_settled false true v vs = refl
item_settled false false v vs = refl

member_settled : (k : List ℕ) (b c : Bool) (v : Val) (ms : List (List ℕ × Val)) → option_and_then (λ w. option_map (λ ws. (k, w) ∷ ws) (unless c ms)) (unless b v) ≡ unless (b || c) ((k, v) ∷ ms)
member_settled k true c v ms = refl
member_settled k false true v ms = refl
member_settled k false false v ms = refl

mutual
  pub settled : (d : Data) → of_data d ≡ unless (has_bytes (marked d)) (marked d)
  settled null = plain Null (search (rules, the_lemmas))
  settled (boolean b) = plain (Boolean b) (search (rules, the_lemmas))
  settled (number n) = number_settled (as_i64 n)
  settled (string s) = plain (Str s) (search (rules, the_lemmas))
  settled (array ds) =
      let is : has_bytes (Arr (marked_items ds)) ≡ items_have_bytes (marked_items ds) = search (rules, the_lemmas) in
      ap (option_map Arr) (items_settled ds) ∙ list_settled _ _ ∙ sym (ap (λ b. unless b (Arr (marked_items ds))) is)
  settled (object ms) =
      let is : has_bytes (Obj (marked_members ms)) ≡ members_have_bytes (marked_members ms) = search (rules, the_lemmas) in
      ap (option_map Obj) (members_settled ms) ∙ object_settled _ _ ∙ sym (ap (λ b. unless b (Obj (marked_members ms))) is)

  items_settled : (ds : Items) → of_items ds ≡ unless (items_have_bytes (marked_items ds)) (marked_items ds)
  items_settled no_items = refl
  items_settled (item d ds) = rw (settled d, items_settled ds) (item_settled (has_bytes (marked d)) (items_have_bytes (marked_items ds)) (marked d) (marked_items ds))

  members_settled : (ms : Members) → of_members ms ≡ unless (members_have_bytes (marked_members ms)) (marked_members ms)
  members_settled no_members = refl
  members_settled (member k d ms) = rw (settled d, members_settled ms) (member_settled k (has_bytes (marked d)) (members_have_bytes (marked_members ms)) (marked d) (marked_members ms))

pub reading_settled : (b : List ℕ) (d : Data) (v : Val) → read b ≡ Some d → v ≡ marked d → reading b ≡ unless (has_bytes v) v
reading_settled b d v e is = ap (option_and_then of_data) e ∙ settled d ∙ sym (ap (λ w. unless (has_bytes w) w) is)

pub some_read : (b : List ℕ) (d : Data) → read b ≡ Some d → IsSome (read b)
some_read b d e = rw e refl

-- ---- one more item, and a member that is put in

pub marked_items-push : (ds : List Data) (d : Data) → marked_items (items_of (ds ++ d ∷ [])) ≡ marked_items (items_of ds) ++ marked d ∷ []
marked_items-push [] d = refl
marked_items-push (c ∷ ds) d = ap (λ vs. marked c ∷ vs) (marked_items-push ds d)

chosen : (o : Ordering) (a b c : Members) → marked_members (match_ordering o a b c) ≡ match_ordering o (marked_members a) (marked_members b) (marked_members c)
chosen Less a b c = refl
chosen Equal a b c = refl
chosen Greater a b c = refl

pub marked_members-put : (k : List ℕ) (d : Data) (ms : Members) → marked_members (put k d ms) ≡ insert_entry (slice_cmp nat_cmp) (marked_members ms) k (marked d)
marked_members-put k d no_members = refl
marked_members-put k d (member l c ms) =
    chosen (slice_cmp nat_cmp k l) (member k d (member l c ms)) (member l d ms) (member l c (put k d ms))
    ∙ ap (λ es. match_ordering (slice_cmp nat_cmp k l) ((k, marked d) ∷ (l, marked c) ∷ marked_members ms) ((l, marked d) ∷ marked_members ms) ((l, marked c) ∷ es)) (marked_members-put k d ms)
