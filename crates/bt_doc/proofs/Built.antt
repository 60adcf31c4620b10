-- A value built from the JSON that stands at a place.
use Rattle.std.proofs.Common.{◌≡◌, ◌<◌, ◌≤◌, ◌+◌, ◌*◌, ◌++◌, ℕ, ℤ, suc, List, [], ◌∷◌, length, Bool, true, false, Option, Some, None, MatchOption, is_some, option_map, option_and_then, Result, Ok, Err, IfOk, nat_cmp, refl, sym, ap, ◌∙◌, subst, arith, append_assoc, append-nil}
use Rattle.std.specs.BTreeMap.{insert_entry}
use Rattle.std.specs.Cmp.Lexicographic.{slice_cmp}
use Rattle.json.specs.Token.{Token}
use Rattle.json.specs.Json as json
use Rattle.json.specs.Json.{Json, value}
use Rattle.json.specs.Tree.{json_tokens, depth, items_depth, members_depth}
use Rattle.json.specs.Find as found
use Rattle.json.specs.Find.{BeginsWith, HasValue, InItems, InMembers}
use Rattle.json.proofs.Printed.Trees.{value-json_tokens}
use Rattle.json.proofs.Unique.Spelling.{value-json_tokens_back}
use Rattle.serde_json.specs.Data.{Num, Data, number, array, object, Items, no_items, item, Members, no_members, member, put}
use Rattle.serde_json.specs.Find.{as_i64}
use Rattle.serde_json.specs.Read.{number_of, of_json, of_items, of_members}
use Rattle.bt_value.specs.Marked.{mark, marked, marked_items, marked_members}
use Rattle.bt_value.specs.Plain.{has_bytes}
use Rattle.bt_value.specs.Reading as spec
use Rattle.bt_value.specs.declared.val.Val.{Val, Null, Bool as Boolean, Int, Str, Bytes, Arr, Obj}
use Rattle.bt_value.proofs.Marks.{unless, settled, marked_members-put}
use Rattle.bt_doc.specs.Built.{json_here, first_of, items_in, members_in}
use Rattle.bt_doc.specs.Doc.{begun, IsBegun, here, of_tree}
use Rattle.bt_doc.proofs.Docs.{begun_tree, begun_here, first_is}

abbrev pick : {A : Type 0} → A → Option A → A
pick a None = a
pick a (Some b) = b

inj : {A : Type 0} (a b : A) → Some a ≡ Some b → a ≡ b
inj a b e = ap (pick a) e

-- ---- the JSON at a place

pub here_is : (ts : List Token) (j : Json) → BeginsWith ts j → json_here ts ≡ j
here_is ts j h = ap first_of (first_is ts j h)

pub begins_here : (ts : List Token) → HasValue ts → BeginsWith ts (json_here ts)
begins_here ts h = subst (BeginsWith ts) (sym (here_is ts h.0 h.1)) h.1

pub begun_has : (ts : List Token) → IsBegun ts → HasValue ts
begun_has ts h = let t = begun_tree ts (here ts) (begun_here ts h) in (t.0, t.1)

-- ---- one value

pub text_built : (j : Json) (s : List ℕ) (d : Data) → Some s ≡ found.as_str j → of_json j ≡ Some d → Str s ≡ marked d
text_built json.null s d is e = absurd (cc)
text_built (json.boolean b) s d is e = absurd (cc)
text_built (json.number t) s d is e = absurd (cc)
text_built (json.string t) s d is e = ap Str (inj s t is) ∙ ap marked (inj (Data.string t) d e)
text_built (json.array js) s d is e = absurd (cc)
text_built (json.object ms) s d is e = absurd (cc)

number_is : (o : Option Num) (d : Data) → option_map number o ≡ Some d → mark (option_and_then as_i64 o) ≡ marked d
number_is None d e = absurd (cc)
number_is (Some x) d e = ap marked (inj (number x) d e)

pub number_built : (j : Json) (s : List ℕ) (d : Data) → Some s ≡ found.as_number j → of_json j ≡ Some d → mark (option_and_then as_i64 (number_of s)) ≡ marked d
number_built json.null s d is e = absurd (cc)
number_built (json.boolean b) s d is e = absurd (cc)
number_built (json.number t) s d is e = ap (λ u. mark (option_and_then as_i64 (number_of u))) (inj s t is) ∙ number_is (number_of t) d e
number_built (json.string t) s d is e = absurd (cc)
number_built (json.array js) s d is e = absurd (cc)
number_built (json.object ms) s d is e = absurd (cc)

pub bool_built : (j : Json) (b : Bool) (d : Data) → Some b ≡ found.as_bool j → of_json j ≡ Some d → Boolean b ≡ marked d
bool_built json.null b d is e = absurd (cc)
bool_built (json.boolean c) b d is e = ap Boolean (inj b c is) ∙ ap marked (inj (Data.boolean c) d e)
bool_built (json.number t) b d is e = absurd (cc)
bool_built (json.string t) b d is e = absurd (cc)
bool_built (json.array js) b d is e = absurd (cc)
bool_built (json.object ms) b d is e = absurd (cc)

array_is : (o : Option Items) (vs : List Val) (d : Data) → ((ds : Items) → o ≡ Some ds → vs ≡ marked_items ds) → option_map array o ≡ Some d → Arr vs ≡ marked d
array_is None vs d h e = absurd (cc)
array_is (Some ds) vs d h e = ap Arr (h ds refl) ∙ ap marked (inj (array ds) d e)

pub array_built : (j : Json) (js : json.Items) (vs : List Val) (d : Data) → j ≡ json.array js → ((ds : Items) → of_items (items_in j) ≡ Some ds → vs ≡ marked_items ds) → of_json j ≡ Some d → Arr vs ≡ marked d
array_built j js vs d is h e = array_is (of_items js) vs d (λ ds f. h ds (ap (λ i. of_items (items_in i)) is ∙ f)) (sym (ap of_json is) ∙ e)

object_is : (o : Option Members) (vs : List (List ℕ × Val)) (d : Data) → ((ds : Members) → o ≡ Some ds → vs ≡ marked_members ds) → option_map object o ≡ Some d → Obj vs ≡ marked d
object_is None vs d h e = absurd (cc)
object_is (Some ds) vs d h e = ap Obj (h ds refl) ∙ ap marked (inj (object ds) d e)

pub object_built : (j : Json) (ms : json.Members) (vs : List (List ℕ × Val)) (d : Data) → j ≡ json.object ms → ((ds : Members) → of_members (members_in j) no_members ≡ Some ds → vs ≡ marked_members ds)
    → of_json j ≡ Some d → Obj vs ≡ marked d
object_built j ms vs d is h e = object_is (of_members ms no_members) vs d (λ ds f. h ds (ap (λ i. of_members (members_in i) no_members) is ∙ f)) (sym (ap of_json is) ∙ e)

pub null_built : (j : Json) (d : Data) → None ≡ found.as_str j → None ≡ found.as_number j → None ≡ found.as_bool j → found.as_array j ≡ None → found.as_object j ≡ None → of_json j ≡ Some d → Null ≡ marked d
null_built json.null d s n b a o e = ap marked (inj Data.null d e)
null_built (json.boolean c) d s n b a o e = absurd (cc)
null_built (json.number t) d s n b a o e = absurd (cc)
null_built (json.string t) d s n b a o e = absurd (cc)
null_built (json.array js) d s n b a o e = absurd (cc)
null_built (json.object ms) d s n b a o e = absurd (cc)

-- ---- what a look at items or members tells

pub has_items : (r : Option (List Token)) (j : Json) → MatchOption r (found.as_array j ≡ None) (λ rest. (js : json.Items) × (j ≡ json.array js) × InItems rest js) → is_some r ≡ true → (js : json.Items) × (j ≡ json.array js)
has_items None j h e = absurd (cc)
has_items (Some rest) j h e = (h.0, h.1)

pub no_array : (r : Option (List Token)) (j : Json) → MatchOption r (found.as_array j ≡ None) (λ rest. (js : json.Items) × (j ≡ json.array js) × InItems rest js) → is_some r ≡ false → found.as_array j ≡ None
no_array None j h e = h
no_array (Some rest) j h e = absurd (cc)

pub has_members : (r : Option (List Token)) (j : Json) → MatchOption r (found.as_object j ≡ None) (λ rest. (ms : json.Members) × (j ≡ json.object ms) × InMembers rest ms) → is_some r ≡ true → (ms : json.Members) × (j ≡ json.object ms)
has_members None j h e = absurd (cc)
has_members (Some rest) j h e = (h.0, h.1)

pub no_object : (r : Option (List Token)) (j : Json) → MatchOption r (found.as_object j ≡ None) (λ rest. (ms : json.Members) × (j ≡ json.object ms) × InMembers rest ms) → is_some r ≡ false → found.as_object j ≡ None
no_object None j h e = h
no_object (Some rest) j h e = absurd (cc)

-- what holds no items has none
pub without_items : (j : Json) (ds : Items) → found.as_array j ≡ None → of_items (items_in j) ≡ Some ds → [] ≡ marked_items ds
without_items json.null ds n e = ap marked_items (inj no_items ds e)
without_items (json.boolean b) ds n e = ap marked_items (inj no_items ds e)
without_items (json.number s) ds n e = ap marked_items (inj no_items ds e)
without_items (json.string s) ds n e = ap marked_items (inj no_items ds e)
without_items (json.array js) ds n e = absurd (cc)
without_items (json.object ms) ds n e = ap marked_items (inj no_items ds e)

pub without_members : (j : Json) (ds : Members) → found.as_object j ≡ None → of_members (members_in j) no_members ≡ Some ds → [] ≡ marked_members ds
without_members json.null ds n e = ap marked_members (inj no_members ds e)
without_members (json.boolean b) ds n e = ap marked_members (inj no_members ds e)
without_members (json.number s) ds n e = ap marked_members (inj no_members ds e)
without_members (json.string s) ds n e = ap marked_members (inj no_members ds e)
without_members (json.array js) ds n e = ap marked_members (inj no_members ds e)
without_members (json.object ms) ds n e = absurd (cc)

-- what is so of an equal value, if all went well
pub if_ok : {A E : Type 0} (r : Result A E) (a : A) (P : A → Type 0) → IfOk r (λ b. b ≡ a) → P a → IfOk r P
if_ok (Ok b) a P h p = subst P (sym h) p
if_ok (Err e) a P h p = tt

-- ---- one more item or member

one_read : (a : Option Data) (b : Option Items) (ds : Items) → option_and_then (λ d. option_map (item d) b) a ≡ Some ds → (d : Data) × (es : Items) × (a ≡ Some d) × (b ≡ Some es) × (item d es ≡ ds)
one_read None b ds e = absurd (cc)
one_read (Some d) None ds e = absurd (cc)
one_read (Some d) (Some es) ds e = (d, es, refl, refl, inj (item d es) ds e)

pub item_built : (done new : List Val) (all : List Val) (j : Json) (js : json.Items) (v : Val) (rest : Items) → of_items (json.item j js) ≡ Some rest → all ≡ done ++ marked_items rest
    → ((d : Data) → of_json j ≡ Some d → v ≡ marked d) → new ≡ done ++ v ∷ [] → (left : Items) × (of_items js ≡ Some left) × (all ≡ new ++ marked_items left)
item_built done new all j js v rest e is h pushed =
    let r = one_read (of_json j) (of_items js) rest e in (
      r.1,
      r.3,
      is ∙ ap (λ ds. done ++ marked_items ds) (sym r.4) ∙ ap (λ w. done ++ w ∷ marked_items r.1) (sym (h r.0 r.2)) ∙ sym (append_assoc done (v ∷ []) (marked_items r.1))
          ∙ ap (λ l. l ++ marked_items r.1) (sym pushed),
    )

split_data : (f : Data → Option Members) (o : Option Data) (a : Members) → option_and_then f o ≡ Some a → (d : Data) × (o ≡ Some d) × (f d ≡ Some a)
split_data f None a e = absurd (cc)
split_data f (Some d) a e = (d, refl, e)

pub member_built : (old new : List (List ℕ × Val)) (k key : List ℕ) (j : Json) (ms : json.Members) (v : Val) (done total : Members) → of_members (json.member k j ms) done ≡ Some total → old ≡ marked_members done
    → ((d : Data) → of_json j ≡ Some d → v ≡ marked d) → key ≡ k → new ≡ insert_entry (slice_cmp nat_cmp) old key v → (more : Members) × (of_members ms more ≡ Some total) × (new ≡ marked_members more)
member_built old new k key j ms v done total e is h named made =
    let s = split_data (λ d. of_members ms (put k d done)) (of_json j) total e in (
      put k s.0 done,
      s.2,
      made ∙ ap (λ es. insert_entry (slice_cmp nat_cmp) es key v) is ∙ ap (λ l. insert_entry (slice_cmp nat_cmp) (marked_members done) l v) named
          ∙ ap (insert_entry (slice_cmp nat_cmp) (marked_members done) k) (h s.0 s.1) ∙ sym (marked_members-put k s.0 done),
    )

-- no item and no member is left

pub items_over : (js : json.Items) (rest : Items) (done all : List Val) → js ≡ json.no_items → of_items js ≡ Some rest → all ≡ done ++ marked_items rest → done ≡ all
items_over js rest done all none e is =
    let last = inj no_items rest (sym (ap of_items none) ∙ e) in
    sym (append-nil done) ∙ ap (λ r. done ++ marked_items r) last ∙ sym is

pub members_over : (ms : json.Members) (done total : Members) → ms ≡ json.no_members → of_members ms done ≡ Some total → done ≡ total
members_over ms done total none e = inj done total (sym (ap (λ m. of_members m done) none) ∙ e)

-- ---- the whole

unmarked : (b : Bool) (m w : Val) → unless b m ≡ Some w → m ≡ w
unmarked true m w e = absurd (cc)
unmarked false m w e = inj m w e

data_at : (o : Option Data) (v : Val) → option_and_then spec.of_data o ≡ Some v → (d : Data) × (o ≡ Some d) × (spec.of_data d ≡ Some v)
data_at None v e = absurd (cc)
data_at (Some d) v e = (d, refl, e)

pub value_built : (ts : List Token) (v : Val) → IsBegun ts → ((d : Data) → of_json (json_here ts) ≡ Some d → v ≡ marked d) → v ≡ here ts
value_built ts v h built =
    let t = begun_tree ts (here ts) (begun_here ts h) in
    let d = data_at (of_json t.0) (here ts) t.2 in
    built d.0 (ap of_json (here_is ts t.0 t.1) ∙ d.1) ∙ unmarked (has_bytes (marked d.0)) (marked d.0) (here ts) (sym (settled d.0) ∙ d.2)

pub if_built : {E : Type 0} (ts : List Token) (r : Result Val E) → IsBegun ts → IfOk r (λ v. (d : Data) → of_json (json_here ts) ≡ Some d → v ≡ marked d) → IfOk r (λ v. v ≡ here ts)
if_built ts (Ok v) h built = value_built ts v h built
if_built ts (Err e) h built = tt
