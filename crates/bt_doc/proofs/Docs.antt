-- Looks into a list of tokens are looks into the value that it begins with.
use Rattle.std.proofs.Common.{◌≡◌, ◌<◌, ◌≤◌, ◌+◌, ◌-◌, ℕ, ℤ, zero, suc, List, [], ◌∷◌, ◌++◌, length, Option, Some, None, IsSome, option_map, option_and_then, Ordering, Less, Equal, Greater, is_eq, cond, Bool, true, false, bytes_eq, nat_cmp, true≢false, refl, sym, ap, ◌∙◌, subst, arith, rules, append_assoc, append-nil, length-append, slice_get}
use Rattle.std.proofs.lemmas.Map.Text.{is_eq-slice_cmp}
use Rattle.std.proofs.lemmas.Slice.Eq.{bytes_eq-Decides}
use Rattle.std.specs.Cmp.Lexicographic.{slice_cmp}
use Rattle.std.specs.Ordering.{match_ordering}
use Rattle.std.specs.BTreeMap.{insert_entry}
use Rattle.json.specs.Token.{Token}
use Rattle.json.specs.Lex.{tokens}
use Rattle.json.specs.Json as json
use Rattle.json.specs.Json.{Json, value, document}
use Rattle.json.specs.Tree.{json_tokens, items_tokens, members_tokens, depth, items_depth, members_depth}
use Rattle.json.specs.Find as found
use Rattle.json.specs.Find.{BeginsWith, Finds}
use Rattle.json.proofs.Nesting.{value-depth}
use Rattle.json.proofs.Printed.Trees.{value-json_tokens}
use Rattle.json.proofs.Unique.Spelling.{value-json_tokens_back, tokens-document}
use Rattle.serde_json.specs.Data.{Num, Data, number, array, object, Items, no_items, item, Members, no_members, member, put}
use Rattle.serde_json.specs.Find.{as_i64, get_member}
use Rattle.serde_json.specs.Read.{read, number_of, of_json, of_items, of_members}
use Rattle.serde_json.proofs.Views.{get_member-put, get_member-put_other}
use Rattle.bt_value.specs.Keys.{find}
use Rattle.bt_value.specs.Paths.{or_null}
use Rattle.bt_value.specs.Reading as spec
use Rattle.bt_value.specs.Reading.{reading, of_data}
use Rattle.bt_doc.specs.Doc.{of_tree, begun, IsBegun, here, Settled, text_in, number_in, bool_in, member_in, item_in}
use Rattle.bt_value.specs.declared.val.Val.{Val, Null, Bool as Boolean, Int, Str, Arr, Obj, out-Val, the_lemmas}
use Rattle.bt_value.specs.declared.val.Val.TheOpen.{Val-F}
use Rattle.bt_doc.proofs.Objects.{of_members-put}
use Rattle.bt_value.proofs.Walked.{whole}

-- ---- the value at a place

mutual
  depth_short : (j : Json) → depth j ≤ length (json_tokens j)
  depth_short json.null = omega arith
  depth_short (json.boolean b) = omega arith
  depth_short (json.number s) = omega arith
  depth_short (json.string s) = omega arith
  depth_short (json.array js) = omega (arith, items_short js)
  depth_short (json.object ms) = omega (arith, members_short ms)

  items_short : (js : json.Items) → items_depth js ≤ length (items_tokens js)
  items_short json.no_items = omega arith
  items_short (json.item j js) = omega (arith, depth_short j, items_short js, length-append (json_tokens j) (items_tokens js))

  members_short : (ms : json.Members) → members_depth ms ≤ length (members_tokens ms)
  members_short json.no_members = omega arith
  members_short (json.member k j ms) = omega (arith, depth_short j, members_short ms, length-append (json_tokens j) (members_tokens ms))

pub first_is : (ts : List Token) (j : Json) → (h : BeginsWith ts j) → value (length ts) ts ≡ Some (j, h.1)
first_is ts j h =
    let back : ts ≡ json_tokens j ++ h.1 = value-json_tokens_back h.0 ts h.1 j h.2 in
    let low : depth j ≤ length ts = omega (arith, depth_short j, length-append (json_tokens j) h.1, ap length back) in
    ap (value (length ts)) back ∙ value-json_tokens j (length ts) h.1 low

pub begun_is : (ts : List Token) (j : Json) → BeginsWith ts j → begun ts ≡ of_tree j
begun_is ts j h = ap (option_and_then (λ p. of_tree p.0)) (first_is ts j h)

tree_at : (ts : List Token) (v : Val) (o : Option (Json × List Token)) → value (length ts) ts ≡ o → option_and_then (λ p. of_tree p.0) o ≡ Some v → (j : Json) × BeginsWith ts j × (of_tree j ≡ Some v)
tree_at ts v None e h = absurd (cc)
tree_at ts v (Some p) e h = (p.0, (length ts, p.1, e), h)

pub begun_tree : (ts : List Token) (v : Val) → begun ts ≡ Some v → (j : Json) × BeginsWith ts j × (of_tree j ≡ Some v)
begun_tree ts v h = tree_at ts v _ refl h

some_here : (o : Option Val) → IsSome o → o ≡ Some (or_null o)
some_here None h = absurd (true≢false (sym h))
some_here (Some v) h = refl

pub begun_here : (ts : List Token) → IsBegun ts → begun ts ≡ Some (here ts)
begun_here ts h = some_here (begun ts) h

-- ---- what a value is, one level deep

data_at : (o : Option Data) (v : Val) → option_and_then of_data o ≡ Some v → (d : Data) × (o ≡ Some d) × (of_data d ≡ Some v)
data_at None v e = absurd (cc)
data_at (Some d) v e = (d, refl, e)

abbrev pick : {A : Type 0} → A → Option A → A
pick a None = a
pick a (Some b) = b

inj : {A : Type 0} (a b : A) → Some a ≡ Some b → a ≡ b
inj a b e = ap (pick a) e

out-Null : out-Val Null ≡ Val-F.Null
out-Null = search (rules, the_lemmas)

out-Bool : (b : Bool) → out-Val (Boolean b) ≡ Val-F.Bool b
out-Bool b = search (rules, the_lemmas)

out-Int : (n : ℤ) → out-Val (Int n) ≡ Val-F.Int n
out-Int n = search (rules, the_lemmas)

out-Str : (s : List ℕ) → out-Val (Str s) ≡ Val-F.Str s
out-Str s = search (rules, the_lemmas)

out-Arr : (vs : List Val) → out-Val (Arr vs) ≡ Val-F.Arr vs
out-Arr vs = search (rules, the_lemmas)

out-Obj : (ms : List (List ℕ × Val)) → out-Val (Obj ms) ≡ Val-F.Obj ms
out-Obj ms = search (rules, the_lemmas)

abbrev pub Shape : Json → Val-F Val → Type 0
Shape json.null y = y ≡ Val-F.Null
Shape (json.boolean b) y = y ≡ Val-F.Bool b
Shape (json.number s) y = (n : ℤ) × (option_and_then as_i64 (number_of s) ≡ Some n) × (y ≡ Val-F.Int n)
Shape (json.string s) y = y ≡ Val-F.Str s
Shape (json.array js) y = (ds : Items) × (vs : List Val) × (of_items js ≡ Some ds) × (spec.of_items ds ≡ Some vs) × (y ≡ Val-F.Arr vs)
Shape (json.object ms) y = (ds : Members) × (vs : List (List ℕ × Val)) × (of_members ms no_members ≡ Some ds) × (spec.of_members ds ≡ Some vs) × (y ≡ Val-F.Obj vs)

number_shape : (o : Option Num) (v : Val) → option_and_then of_data (option_map number o) ≡ Some v → (n : ℤ) × (option_and_then as_i64 o ≡ Some n) × (out-Val v ≡ Val-F.Int n)
number_shape None v e = absurd (cc)
number_shape (Some x) v e = go (as_i64 x) refl e
  where
    go : (i : Option ℤ) → as_i64 x ≡ i → option_map Int i ≡ Some v → (n : ℤ) × (as_i64 x ≡ Some n) × (out-Val v ≡ Val-F.Int n)
    go None is h = absurd (cc)
    go (Some n) is h = (n, is, ap out-Val (sym (inj (Int n) v h)) ∙ out-Int n)

array_shape : (o : Option Items) (v : Val) → option_and_then of_data (option_map array o) ≡ Some v → (ds : Items) × (vs : List Val) × (o ≡ Some ds) × (spec.of_items ds ≡ Some vs) × (out-Val v ≡ Val-F.Arr vs)
array_shape None v e = absurd (cc)
array_shape (Some ds) v e = go (spec.of_items ds) refl e
  where
    go : (i : Option (List Val)) → spec.of_items ds ≡ i → option_map Arr i ≡ Some v → (es : Items) × (vs : List Val) × (Some ds ≡ Some es) × (spec.of_items es ≡ Some vs) × (out-Val v ≡ Val-F.Arr vs)
    go None is h = absurd (cc)
    go (Some vs) is h = (ds, vs, refl, is, ap out-Val (sym (inj (Arr vs) v h)) ∙ out-Arr vs)

object_shape : (o : Option Members) (v : Val) → option_and_then of_data (option_map object o) ≡ Some v → (ds : Members) × (vs : List (List ℕ × Val)) × (o ≡ Some ds) × (spec.of_members ds ≡ Some vs) × (out-Val v ≡ Val-F.Obj vs)
object_shape None v e = absurd (cc)
object_shape (Some ds) v e = go (spec.of_members ds) refl e
  where
    go : (i : Option (List (List ℕ × Val))) → spec.of_members ds ≡ i → option_map Obj i ≡ Some v → (es : Members) × (vs : List (List ℕ × Val)) × (Some ds ≡ Some es) × (spec.of_members es ≡ Some vs) × (out-Val v ≡ Val-F.Obj vs)
    go None is h = absurd (cc)
    go (Some vs) is h = (ds, vs, refl, is, ap out-Val (sym (inj (Obj vs) v h)) ∙ out-Obj vs)

pub shape : (j : Json) (v : Val) → of_tree j ≡ Some v → Shape j (out-Val v)
shape json.null v e = ap out-Val (sym (inj Null v e)) ∙ out-Null
shape (json.boolean b) v e = ap out-Val (sym (inj (Boolean b) v e)) ∙ out-Bool b
shape (json.number s) v e = number_shape (number_of s) v e
shape (json.string s) v e = ap out-Val (sym (inj (Str s) v e)) ∙ out-Str s
shape (json.array js) v e = array_shape (of_items js) v e
shape (json.object ms) v e = object_shape (of_members ms no_members) v e

pub text_at : (j : Json) (y : Val-F Val) → Shape j y → found.as_str j ≡ text_in y
text_at json.null y h = ap text_in (sym h)
text_at (json.boolean b) y h = ap text_in (sym h)
text_at (json.number s) y h = ap text_in (sym h.2)
text_at (json.string s) y h = ap text_in (sym h)
text_at (json.array js) y h = ap text_in (sym h.4)
text_at (json.object ms) y h = ap text_in (sym h.4)

pub bool_at : (j : Json) (y : Val-F Val) → Shape j y → found.as_bool j ≡ bool_in y
bool_at json.null y h = ap bool_in (sym h)
bool_at (json.boolean b) y h = ap bool_in (sym h)
bool_at (json.number s) y h = ap bool_in (sym h.2)
bool_at (json.string s) y h = ap bool_in (sym h)
bool_at (json.array js) y h = ap bool_in (sym h.4)
bool_at (json.object ms) y h = ap bool_in (sym h.4)

pub number_at : (j : Json) (y : Val-F Val) → Shape j y → option_and_then (λ s. option_and_then as_i64 (number_of s)) (found.as_number j) ≡ number_in y
number_at json.null y h = ap number_in (sym h)
number_at (json.boolean b) y h = ap number_in (sym h)
number_at (json.number s) y h = h.1 ∙ ap number_in (sym h.2)
number_at (json.string s) y h = ap number_in (sym h)
number_at (json.array js) y h = ap number_in (sym h.4)
number_at (json.object ms) y h = ap number_in (sym h.4)

-- ---- a member, the last of its name

-- the value of the JSON that was found, if any was
abbrev pub Same : Option Json → Option Val → Type 0
Same None m = m ≡ None
Same (Some i) m = (w : Val) × (of_tree i ≡ Some w) × (m ≡ Some w)

abbrev Later : Option Json → Option Data → Option Data → Type 0
Later None base m = m ≡ base
Later (Some i) base m = (d : Data) × (of_json i ≡ Some d) × (m ≡ Some d)

put_at : (b : Bool) (k l : List ℕ) (d : Data) (ds : Members) → bytes_eq l k ≡ b → get_member k (put l d ds) ≡ cond b (Some d) (get_member k ds)
put_at true k l d ds e = let same : l ≡ k = (bytes_eq-Decides l k).0 e in subst (λ m. get_member m (put l d ds) ≡ Some d) same (get_member-put l d ds)
put_at false k l d ds e = get_member-put_other k l d ds (λ same. true≢false (sym ((bytes_eq-Decides l k).1 (sym same)) ∙ e))

one_later : (a : Option Json) (b : Bool) (j : Json) (d : Data) (base m : Option Data) → of_json j ≡ Some d → Later a (cond b (Some d) base) m → Later (found.later_or a (cond b (Some j) None)) base m
one_later None true j d base m e h = (d, e, h)
one_later None false j d base m e h = h
one_later (Some i) b j d base m e h = h

split_data : {A : Type 0} (f : Data → Option A) (o : Option Data) (a : A) → option_and_then f o ≡ Some a → (d : Data) × (o ≡ Some d) × (f d ≡ Some a)
split_data f None a e = absurd (cc)
split_data f (Some d) a e = (d, refl, e)

read_found : (ms : json.Members) (ds es : Members) (k : List ℕ) → of_members ms ds ≡ Some es → Later (found.get_member k ms) (get_member k ds) (get_member k es)
read_found json.no_members ds es k e = ap (get_member k) (sym (inj ds es e))
read_found (json.member l j ms) ds es k e =
    let s = split_data (λ d. of_members ms (put l d ds)) (of_json j) es e in
    let later = read_found ms (put l s.0 ds) es k s.2 in
    one_later (found.get_member k ms) (bytes_eq l k) j s.0 (get_member k ds) (get_member k es) s.1
    (subst (λ base. Later (found.get_member k ms) base (get_member k es)) (put_at (bytes_eq l k) k l s.0 ds refl) later)

abbrev Given : Option Data → Option Val → Type 0
Given None m = m ≡ None
Given (Some d) m = (w : Val) × (of_data d ≡ Some w) × (m ≡ Some w)

given_at : (o : Ordering) (c : Data) (v : Val) (x : Option Data) (y : Option Val) → of_data c ≡ Some v → Given x y → Given (match_ordering o x (Some c) x) (cond (is_eq o) (Some v) y)
given_at Less c v x y e h = h
given_at Equal c v x y e h = (v, e, refl)
given_at Greater c v x y e h = h

one_member : (l : List ℕ) (a : Option Val) (b : Option (List (List ℕ × Val))) (vs : List (List ℕ × Val)) → option_and_then (λ v. option_map (λ ws. (l, v) ∷ ws) b) a ≡ Some vs
    → (v : Val) × (ws : List (List ℕ × Val)) × (a ≡ Some v) × (b ≡ Some ws) × (vs ≡ (l, v) ∷ ws)
one_member l None b vs e = absurd (cc)
one_member l (Some v) None vs e = absurd (cc)
one_member l (Some v) (Some ws) vs e = (v, ws, refl, refl, sym (inj ((l, v) ∷ ws) vs e))

find_given : (ds : Members) (vs : List (List ℕ × Val)) (k : List ℕ) → spec.of_members ds ≡ Some vs → Given (get_member k ds) (find k vs)
find_given no_members vs k e = ap (find k) (sym (inj [] vs e))
find_given (member l c ds) vs k e =
    let s = one_member l (of_data c) (spec.of_members ds) vs e in
    let rest = find_given ds s.1 k s.3 in
    subst (λ ws. Given (get_member k (member l c ds)) (find k ws)) (sym s.4)
    (subst (λ b. Given (get_member k (member l c ds)) (cond b (Some s.0) (find k s.1))) (is_eq-slice_cmp k l) (given_at (slice_cmp nat_cmp k l) c s.0 (get_member k ds) (find k s.1) s.2 rest))

joined : (a : Option Json) (m : Option Data) (r : Option Val) → Later a None m → Given m r → Same a r
joined None m r h g = subst (λ o. Given o r) h g
joined (Some i) m r h g = let w = subst (λ o. Given o r) h.2 g in (w.0, ap (option_and_then of_data) h.1 ∙ w.1, w.2)

pub member_at : (j : Json) (y : Val-F Val) (k : List ℕ) → Shape j y → Same (found.get k j) (member_in k y)
member_at json.null y k h = ap (member_in k) h
member_at (json.boolean b) y k h = ap (member_in k) h
member_at (json.number s) y k h = ap (member_in k) h.2
member_at (json.string s) y k h = ap (member_in k) h
member_at (json.array js) y k h = ap (member_in k) h.4
member_at (json.object ms) y k h =
    subst (λ z. Same (found.get_member k ms) (member_in k z)) (sym h.4)
    (joined (found.get_member k ms) (get_member k h.0) (find k h.1) (read_found ms no_members h.0 k h.2) (find_given h.0 h.1 k h.3))

-- ---- an item

abbrev both : Option Val → Option (List Val) → Option (List Val)
both a b = option_and_then (λ v. option_map (λ vs. v ∷ vs) b) a

one_item : (a : Option Val) (b : Option (List Val)) (vs : List Val) → both a b ≡ Some vs → (v : Val) × (ws : List Val) × (a ≡ Some v) × (b ≡ Some ws) × (vs ≡ v ∷ ws)
one_item None b vs e = absurd (cc)
one_item (Some v) None vs e = absurd (cc)
one_item (Some v) (Some ws) vs e = (v, ws, refl, refl, sym (inj (v ∷ ws) vs e))

one_read : (a : Option Data) (b : Option Items) (ds : Items) → option_and_then (λ d. option_map (item d) b) a ≡ Some ds → (d : Data) × (es : Items) × (a ≡ Some d) × (b ≡ Some es) × (ds ≡ item d es)
one_read None b ds e = absurd (cc)
one_read (Some d) None ds e = absurd (cc)
one_read (Some d) (Some es) ds e = (d, es, refl, refl, sym (inj (item d es) ds e))

item_found : (js : json.Items) (ds : Items) (vs : List Val) (n : ℕ) → of_items js ≡ Some ds → spec.of_items ds ≡ Some vs → Same (found.get_item n js) (slice_get vs n)
item_found json.no_items ds vs n e f =
    let none : vs ≡ [] = sym (inj [] vs (ap spec.of_items (inj no_items ds e) ∙ f)) in
    subst (λ ws. slice_get ws n ≡ None) (sym none) refl
item_found (json.item j js) ds vs zero e f =
    let s = one_read (of_json j) (of_items js) ds e in
    let t = one_item (of_data s.0) (spec.of_items s.1) vs (ap spec.of_items (sym s.4) ∙ f) in
    subst (λ ws. (w : Val) × (of_tree j ≡ Some w) × (slice_get ws zero ≡ Some w)) (sym t.4) (t.0, ap (option_and_then of_data) s.2 ∙ t.2, refl)
item_found (json.item j js) ds vs (suc n) e f =
    let s = one_read (of_json j) (of_items js) ds e in
    let t = one_item (of_data s.0) (spec.of_items s.1) vs (ap spec.of_items (sym s.4) ∙ f) in
    subst (λ ws. Same (found.get_item n js) (slice_get ws (suc n))) (sym t.4) (item_found js s.1 t.1 n s.3 t.3)

pub item_at : (j : Json) (y : Val-F Val) (n : ℕ) → Shape j y → Same (found.at n j) (item_in n y)
item_at json.null y n h = ap (item_in n) h
item_at (json.boolean b) y n h = ap (item_in n) h
item_at (json.number s) y n h = ap (item_in n) h.2
item_at (json.string s) y n h = ap (item_in n) h
item_at (json.array js) y n h = subst (λ z. Same (found.get_item n js) (item_in n z)) (sym h.4) (item_found js h.0 h.1 n h.2 h.3)
item_at (json.object ms) y n h = ap (item_in n) h.4

-- what a look finds is the part's value
pub finds_value : (o : Option Json) (m : Option Val) (ts : List Token) → Same o m → Finds (Some ts) o → (w : Val) × (begun ts ≡ Some w) × (m ≡ Some w)
finds_value None m ts h f = absurd (cc)
finds_value (Some i) m ts h f =
    let same : i ≡ f.0 = inj i f.0 f.1 in
    (h.0, begun_is ts f.0 f.2 ∙ ap of_tree (sym same) ∙ h.1, h.2)

pub finds_none : (o : Option Json) (m : Option Val) → Same o m → o ≡ None → m ≡ None
finds_none None m h e = h
finds_none (Some i) m h e = absurd (cc)

-- ---- a whole text

settled_number : (o : Option Num) → IsSome (option_and_then as_i64 o) → (d : Data) × (v : Val) × (option_map number o ≡ Some d) × (of_data d ≡ Some v)
settled_number None h = absurd (true≢false (sym h))
settled_number (Some x) h = go (as_i64 x) refl h
  where
    go : (i : Option ℤ) → as_i64 x ≡ i → IsSome i → (d : Data) × (v : Val) × (Some (number x) ≡ Some d) × (of_data d ≡ Some v)
    go None is k = absurd (true≢false (sym k))
    go (Some n) is k = (number x, Int n, refl, ap (option_map Int) is)

mutual
  settles : (j : Json) (k : ℕ) (rest : List Token) → k ≤ 127 → Settled k (json_tokens j ++ rest)
      → (d : Data) × (v : Val) × (of_json j ≡ Some d) × (of_data d ≡ Some v) × (k + depth j ≤ 127) × Settled k rest
  settles json.null k rest low h = (Data.null, Null, refl, refl, omega arith, h)
  settles (json.boolean b) k rest low h = (Data.boolean b, Boolean b, refl, refl, omega arith, h)
  settles (json.number s) k rest low h = let n = settled_number (number_of s) h.0 in (n.0, n.1, n.2, n.3, omega arith, h.1)
  settles (json.string s) k rest low h = (Data.string s, Str s, refl, refl, omega arith, h)
  settles (json.array js) k rest low h =
      let s = items_settle js k rest h.0 h.1 in
      (array s.0, Arr s.1, ap (option_map array) s.2, ap (option_map Arr) s.3, omega (arith, s.4), s.5)
  settles (json.object ms) k rest low h =
      let s = members_settle ms k rest no_members [] refl h.0 h.1 in
      (object s.0, Obj s.1, ap (option_map object) s.2, ap (option_map Obj) s.3, omega (arith, s.4), s.5)

  items_settle : (js : json.Items) (k : ℕ) (rest : List Token) → k < 127 → Settled (suc k) (items_tokens js ++ rest)
      → (ds : Items) × (vs : List Val) × (of_items js ≡ Some ds) × (spec.of_items ds ≡ Some vs) × (suc k + items_depth js ≤ 127) × Settled k rest
  items_settle json.no_items k rest low h = let less : suc k - 1 ≡ k = omega arith in (no_items, [], refl, refl, omega arith, subst (λ n. Settled n rest) less h)
  items_settle (json.item j js) k rest low h =
      let a = settles j (suc k) (items_tokens js ++ rest) (omega arith) (subst (Settled (suc k)) (append_assoc (json_tokens j) (items_tokens js) rest) h) in
      let b = items_settle js k rest low a.5 in (
        item a.0 b.0,
        a.1 ∷ b.1,
        rw (a.2, b.2) refl,
        rw (a.3, b.3) refl,
        omega (arith, a.4, b.4),
        b.5,
      )

  members_settle : (ms : json.Members) (k : ℕ) (rest : List Token) (found : Members) (fs : List (List ℕ × Val)) → spec.of_members found ≡ Some fs → k < 127 → Settled (suc k) (members_tokens ms ++ rest)
      → (ds : Members) × (vs : List (List ℕ × Val)) × (of_members ms found ≡ Some ds) × (spec.of_members ds ≡ Some vs) × (suc k + members_depth ms ≤ 127) × Settled k rest
  members_settle json.no_members k rest found fs e low h = let less : suc k - 1 ≡ k = omega arith in (found, fs, refl, e, omega arith, subst (λ n. Settled n rest) less h)
  members_settle (json.member l j ms) k rest found fs e low h =
      let a = settles j (suc k) (members_tokens ms ++ rest) (omega arith) (subst (Settled (suc k)) (append_assoc (json_tokens j) (members_tokens ms) rest) h) in
      let b = members_settle ms k rest (put l a.0 found) (insert_entry (slice_cmp nat_cmp) fs l a.1) (of_members-put found l a.0 fs a.1 e a.3) low a.5 in
      (b.0, b.1, ap (option_and_then (λ d. of_members ms (put l d found))) a.2 ∙ b.2, b.3, omega (arith, a.4, b.4), b.5)

some_document : (o : Option Json) → IsSome o → (j : Json) × (o ≡ Some j)
some_document None h = absurd (true≢false (sym h))
some_document (Some j) h = (j, refl)

-- a text whose tokens are settled has a value, with which they begin
pub settled_reading : (text : List ℕ) (ts : List Token) → ts ≡ tokens text → IsSome (document text) → Settled 0 ts → (v : Val) × (reading text ≡ Some v) × (begun ts ≡ Some v)
settled_reading text ts is some h =
    let j = some_document (document text) some in
    let spelled : tokens text ≡ json_tokens j.0 = tokens-document text j.0 j.1 in
    let all : ts ≡ json_tokens j.0 ++ [] = is ∙ spelled ∙ sym (append-nil _) in
    let s = settles j.0 0 [] (omega arith) (subst (Settled 0) all h) in
    let read_it : read text ≡ Some s.0 = ap whole (ap (value 127) (spelled ∙ sym (append-nil _)) ∙ value-json_tokens j.0 127 [] (omega (arith, s.4))) ∙ s.2 in
    let first : BeginsWith ts j.0 = (127, [], ap (value 127) all ∙ value-json_tokens j.0 127 [] (omega (arith, s.4))) in
    (s.1, ap (option_and_then of_data) read_it ∙ s.3, begun_is ts j.0 first ∙ ap (option_and_then of_data) s.2 ∙ s.3)

-- the JSON at a place, and what its value is one level deep
pub part : (ts : List Token) → IsBegun ts → (j : Json) × BeginsWith ts j × Shape j (out-Val (here ts))
part ts h = let t = begun_tree ts (here ts) (begun_here ts h) in (t.0, t.1, shape t.0 (here ts) t.2)

read_at : (text : List ℕ) → document text ≡ None → (o : Option (Json × List Token)) → value 127 (tokens text) ≡ o → whole o ≡ None
read_at text e None is = refl
read_at text e (Some (j, [])) is =
    let deeper : value 128 (tokens text) ≡ Some (j, []) = ap (value 128) (value-json_tokens_back 127 (tokens text) [] j is) ∙ value-json_tokens j 128 [] (omega (arith, value-depth 127 (tokens text) [] j is)) in
    let some : document text ≡ Some j = ap (option_and_then (λ p. json.if_last p.0 p.1)) deeper in
    absurd (cc)
read_at text e (Some (j, t ∷ r)) is = refl

-- a text that the tape refuses has no reading
pub refused_reading : (text : List ℕ) → document text ≡ None → read text ≡ None
refused_reading text e = read_at text e (value 127 (tokens text)) refl
