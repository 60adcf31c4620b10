-- A migrated configuration has no bytes where the configuration has none.
use Rattle.std.proofs.Common.{◌≡◌, ℕ, ◌||◌, pos, List, [], ◌∷◌, Bool, true, false, true≢false, Option, Some, None, option_map, map, nat_le, cond, codes, Ordering, Less, Equal, Greater, nat_cmp, refl, sym, ap, ◌∙◌, subst, rules}
use Rattle.std.specs.BTreeMap.{insert_entry}
use Rattle.std.specs.Cmp.Lexicographic.{slice_cmp}
use Rattle.std.specs.Map.{remove_entry}
use Rattle.std.specs.Ordering.{match_ordering}
use Rattle.std.specs.Str.{bytes_eq}
use Rattle.std.proofs.lemmas.Bool.{or_parts}
use Rattle.bt_value.specs.Depth.{depth}
use Rattle.bt_value.specs.Keys.{find}
use Rattle.bt_value.specs.Plain.{has_bytes, bytes_step, some, some_member}
use Rattle.bt_value.specs.declared.val.Val.{Val, Int, Str, Arr, Obj, fold-roll-Val, ind-Val, out-Val, roll-Val, map-Val, the_lemmas}
use Rattle.bt_value.specs.declared.val.Val.TheOpen.{Val-F}
use Rattle.bt_value.proofs.Texts.{items_have_bytes, members_have_bytes}
use Rattle.bt_schema.specs.declared.places.Place.{Place}
use Rattle.bt_schema.specs.declared.places.Place.TheVariants as place
use Rattle.bt_schema.specs.Policies.{Members}
use Rattle.bt_schema.specs.Table.{element}
use Rattle.bt_schema.specs.Texts.{delimiter, is_lines}
use Rattle.bt_config.specs.Migrated as spec

neither : (a b : Bool) → a ≡ false → b ≡ false → (a || b) ≡ false
neither a b p q = rw p q

-- a member was put
chosen : (o : Ordering) (a b c : Members Val) → members_have_bytes a ≡ false → members_have_bytes b ≡ false → members_have_bytes c ≡ false → members_have_bytes (match_ordering o a b c) ≡ false
chosen Less a b c p q r = p
chosen Equal a b c p q r = q
chosen Greater a b c p q r = r

put_entry : (key : List ℕ) (v : Val) (ms : Members Val) → has_bytes v ≡ false → members_have_bytes ms ≡ false → members_have_bytes (insert_entry (slice_cmp nat_cmp) ms key v) ≡ false
put_entry key v [] h k = neither (has_bytes v) false h refl
put_entry key v (m ∷ ms) h k =
    let both = or_parts (has_bytes m.1) (members_have_bytes ms) k in
    chosen (slice_cmp nat_cmp key m.0) ((key, v) ∷ m ∷ ms) ((m.0, v) ∷ ms) (m ∷ insert_entry (slice_cmp nat_cmp) ms key v)
    (neither (has_bytes v) (members_have_bytes (m ∷ ms)) h k) (neither (has_bytes v) (members_have_bytes ms) h both.1)
    (neither (has_bytes m.1) (members_have_bytes (insert_entry (slice_cmp nat_cmp) ms key v)) both.0 (put_entry key v ms h both.1))

abbrev Plain : Option Val → Type 0
Plain None = Unit {0}
Plain (Some v) = has_bytes v ≡ false

put : (key : List ℕ) (o : Option Val) (ms : Members Val) → Plain o → members_have_bytes ms ≡ false → members_have_bytes (spec.put key o ms) ≡ false
put key None ms h k = k
put key (Some v) ms h k = put_entry key v ms h k

-- a member was taken out
taken : (b : Bool) (m : List ℕ × Val) (ms rest : Members Val) → members_have_bytes (m ∷ ms) ≡ false → members_have_bytes rest ≡ false → members_have_bytes (cond b ms (m ∷ rest)) ≡ false
taken true m ms rest h k = (or_parts (has_bytes m.1) (members_have_bytes ms) h).1
taken false m ms rest h k = neither (has_bytes m.1) (members_have_bytes rest) (or_parts (has_bytes m.1) (members_have_bytes ms) h).0 k

without : (key : List ℕ) (ms : Members Val) → members_have_bytes ms ≡ false → members_have_bytes (spec.without key ms) ≡ false
without key [] h = refl
without key (m ∷ ms) h = taken (bytes_eq key m.0) m ms (remove_entry (bytes_eq key) ms) h (without key ms (or_parts (has_bytes m.1) (members_have_bytes ms) h).1)

-- a member that is found
one_of : (b : Bool) (v : Val) (o : Option Val) → has_bytes v ≡ false → Plain o → Plain (cond b (Some v) o)
one_of true v o h k = h
one_of false v o h k = k

found : (key : List ℕ) (ms : Members Val) → members_have_bytes ms ≡ false → Plain (find key ms)
found key [] h = tt
found key (m ∷ ms) h =
    let both = or_parts (has_bytes m.1) (members_have_bytes ms) h in one_of (bytes_eq key m.0) m.1 (find key ms) both.0 (found key ms both.1)

-- a scanner in place of a codec
delimited : (o : Option (List ℕ)) → members_have_bytes (spec.delimited o) ≡ false
delimited None = refl
delimited (Some x) = let is : has_bytes (Str x) ≡ false = search (rules, the_lemmas) in neither (has_bytes (Str x)) false is refl

scanner_fields : (codec : List ℕ) → members_have_bytes (spec.scanner_fields codec) ≡ false
scanner_fields codec = either (is_lines codec)
  where
    either : (b : Bool) → members_have_bytes (cond b [] (spec.delimited (delimiter codec))) ≡ false
    either true = refl
    either false = delimited (delimiter codec)

object : (ms : Members Val) → members_have_bytes ms ≡ false → has_bytes (Obj ms) ≡ false
object ms h = let known : has_bytes (Obj ms) ≡ members_have_bytes ms = search (rules, the_lemmas) in known ∙ h

array : (vs : List Val) → items_have_bytes vs ≡ false → has_bytes (Arr vs) ≡ false
array vs h = let known : has_bytes (Arr vs) ≡ items_have_bytes vs = search (rules, the_lemmas) in known ∙ h

scanner_of : (y : Val-F Val) → has_bytes (spec.scanner_of y) ≡ false
scanner_of Val-F.Null = search (rules, the_lemmas)
scanner_of (Val-F.Bool b) = search (rules, the_lemmas)
scanner_of (Val-F.Int n) = search (rules, the_lemmas)
scanner_of (Val-F.Str codec) =
    object ((codes "lines", Obj (spec.scanner_fields codec)) ∷ []) (neither (has_bytes (Obj (spec.scanner_fields codec))) false (object (spec.scanner_fields codec) (scanner_fields codec)) refl)
scanner_of (Val-F.Bytes b) = search (rules, the_lemmas)
scanner_of (Val-F.Arr vs) = search (rules, the_lemmas)
scanner_of (Val-F.Obj ms) = search (rules, the_lemmas)

scanner : (o : Option Val) → Plain (option_map spec.scanner_for o)
scanner None = tt
scanner (Some v) = scanner_of (out-Val v)

scanned : (scanners : Bool) (ms : Members Val) → members_have_bytes ms ≡ false → members_have_bytes (spec.scanned scanners ms) ≡ false
scanned true ms h = put (codes "scanner") (option_map spec.scanner_for (find (codes "codec") ms)) (spec.without (codes "codec") ms) (scanner (find (codes "codec") ms)) (without (codes "codec") ms h)
scanned false ms h = h

-- the members of an object at a place
fixed : (scanners : Bool) (here : Place) (ms : Members Val) → members_have_bytes ms ≡ false → members_have_bytes (spec.fixed scanners here ms) ≡ false
fixed scanners here ms h =
    elim here as (λ p. members_have_bytes (spec.fixed scanners p ms) ≡ false) [
      | place.Top ↦ let is : has_bytes (Int (pos 2)) ≡ false = search (rules, the_lemmas) in put (codes "version") (Some (Int (pos 2))) ms is h
      | place.Processor ↦ put (codes "mapping") (find (codes "bloblang") ms) (spec.without (codes "bloblang") ms) (found (codes "bloblang") ms h) (without (codes "bloblang") ms h)
      | place.Stdin ↦ scanned scanners (spec.without (codes "auto_replay_nacks") ms) (without (codes "auto_replay_nacks") ms h)
      | place.FileInput ↦ scanned scanners (spec.without (codes "auto_replay_nacks") ms) (without (codes "auto_replay_nacks") ms h)
      | _ ↦ h
    ]

abbrev StaysPlain : Val → Type 0
StaysPlain v = has_bytes v ≡ false → (scanners : Bool) (here : Place) → has_bytes (spec.moved v scanners here) ≡ false

abbrev Shown : Type 0
Shown = (v : Val) × StaysPlain v

abbrev on_value : {X Y : Type 0} → (X → Y) → List ℕ × X → List ℕ × Y
on_value h p = (p.0, h p.1)

items : (vs : List Shown) (scanners : Bool) (there : Place) → let xs = map (λ (e : Shown). e.0) vs in some (map has_bytes xs) ≡ false →
    items_have_bytes (spec.moved_items scanners there (map spec.moved xs)) ≡ false
items [] scanners there h = refl
items (v ∷ vs) scanners there h =
    let both = or_parts _ _ h in neither _ _ (v.1 both.0 scanners there) (items vs scanners there both.1)

members : (ms : List (List ℕ × Shown)) (scanners : Bool) (here : Place) → let xs = map (on_value (λ (e : Shown). e.0)) ms in some_member (map (on_value has_bytes) xs) ≡ false →
    members_have_bytes (spec.moved_members scanners here (map (on_value spec.moved) xs)) ≡ false
members [] scanners here h = refl
members (m ∷ ms) scanners here h =
    let both = or_parts _ _ h in neither _ _ (m.1.1 both.0 scanners (spec.below here m.0)) (members ms scanners here both.1)

abbrev under : Val-F Shown → Val-F Val
under y = map-Val Shown Val (λ e. e.0) y

level : (y : Val-F Shown) → bytes_step (map-Val Val Bool has_bytes (under y)) ≡ false → (scanners : Bool) (here : Place) →
    has_bytes (spec.moved_step (map-Val Val spec.Move spec.moved (under y)) scanners here) ≡ false
level Val-F.Null h scanners here = search (rules, the_lemmas)
level (Val-F.Bool b) h scanners here = search (rules, the_lemmas)
level (Val-F.Int z) h scanners here = search (rules, the_lemmas)
level (Val-F.Str s) h scanners here = search (rules, the_lemmas)
level (Val-F.Bytes b) h scanners here = absurd (true≢false h)
level (Val-F.Arr vs) h scanners here = array _ (items vs scanners (element here) h)
level (Val-F.Obj ms) h scanners here = object _ (fixed scanners here _ (members ms scanners here h))

stays_plain : (v : Val) → StaysPlain v
stays_plain = ind-Val StaysPlain (λ x y is. subst (λ z. StaysPlain (roll-Val z)) is (λ h scanners here.
    ap (λ (m : spec.Move). has_bytes (m scanners here)) (fold-roll-Val spec.Move spec.moved_step (under y))
    ∙ level y (sym (fold-roll-Val Bool bytes_step (under y)) ∙ h) scanners here))

pub migrated_plain : (config : Val) → has_bytes config ≡ false → has_bytes (spec.migrated config) ≡ false
migrated_plain config h = either (nat_le (depth (spec.moved config true place.Top)) 127)
  where
    either : (b : Bool) → has_bytes (cond b (spec.moved config true place.Top) (spec.moved config false place.Top)) ≡ false
    either true = stays_plain config h true place.Top
    either false = stays_plain config h false place.Top
