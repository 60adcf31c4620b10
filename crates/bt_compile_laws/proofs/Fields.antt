-- The members of an object that a walk has gone through.
use Rattle.std.proofs.Common.{◌≡◌, ℕ, List, [], ◌∷◌, ◌++◌, Bool, true, false, Option, Some, None, option_map, map, refl, sym, subst, ap, ◌∙◌}
use Rattle.std.specs.Prelude.{codes, if◌then◌else◌, is_some}
use Rattle.std.specs.Str.{bytes_eq}
use Rattle.std.proofs.lemmas.Slice.Eq.{bytes_eq-Decides}
use Rattle.bt_value.specs.Keys.{find}
use Rattle.bt_value.specs.declared.val.Val.{Val}
use Rattle.bt_schema.specs.Pointer.{under}
use Rattle.bt_schema.specs.Policies.{Members}
use Rattle.bt_schema.specs.Table.{Rows, member}
use Rattle.bt_schema.specs.declared.places.Place.{Place}
use Rattle.bt_schema.specs.declared.places.Place.TheVariants as place
use Rattle.bt_walk.specs.Found.{Located}
use Rattle.bt_walk.specs.Meaning.{Meaning}
use Rattle.bt_walk.specs.Walk.{entered, in_member, in_members, meaning}
use Rattle.bt_walk.specs.declared.above.Above.{Above}
use Rattle.bt_compile.specs.Kinds.{Chosen, chosen, chosen_or, kind_named, kinds, place_of}
use Rattle.bt_compile.specs.Reading.{Reading, reading}
use Rattle.bt_compile.specs.declared.kinds.Kind.{Kind}
use Rattle.bt_compile_laws.proofs.Fine.{AllFine, fine_before, fine_behind}
use Rattle.bt_compile_laws.proofs.Places.{IsGood, IsGoodChoice, IsGoodThere}

-- where nothing is found wrong at a value, what it is made as has only texts that are read
abbrev pub IsDoneAt : Val → Type 0
IsDoneAt v = (here : Place) (config : Val) (above : Above) (at : List ℕ) → AllFine ((meaning v).found config here above at) → IsGood here (reading v)

abbrev pub Shown : Type 0
Shown = (v : Val) × IsDoneAt v

abbrev pub onto : {X Y : Type 0} → (X → Y) → List ℕ × X → List ℕ × Y
onto h p = (p.0, h p.1)

abbrev pub walked : List (List ℕ × Shown) → Members Meaning
walked ms = map (onto meaning) (map (onto (λ (e : Shown). e.0)) ms)

abbrev pub readings : List (List ℕ × Shown) → Members Reading
readings ms = map (onto reading) (map (onto (λ (e : Shown). e.0)) ms)

pub same_bytes : (xs ys : List ℕ) → bytes_eq xs ys ≡ true → xs ≡ ys
same_bytes xs ys h = (bytes_eq-Decides xs ys).0 h

-- ---- a member at the place of its key

there_good : (m : List ℕ × Shown) (config : Val) (here : Place) (above : Above) (at : List ℕ) (there : Place) → member above.newer here m.0 ≡ Some there →
    AllFine (in_member config (member above.newer here m.0) here above at (meaning m.1.0)) → IsGood there (reading m.1.0)
there_good m config here above at there known h =
    m.1.1 there config (entered here there (meaning m.1.0) above) at
    (subst (λ (o : Option Place). AllFine (in_member config o here above at (meaning m.1.0))) known h)

choose : (b : Bool) (there : Place) (r : Reading) (o : Option Reading) → (b ≡ true → IsGood there r) → IsGoodThere there o → IsGoodThere there (if b then Some r else o)
choose true there r o f k = f refl
choose false there r o f k = k

pub field : (ms : List (List ℕ × Shown)) (config : Val) (here : Place) (above : Above) (at key : List ℕ) (there : Place) → member above.newer here key ≡ Some there →
    AllFine (in_members config here above at (walked ms)) → IsGoodThere there (find key (readings ms))
field [] config here above at key there known h = tt
field (m ∷ ms) config here above at key there known h =
    let first : List Located = in_member config (member above.newer here m.0) here above (under at m.0) (meaning m.1.0) in
    let rest : List Located = in_members config here above at (walked ms) in
    choose (bytes_eq key m.0) there (reading m.1.0) (find key (readings ms))
    (λ e. there_good m config here above (under at m.0) there
    (subst (λ (k : List ℕ). member above.newer here k ≡ Some there) (same_bytes key m.0 e) known) (fine_before first rest h))
    (field ms config here above at key there known (fine_behind first rest h))

same_or : {X Y : Type 0} (b : Bool) (x : X) (y : Y) (o : Option X) (p : Option Y) → is_some o ≡ is_some p →
    is_some (if b then Some x else o) ≡ is_some (if b then Some y else p)
same_or true x y o p h = refl
same_or false x y o p h = h

-- a member is there on both sides
pub both_there : (ms : List (List ℕ × Shown)) (key : List ℕ) → is_some (find key (readings ms)) ≡ is_some (find key (walked ms))
both_there [] key = refl
both_there (m ∷ ms) key = same_or (bytes_eq key m.0) (reading m.1.0) (meaning m.1.0) (find key (readings ms)) (find key (walked ms)) (both_there ms key)

-- ---- rows of a table

not_some : {V : Type 0} (v : V) → ◌≡◌ {A = Option V} (Some v) None → ⊥
not_some v h = cc

-- a row of another name doesn't hide those behind it
shadowless : {V : Type 0} (b : Bool) (v : V) (o : Option V) → ◌≡◌ {A = Option V} (if b then Some v else o) None → o ≡ None
shadowless true v o h = absurd (not_some v h)
shadowless false v o h = h

past : {V : Type 0} (b : Bool) (t p : V) (o : Option V) → (b ≡ true → o ≡ None) → o ≡ Some p → (if b then Some t else o) ≡ Some p
past true t p o f h = absurd (not_some p (sym h ∙ f refl))
past false t p o f h = h

kept : {V : Type 0} (b : Bool) (v p : V) (o q : Option V) → (o ≡ Some p → q ≡ Some p) → (if b then Some v else o) ≡ Some p → (if b then Some v else q) ≡ Some p
kept true v p o q f h = h
kept false v p o q f h = f h

pub inserted : {V : Type 0} (key name : List ℕ) (t : V) (xs ys : List (List ℕ × V)) (p : V) → find name (xs ++ ys) ≡ None → find key (xs ++ ys) ≡ Some p →
    find key (xs ++ (name, t) ∷ ys) ≡ Some p
inserted key name t [] ys p none h =
    past (bytes_eq key name) t p (find key ys) (λ e. subst (λ (k : List ℕ). find k ys ≡ None) (sym (same_bytes key name e)) none) h
inserted key name t (x ∷ xs) ys p none h =
    kept (bytes_eq key x.0) x.1 p (find key (xs ++ ys)) (find key (xs ++ (name, t) ∷ ys))
    (λ k. inserted key name t xs ys p (shadowless (bytes_eq name x.0) x.1 (find name (xs ++ ys)) none) k) h

place_or : (b : Bool) (k : Kind) (o : Option Kind) (p : Option Place) → p ≡ option_map place_of o →
    (if b then Some (place_of k) else p) ≡ option_map place_of (if b then Some k else o)
place_or true k o p h = refl
place_or false k o p h = h

abbrev placed : List (List ℕ × Kind) → Rows
placed ks = map (λ k. (k.0, place_of k.1)) ks

placed_as : (key : List ℕ) (ks : List (List ℕ × Kind)) → find key (placed ks) ≡ option_map place_of (find key ks)
placed_as key [] = refl
placed_as key (k ∷ ks) = place_or (bytes_eq key k.0) k.1 (find key ks) (find key (placed ks)) (placed_as key ks)

abbrev before_label : Rows
before_label =
    (codes "archive", place.Archive) ∷
    (codes "bloblang", place.Mapping) ∷
    (codes "branch", place.Branch) ∷
    (codes "catch", place.Processors) ∷
    (codes "for_each", place.Processors) ∷
    (codes "group_by", place.GroupBy) ∷
    (codes "group_by_value", place.GroupByValue) ∷
    []

abbrev behind_label : Rows
behind_label =
    (codes "mapping", place.Mapping) ∷
    (codes "split", place.Split) ∷
    (codes "switch", place.Switch) ∷
    (codes "try", place.Processors) ∷
    (codes "unarchive", place.Archive) ∷
    []

kind_row : (newer : Bool) (key : List ℕ) (q : Kind) → kind_named key ≡ Some q → member newer place.Processor key ≡ Some (place_of q)
kind_row newer key q h =
    inserted key (codes "label") place.Label before_label behind_label (place_of q) refl (placed_as key kinds ∙ ap (option_map place_of) h)

by_kind : (k : Option Kind) (m : List ℕ × Reading) (rest : Option (Chosen Reading)) → ((q : Kind) → k ≡ Some q → IsGood (place_of q) m.1) → IsGoodChoice rest →
    IsGoodChoice (chosen_or k m rest)
by_kind (Some q) m rest f h = f q refl
by_kind None m rest f h = h

-- the member that names the kind of a processor
pub choice : (ms : List (List ℕ × Shown)) (config : Val) (above : Above) (at : List ℕ) → AllFine (in_members config place.Processor above at (walked ms)) →
    IsGoodChoice (chosen (readings ms))
choice [] config above at h = tt
choice (m ∷ ms) config above at h =
    let first : List Located = in_member config (member above.newer place.Processor m.0) place.Processor above (under at m.0) (meaning m.1.0) in
    let rest : List Located = in_members config place.Processor above at (walked ms) in
    by_kind (kind_named m.0) (m.0, reading m.1.0) (chosen (readings ms))
    (λ q e. there_good m config place.Processor above (under at m.0) (place_of q) (kind_row above.newer m.0 q e) (fine_before first rest h))
    (choice ms config above at (fine_behind first rest h))
