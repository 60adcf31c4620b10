-- The migrated configuration: the same in the words of version 2.
use Rattle.std.specs.Prelude.{ℕ, pos, List, [], ◌∷◌, Bool, true, false, Option, Some, None, option_map, if◌then◌else◌, map, codes, nat_le}
use Rattle.std.specs.BTreeMap.{insert_entry}
use Rattle.std.specs.Cmp.Lexicographic.{slice_cmp}
use Rattle.std.specs.Map.{remove_entry}
use Rattle.std.specs.Ordering.{nat_cmp}
use Rattle.std.specs.Str.{bytes_eq}
use Rattle.bt_value.specs.Depth.{depth}
use Rattle.bt_value.specs.Keys.{find}
use Rattle.bt_value.specs.declared.val.Val.{Val, fold-Val, out-Val, Null, Obj, Str, Int}
use Rattle.bt_value.specs.declared.val.Val.TheVariants as val
use Rattle.bt_value.specs.declared.val.Val.TheOpen.{Val-F}
use Rattle.bt_schema.specs.declared.places.Place.{Place}
use Rattle.bt_schema.specs.declared.places.Place.TheVariants as place
use Rattle.bt_schema.specs.Policies.{Members}
use Rattle.bt_schema.specs.Table.{member, element}
use Rattle.bt_schema.specs.Texts.{delimiter, is_lines}

-- the members with this one among them, in byte order of their keys, in place of one of its name; without a value they stay
abbrev pub put : List ℕ → Option Val → Members Val → Members Val
put key (Some v) ms = insert_entry (slice_cmp nat_cmp) ms key v
put key None ms = ms

-- the members without the one of this name
abbrev pub without : List ℕ → Members Val → Members Val
without key ms = remove_entry (bytes_eq key) ms

abbrev pub delimited : Option (List ℕ) → Members Val
delimited (Some x) = (codes "custom_delimiter", Str x) ∷ []
delimited None = []

-- the fields of the scanner `lines` that reads as the codec: none for `lines`, and for `delim:X` the custom delimiter X
abbrev pub scanner_fields : List ℕ → Members Val
scanner_fields codec = if is_lines codec then [] else delimited (delimiter codec)

abbrev pub scanner_of : Val-F Val → Val
scanner_of (Val-F.Str codec) = Obj ((codes "lines", Obj (scanner_fields codec)) ∷ [])
scanner_of _ = Null

-- the scanner in place of a codec
abbrev pub scanner_for : Val → Val
scanner_for v = scanner_of (out-Val v)

-- a processor whose kind `bloblang` is named `mapping`
abbrev pub renamed : Members Val → Members Val
renamed ms = put (codes "mapping") (find (codes "bloblang") ms) (without (codes "bloblang") ms)

-- the fields of an input without `auto_replay_nacks`, and with a scanner in place of a codec, unless codecs stay
abbrev pub scanned : Bool → Members Val → Members Val
scanned scanners ms =
    if scanners then put (codes "scanner") (option_map scanner_for (find (codes "codec") ms)) (without (codes "codec") ms) else ms

-- The members of an object at a place in the words of version 2: the whole has `version` 2, each processor `bloblang` is `mapping`,
-- an input has no `auto_replay_nacks`, and a scanner for its codec. All else stays.
abbrev pub fixed : Bool → Place → Members Val → Members Val
fixed scanners place.Top ms = put (codes "version") (Some (Int (pos 2))) ms
fixed scanners place.Processor ms = renamed ms
fixed scanners place.Stdin ms = scanned scanners (without (codes "auto_replay_nacks") ms)
fixed scanners place.FileInput ms = scanned scanners (without (codes "auto_replay_nacks") ms)
fixed scanners there ms = ms

abbrev pub or_refused : Option Place → Place
or_refused (Some there) = there
or_refused None = place.Refused

-- the place of a member
abbrev pub below : Place → List ℕ → Place
below here key = or_refused (member true here key)

-- a value at a place, whose codecs become scanners or stay, in the words of version 2
abbrev pub Move : Type 0
Move = Bool → Place → Val

abbrev pub moved_members : Bool → Place → List (List ℕ × Move) → Members Val
moved_members scanners here ms = map (λ m. (m.0, m.1 scanners (below here m.0))) ms

abbrev pub moved_items : Bool → Place → List Move → List Val
moved_items scanners there ms = map (λ m. m scanners there) ms

abbrev pub moved_step : Val-F Move → Move
moved_step Val-F.Null scanners here = val.Null
moved_step (Val-F.Bool b) scanners here = val.Bool b
moved_step (Val-F.Int n) scanners here = val.Int n
moved_step (Val-F.Str t) scanners here = val.Str t
moved_step (Val-F.Bytes b) scanners here = val.Bytes b
moved_step (Val-F.Arr ms) scanners here = val.Arr (moved_items scanners (element here) ms)
moved_step (Val-F.Obj ms) scanners here = val.Obj (fixed scanners here (moved_members scanners here ms))

abbrev pub moved : Val → Move
moved = fold-Val Move moved_step

abbrev pub with_moves : Members Val → List (List ℕ × Move)
with_moves ms = map (λ m. (m.0, moved m.1)) ms

-- The migrated configuration. Where it would so nest deeper than 127, each input keeps its codec.
abbrev pub migrated : Val → Val
migrated config = if nat_le (depth (moved config true place.Top)) 127 then moved config true place.Top else moved config false place.Top
