-- The bytes that end the messages of sinks.
use Rattle.std.specs.Prelude.{ℕ, List, [], ◌∷◌, ◌++◌, Bool, ◌||◌, ◌==◌, not, false, Option, Some, None, if◌then◌else◌, codes, length}
use Rattle.std.specs.Str.{bytes_eq}
use Rattle.bt_value.specs.Keys.{find}
use Rattle.bt_value.specs.declared.val.Val.{Val, out-Val}
use Rattle.bt_value.specs.declared.val.Val.TheOpen.{Val-F}
use Rattle.bt_schema.specs.declared.places.Place.{Place}
use Rattle.bt_schema.specs.declared.places.Place.TheVariants as place
use Rattle.bt_schema.specs.Policies.{Members, fields}
use Rattle.bt_schema.specs.Table.{form_of, element, member}
use Rattle.bt_schema.specs.Texts.{closing_bytes}
use Rattle.bt_walk.specs.Meaning.{End, Meaning}
use Rattle.bt_walk.specs.Members.{is_list, is_walked}

abbrev pub closing_in : Bool → Val-F Val → Option (List ℕ)
closing_in newer (Val-F.Str t) = closing_bytes newer t
closing_in newer _ = None

abbrev pub closing_at : Bool → Option Val → Option (List ℕ)
closing_at newer None = Some (10 ∷ [])
closing_at newer (Some v) = closing_in newer (out-Val v)

-- the bytes that end the messages of an output with these fields: a line feed, unless its `codec` says others
abbrev pub closing : Bool → Val-F Val → Option (List ℕ)
closing newer (Val-F.Obj ms) = closing_at newer (find (codes "codec") ms)
closing newer _ = None

abbrev pub file_sink : List ℕ → Option (List ℕ)
file_sink path = if length path == 0 then None else Some (codes "file:" ++ path)

abbrev pub sink_in : Val-F Val → Option (List ℕ)
sink_in (Val-F.Str path) = file_sink path
sink_in _ = None

abbrev pub sink_at : Option Val → Option (List ℕ)
sink_at (Some v) = sink_in (out-Val v)
sink_at None = None

-- the name of a leaf's sink: `stdout`, or `file:` and the path, where it has one
abbrev pub sink : Place → Val → Option (List ℕ)
sink place.Stdout v = Some (codes "stdout")
sink place.FileOutput v = sink_at (find (codes "path") (fields v))
sink _ v = None

abbrev pub paired : Option (List ℕ) → Option (List ℕ) → List End
paired (Some name) (Some bytes) = (name, bytes) ∷ []
paired _ _ = []

-- a value's own end, if it is a leaf that has a sink and closing bytes
abbrev pub own_ends : Bool → Place → Val → List End
own_ends newer there v = paired (sink there v) (closing newer (out-Val v))

-- the ends at and below a value
abbrev pub ends_within : Bool → Place → Meaning → List End
ends_within newer there m = own_ends newer there m.is ++ m.ends newer there

abbrev pub ends_member : Bool → Option Place → Meaning → List End
ends_member newer None m = []
ends_member newer (Some there) m = ends_within newer there m

abbrev pub ends_members : Bool → Place → Members Meaning → List End
ends_members newer here [] = []
ends_members newer here (m ∷ ms) = ends_member newer (member newer here m.0) m.1 ++ ends_members newer here ms

abbrev pub ends_items : Bool → Place → List Meaning → List End
ends_items newer there [] = []
ends_items newer there (m ∷ ms) = ends_within newer there m ++ ends_items newer there ms

abbrev pub ends_list : Bool → Place → List Meaning → List End
ends_list newer here ms = if is_list (form_of here) then ends_items newer (element here) ms else []

abbrev pub ends_object : Bool → Place → Members Meaning → List End
ends_object newer here ms = if is_walked (form_of here) here ms then ends_members newer here ms else []

-- the ends below a value, in order of the walk
abbrev pub ends_step : Val-F Meaning → Bool → Place → List End
ends_step (Val-F.Arr ms) newer here = ends_list newer here ms
ends_step (Val-F.Obj ms) newer here = ends_object newer here ms
ends_step _ newer here = []

abbrev pub is_other : Option (List ℕ) → List ℕ → Bool
is_other (Some first) bytes = not (bytes_eq bytes first)
is_other None bytes = false

-- one of these ends is other than the first of its sink among all
abbrev pub differ : List End → List End → Bool
differ all [] = false
differ all (e ∷ es) = is_other (find e.0 all) e.1 || differ all es

-- two leaves of an output have one sink and different closing bytes
abbrev pub two_codecs : Bool → Place → Meaning → Bool
two_codecs newer place.Output m = differ (ends_within newer place.Output m) (ends_within newer place.Output m)
two_codecs newer there m = false
