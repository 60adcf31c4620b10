-- The walk over a configuration: an object before its members, members in byte order of their keys, the elements of a list in
-- order. Nothing is found below a value that is wrong in its kind, an unknown member, what is refused, or a component without
-- exactly one kind.
use Rattle.std.specs.Prelude.{ℕ, List, [], ◌∷◌, ◌++◌, Bool, true, false, ◌&&◌, ◌||◌, ◌+◌, Option, Some, None, if◌then◌else◌, map, codes}
use Rattle.bt_value.specs.declared.val.Val.{Val, fold-Val, out-Val, roll-Val, map-Val}
use Rattle.bt_value.specs.declared.val.Val.TheOpen.{Val-F}
use Rattle.bt_schema.specs.declared.forms.Form.{Form}
use Rattle.bt_schema.specs.declared.forms.Form.TheVariants as form
use Rattle.bt_schema.specs.declared.lints.LintKind.{LintKind}
use Rattle.bt_schema.specs.declared.lints.LintKind.TheVariants as kind
use Rattle.bt_schema.specs.declared.places.Place.{Place}
use Rattle.bt_schema.specs.declared.places.Place.TheVariants as place
use Rattle.bt_schema.specs.Pointer.{under, nth}
use Rattle.bt_schema.specs.Policies.{Members, is_hold, is_newer}
use Rattle.bt_schema.specs.Table.{form_of, element, member}
use Rattle.bt_walk.specs.declared.above.Above.{Above}
use Rattle.bt_walk.specs.Counts.{count_step, too_many}
use Rattle.bt_walk.specs.Ends.{ends_step, two_codecs}
use Rattle.bt_walk.specs.Found.{Fact, wrong, Located, when, at_pointer}
use Rattle.bt_walk.specs.Meaning.{Meaning, Walk}
use Rattle.bt_walk.specs.Members.{is_list, is_walked}
use Rattle.bt_walk.specs.Own.{of_value}
use Rattle.bt_walk.specs.Targets.{is_target}

abbrev pub is_batched : Place → Bool
is_batched place.Batched = true
is_batched _ = false

-- the processors `switch` and `branch`, below which each message gives one message or none
abbrev pub is_switch : Place → Bool
is_switch place.Switch = true
is_switch place.Branch = true
is_switch _ = false

-- the processors that change the number of messages
abbrev pub is_changer : Place → Bool
is_changer place.Archive = true
is_changer place.Split = true
is_changer place.GroupBy = true
is_changer place.GroupByValue = true
is_changer _ = false

abbrev pub is_top : Place → Bool
is_top place.Top = true
is_top _ = false

-- What the member m of a value at `here` has above it, where its own place is `there`: batching below batching is a `broker` with
-- batching below another, or a `batched` below another; at the top, sources, leaves, holds and ends are counted.
abbrev pub entered : Place → Place → Meaning → Above → Above
entered here there m above = record {
  newer = above.newer;
  has_processors = above.has_processors;
  below_switch = above.below_switch || is_switch there;
  below_hold = above.below_hold || is_hold there m.is;
  below_batched = above.below_batched || is_batched there;
  batching_below = (is_hold there m.is && above.below_hold) || (is_batched there && above.below_batched);
  changes_number = is_changer there && above.below_switch;
  too_many = is_top here && too_many above.newer there m;
  two_codecs = is_top here && two_codecs above.newer there m;
}

-- the same of an element of a list, which is no member
abbrev pub inside : Above → Above
inside above = record above { batching_below = false; changes_number = false; too_many = false; two_codecs = false }

-- what is wrong with a value because of what stands above it, or of all that stands below it
abbrev pub from_above : Above → List Fact
from_above above = when above.batching_below kind.BatchingBelow ++ when above.changes_number kind.ChangesNumber
    ++ when above.too_many kind.TooMany ++ when above.two_codecs kind.TwoCodecs

-- an unknown member
abbrev pub unknown : Form → LintKind
unknown form.Component = kind.UnknownKind
unknown _ = kind.UnknownField

abbrev pub in_member : Val → Option Place → Place → Above → List ℕ → Meaning → List Located
in_member config None here above at m = at_pointer at (wrong (unknown (form_of here)) ∷ [])
in_member config (Some there) here above at m = m.found config there (entered here there m above) at

abbrev pub in_members : Val → Place → Above → List ℕ → Members Meaning → List Located
in_members config here above at [] = []
in_members config here above at (m ∷ ms) =
    in_member config (member above.newer here m.0) here above (under at m.0) m.1 ++ in_members config here above at ms

abbrev pub in_elements : Val → Place → Above → List ℕ → ℕ → List Meaning → List Located
in_elements config there above at i [] = []
in_elements config there above at i (m ∷ ms) = m.found config there above (nth at i) ++ in_elements config there above at (i + 1) ms

abbrev pub in_list : Val → Place → Above → List ℕ → List Meaning → List Located
in_list config here above at ms = if is_list (form_of here) then in_elements config (element here) (inside above) at 0 ms else []

abbrev pub in_object : Val → Place → Above → List ℕ → Members Meaning → List Located
in_object config here above at ms = if is_walked (form_of here) here ms then in_members config here above at ms else []

-- what is found below a value
abbrev pub deeper : Val → Val-F Meaning → Place → Above → List ℕ → List Located
deeper config (Val-F.Arr ms) here above at = in_list config here above at ms
deeper config (Val-F.Obj ms) here above at = in_object config here above at ms
deeper config _ here above at = []

-- what is found at and below a value
abbrev pub found_step : Val-F Meaning → Walk
found_step x config here above at =
    at_pointer at (of_value config (form_of here) here above x ++ from_above above) ++ deeper config x here above at

abbrev pub meaning_step : Val-F Meaning → Meaning
meaning_step x = record { is = roll-Val (map-Val Meaning Val (λ m. m.is) x); found = found_step x; count = count_step x; ends = ends_step x }

-- all that a walk has to know of a value
abbrev pub meaning : Val → Meaning
meaning = fold-Val Meaning meaning_step

-- the same of the parts of a value, and of its members
abbrev pub opened : Val → Val-F Meaning
opened v = map-Val Val Meaning meaning (out-Val v)

abbrev pub met : Members Val → Members Meaning
met ms = map (λ m. (m.0, meaning m.1)) ms

-- above a whole configuration stands nothing
abbrev pub top : Val → Above
top config = record {
  newer = is_newer config;
  has_processors = is_target config (codes "/pipeline/processors");
  below_switch = false;
  below_hold = false;
  below_batched = false;
  batching_below = false;
  changes_number = false;
  too_many = false;
  two_codecs = false;
}

-- What is found in a configuration, each with its pointer, in order of the walk.
unfoldable pub findings : Val → List Located
findings config = (meaning config).found config place.Top (top config) []
