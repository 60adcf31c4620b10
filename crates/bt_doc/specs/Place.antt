-- What a document holds, and where a part of it stands: among the tokens of a text, or in a tree.
use Rattle.std.specs.Prelude.{⊤}
use Rattle.bt_doc.specs.Doc.{IsBegun, here}
use Rattle.bt_value.specs.declared.val.Val.{Val}
use Rattle.bt_doc.specs.declared.doc.Held.{Held}
use Rattle.bt_doc.specs.declared.doc.Held.TheVariants as held
use Rattle.bt_doc.specs.declared.part.Place.{Place}
use Rattle.bt_doc.specs.declared.part.Place.TheVariants as place

abbrev pub held_value : Held → Val
held_value (held.Flat ts) = here ts
held_value (held.Tree v) = v

abbrev pub IsHeld : Held → Type 0
IsHeld (held.Flat ts) = IsBegun ts
IsHeld (held.Tree v) = ⊤

abbrev pub place_value : Place → Val
place_value (place.Flat ts) = here ts
place_value (place.Tree v) = v.now

abbrev pub IsPlace : Place → Type 0
IsPlace (place.Flat ts) = IsBegun ts
IsPlace (place.Tree v) = ⊤
