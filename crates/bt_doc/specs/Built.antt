-- The JSON that tokens begin with. Private clauses alone cite it.
use Rattle.std.specs.Prelude.{List, length, Option, Some, None}
use Rattle.json.specs.Token.{Token}
use Rattle.json.specs.Json.{Json, null, boolean, number, string, array, object, Items, no_items, Members, no_members, value}

abbrev pub first_of : Option (Json × List Token) → Json
first_of None = null
first_of (Some p) = p.0

abbrev pub json_here : List Token → Json
json_here ts = first_of (value (length ts) ts)

abbrev pub items_in : Json → Items
items_in null = no_items
items_in (boolean b) = no_items
items_in (number s) = no_items
items_in (string s) = no_items
items_in (array js) = js
items_in (object ms) = no_items

abbrev pub members_in : Json → Members
members_in null = no_members
members_in (boolean b) = no_members
members_in (number s) = no_members
members_in (string s) = no_members
members_in (array js) = no_members
members_in (object ms) = ms
