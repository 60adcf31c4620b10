use Rattle.std.proofs.Common.{◌≡◌, ◌≤◌, ◌+◌, ◌*◌, ◌++◌, length, Some}
use Rattle.json.specs.Json as json
use Rattle.json.specs.Find.{InItems, InMembers}
use Rattle.json.specs.Tree.{depth, items_depth, members_depth}
use Rattle.serde_json.specs.Data.{Items, Members, no_members}
use Rattle.serde_json.specs.Read.{of_items, of_members}
use Rattle.bt_value.specs.Marked.{marked_items, marked_members}
use Rattle.bt_doc.specs.Built.{json_here, items_in, members_in}
use Rattle.bt_doc.proofs.build.+built.Given as goal

abbrev pub decreases-built : goal.decreases-built
decreases-built l = 2 * depth (json_here l.element.now) + 1

abbrev pub decreases-built_items : goal.decreases-built_items
decreases-built_items l = 2 * depth (json_here l.element.now)

abbrev pub decreases-built_members : goal.decreases-built_members
decreases-built_members l = 2 * depth (json_here l.element.now)

abbrev pub invariant-built_items-items : goal.invariant-built_items-items
invariant-built_items-items l =
    let all = items_in (json_here l.fn.element) in
    (js : json.Items) × InItems l.items js × (items_depth js ≤ items_depth all)
    × ((total : Items) → of_items all ≡ Some total → (rest : Items) × (of_items js ≡ Some rest) × (marked_items total ≡ l.found ++ marked_items rest))

abbrev pub decreases-built_items-items : goal.decreases-built_items-items
decreases-built_items-items l = length l.items

abbrev pub invariant-built_members-members : goal.invariant-built_members-members
invariant-built_members-members l =
    let all = members_in (json_here l.fn.element) in
    (ms : json.Members) × InMembers l.members ms × (members_depth ms ≤ members_depth all)
    × ((total : Members) → of_members all no_members ≡ Some total → (done : Members) × (of_members ms done ≡ Some total) × (l.found ≡ marked_members done))

abbrev pub decreases-built_members-members : goal.decreases-built_members-members
decreases-built_members-members l = length l.members
