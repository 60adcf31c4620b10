-- The definitions, computed on small trees.
use Rattle.std.proofs.Common.{◌≡◌, true, false, [], ◌∷◌, None, Some, refl}
use Rattle.bt_demand.specs.Asked.{asked, owed}
use Rattle.bt_demand.specs.Holding.{active, waiting, waits_at, holds_at, booked_in, held_by}
use Rattle.bt_demand.specs.Holds.{holds}
use Rattle.bt_demand.specs.Next.{todo}
use Rattle.bt_demand.specs.Outcomes.{met, lost}
use Rattle.bt_demand.specs.Reasons.{why, least, refused_leaves}
use Rattle.bt_demand.specs.Tree.{Tree, leaf, drop, reject, all, first, hold, none, more}
use Rattle.bt_demand.specs.WellFormed.{leaves, nodes}
use Rattle.bt_demand.specs.declared.demand.Stage.{Stage}
use Rattle.bt_demand.specs.declared.demand.Stage.TheVariants.{Untried as Idle, Waiting, Released}
use Rattle.bt_demand.specs.declared.demand.State.{State}
use Rattle.bt_demand.specs.declared.demand.State.TheVariants.{Untried as Fresh, Good, Bad}
use Rattle.bt_demand.specs.declared.todo.Todo.TheVariants.{Put, Wait, Settled}

-- each of: a record of leaf 0 for sink 5; the first of a record of leaf 1 for sink 6 and, in hold 3, one of leaf 2 for sink 7
abbrev walk : State → State → State → Stage → Tree
walk a b c g = all (more (leaf 0 5 (97 ∷ []) a) (more (first (more (leaf 1 6 [] b) (more (hold 3 true 0 (leaf 2 7 [] c) g) none))) none))

at_first : todo (walk Fresh Fresh Fresh Idle) ≡ Some (Put 0 5)
at_first = refl

-- the second child of an All is tried where the first was refused
after_refusal : todo (walk Bad Fresh Fresh Idle) ≡ Some (Put 1 6)
after_refusal = refl

first_tier_lost : todo (walk Good Bad Fresh Idle) ≡ Some (Wait 3)
first_tier_lost = refl

all_waits : todo (walk Good Bad Fresh Waiting) ≡ None
all_waits = refl

released : todo (walk Good Bad Fresh Released) ≡ Some (Put 2 7)
released = refl

settled : todo (walk Good Bad Good Released) ≡ Some (Settled true)
settled = refl

first_tier_met : todo (walk Good Good Fresh Idle) ≡ Some (Settled true)
first_tier_met = refl

is_met : met (walk Good Bad Good Released) ≡ true
is_met = refl

-- a hold is neither met nor lost before its release
not_met_yet : met (walk Good Bad Good Waiting) ≡ false
not_met_yet = refl

-- an All with a child that is open isn't lost
not_lost_yet : lost (walk Bad Bad Fresh Waiting) ≡ false
not_lost_yet = refl

is_lost : lost (walk Good Bad Bad Released) ≡ true
is_lost = refl

empty_all_is_met : met (all none) ≡ true
empty_all_is_met = refl

least_refused : least (refused_leaves (walk Good Bad Bad Released)) ≡ Some 1
least_refused = refl

asked_before : asked (walk Good Fresh Fresh Idle) ≡ 0 ∷ 1 ∷ []
asked_before = refl

asked_after : asked (walk Good Bad Fresh Idle) ≡ 0 ∷ 1 ∷ 2 ∷ []
asked_after = refl

owed_first : owed (walk Fresh Fresh Fresh Idle) ≡ record { sink = 5; leaf = 0; bytes = 97 ∷ [] } ∷ record { sink = 6; leaf = 1; bytes = [] } ∷ []
owed_first = refl

numbers_of_leaves : leaves (walk Fresh Fresh Fresh Idle) ≡ 0 ∷ 1 ∷ 2 ∷ []
numbers_of_leaves = refl

numbers_of_holds : nodes (walk Fresh Fresh Fresh Idle) ≡ 3 ∷ []
numbers_of_holds = refl

one_hold : holds (walk Fresh Fresh Fresh Waiting) ≡ 1
one_hold = refl

-- through an All to the first lost child, and through a First to the last
text_of_reject : why (all (more drop (more (first (more (reject (97 ∷ [])) (more (reject (98 ∷ [])) none))) (more (reject (99 ∷ [])) none)))) ≡ Some (98 ∷ [])
text_of_reject = refl

-- no hold is booked before the part begins, nor once it is settled or the hold is released
nothing_booked_yet : booked_in (walk Fresh Fresh Fresh Idle) ≡ 0
nothing_booked_yet = refl

booked_while_it_may_wait : booked_in (walk Good Fresh Fresh Idle) ≡ 1
booked_while_it_may_wait = refl

booked_while_it_waits : booked_in (walk Good Bad Fresh Waiting) ≡ 1
booked_while_it_waits = refl

not_booked_below_a_release : booked_in (walk Good Bad Fresh Released) ≡ 0
not_booked_below_a_release = refl

not_booked_where_settled : booked_in (walk Good Good Fresh Idle) ≡ 0
not_booked_where_settled = refl

idle_is_active : active (walk Good Good Fresh Idle) ≡ 1
idle_is_active = refl

one_waits : waiting (walk Good Bad Fresh Waiting) ≡ 1
one_waits = refl

none_of_another_number : waits_at 2 (walk Good Bad Fresh Waiting) ≡ 0
none_of_another_number = refl

one_of_its_number : holds_at 3 (walk Fresh Fresh Fresh Idle) ≡ 1
one_of_its_number = refl

its_message : held_by 3 (walk Fresh Fresh Fresh Idle) ≡ Some (record { ends = true; size = 0 })
its_message = refl
