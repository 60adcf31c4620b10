use Rattle.std.proofs.Common.{◌≡◌, ◌+◌, ◌*◌, ◌++◌, take, drop, map, length, option_and_then}
use Rattle.bt_messages.specs.Steps as spec
use Rattle.bt_messages.specs.Steps.{step}
use Rattle.bt_messages.specs.Singles as single
use Rattle.bt_messages.specs.Cases.{steps}
use Rattle.bt_messages.proofs.steps.+step.Given as goal

abbrev pub decreases-step : goal.decreases-step
decreases-step l = 8 * goal.size-step l

abbrev pub decreases-tried_by : goal.decreases-tried_by
decreases-tried_by l = 8 * goal.size-tried_by l + 1

abbrev pub decreases-in_turn : goal.decreases-in_turn
decreases-in_turn l = 8 * goal.size-in_turn l + 2

abbrev pub decreases-alone : goal.decreases-alone
decreases-alone l = 8 * goal.size-alone l + 3

abbrev pub decreases-tried : goal.decreases-tried
decreases-tried l = 8 * goal.size-tried l + 3

abbrev pub decreases-by_itself : goal.decreases-by_itself
decreases-by_itself l = 8 * goal.size-by_itself l + 4

abbrev pub decreases-singles : goal.decreases-singles
decreases-singles l = 8 * goal.size-singles l + 5

abbrev pub decreases-through : goal.decreases-through
decreases-through l = 8 * goal.size-through l + 3

abbrev pub decreases-switch : goal.decreases-switch
decreases-switch l = 8 * goal.size-switch l + 4

abbrev pub decreases-branch : goal.decreases-branch
decreases-branch l = 8 * goal.size-branch l + 3

abbrev pub invariant-in_turn-loop-p : goal.invariant-in_turn-loop-p
invariant-in_turn-loop-p l = spec.in_turn (map step (drop l.p-index l.ps)) l.moment l.places ≡ spec.in_turn (map step l.ps) l.moment l.initial.places

abbrev pub invariant-tried-loop-p : goal.invariant-tried-loop-p
invariant-tried-loop-p l = spec.tried (map step (drop l.p-index l.ps)) l.moment l.rest ≡ spec.tried (map step l.ps) l.moment l.initial.rest

abbrev pub invariant-singles-loop-x : goal.invariant-singles-loop-x
invariant-singles-loop-x l = take l.x-index l.places ++ map (option_and_then (single.gives l.how (map step l.ps) l.moment)) (drop l.x-index l.places) ≡ map (option_and_then (single.gives l.how (map step l.ps) l.moment)) l.initial.places

abbrev pub invariant-switch-loop-case : goal.invariant-switch-loop-case
invariant-switch-loop-case l = (length l.places ≡ length l.nexts.items)
    × (spec.by_cases (steps (drop l.case-index l.cases)) l.moment l.nexts.items l.places ≡ spec.by_cases (steps l.cases) l.moment l.initial.nexts.items l.initial.places)
