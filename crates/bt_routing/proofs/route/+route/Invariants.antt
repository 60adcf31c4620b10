use Rattle.std.proofs.Common.{◌≡◌, ◌+◌, ◌-◌, ◌*◌, drop, map}
use Rattle.bt_demand.specs.View.{trees}
use Rattle.bt_outputs.specs.Asked as asked
use Rattle.bt_routing.specs.Blank.{blank, case_routes}
use Rattle.bt_routing.proofs.Lists.{also}
use Rattle.bt_routing.proofs.route.+route.Given as goal

abbrev pub decreases-route : goal.decreases-route
decreases-route l = 8 * goal.size-route l

abbrev pub decreases-each : goal.decreases-each
decreases-each l = 8 * goal.size-each l + 1

abbrev pub decreases-case : goal.decreases-case
decreases-case l = 8 * goal.size-case l + 1

abbrev pub decreases-chosen : goal.decreases-chosen
decreases-chosen l = 8 * goal.size-chosen l + 2

abbrev pub decreases-switch : goal.decreases-switch
decreases-switch l = 8 * goal.size-switch l + 3

abbrev pub decreases-tries : goal.decreases-tries
decreases-tries l = 8 * goal.size-tries l + 1

abbrev pub invariant-each-loop-o : goal.invariant-each-loop-o
invariant-each-loop-o l = also (trees l.list.items) (asked.each (map asked.route (drop l.o-index l.os)) l.shift (blank l.msg l.spot)) ≡ asked.each (map asked.route l.os) l.shift (blank l.msg l.spot)

abbrev pub invariant-chosen-loop-k : goal.invariant-chosen-loop-k
invariant-chosen-loop-k l = also (trees l.list.items) (asked.each (asked.chosen (case_routes (drop l.k-index l.cases)) (blank l.msg l.spot)) l.shift (blank l.msg l.spot))
    ≡ asked.each (asked.chosen (case_routes l.cases) (blank l.msg l.spot)) l.shift (blank l.msg l.spot)

abbrev pub invariant-tries-loop-i : goal.invariant-tries-loop-i
invariant-tries-loop-i l = also (trees l.list.items) (asked.copies_of (l.copies - l.i) l.leaves l.holds (asked.route l.o) l.at (blank l.msg l.spot))
    ≡ asked.copies_of l.copies l.leaves l.holds (asked.route l.o) l.fn.shift (blank l.msg l.spot)
