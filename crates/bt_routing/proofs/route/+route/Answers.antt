use Rattle.std.proofs.Common.{ap, ◌∙◌}
use Rattle.bt_demand.specs.View.{trees}
use Rattle.bt_outputs.specs.Asked.{route}
use Rattle.bt_routing.specs.Blank.{blank}
use Rattle.bt_routing.proofs.Lists.{each_step, each_done, chosen_on, chosen_last, chosen_other, chosen_done, copies_step, copies_done}
use Rattle.bt_routing.proofs.route.+route.Goals as goal
use Rattle.bt_routing.proofs.route.+route.Goals.{chosen-in-Some+in_ok-push+else-not-k, chosen-in_default}

pub each-loop-o-preserved : goal.each-loop-o-preserved
each-loop-o-preserved t c =
    each_step c.loop-o.list.items c.push.new.self.items c.in_ok-demand.demand c.args.os.now c.loop-o.o-index c.o-item.result c.args.shift (blank c.args.msg.now c.args.spot) _
    c.loop-o-test.true c.o-item.is c.in_ok-push.ensures.items c.in_ok-demand.ensures c.loop-o.invariant

pub each-returns : goal.each-returns
each-returns t c = each_done _ c.args.os.now c.loop-o.o-index c.args.shift (blank c.args.msg.now c.args.spot) _ c.loop-o-test.false c.loop-o.invariant

pub chosen-loop-k-preserved : goal.chosen-loop-k-preserved
chosen-loop-k-preserved t c =
    elim c.match-branch-2.branch [
      | chosen-in-Some+in_ok-push+else-not-k w ↦
          let known = rw w.in-Some.is at c.in_ok-demand.ensures in
          chosen_on c.loop-k.list.items c.match-branch-2.list.items w.in-Some.demand c.args.cases.now c.loop-k.k-index c.k-item.result c.args.shift (blank c.args.msg.now c.args.spot) _
          c.loop-k-test.true c.k-item.is (ap (λ v. v.items) w.list-is ∙ w.in_ok-push.ensures.items) known.0 w.if-not-k.false known.1 c.loop-k.invariant
      | chosen-in_default w ↦
          let known = rw w.in_default.is at c.in_ok-demand.ensures in
          chosen_other (trees c.match-branch-2.list.items) c.args.cases.now c.loop-k.k-index c.k-item.result c.args.shift (blank c.args.msg.now c.args.spot) _
          c.loop-k-test.true c.k-item.is known (rw w.list-is c.loop-k.invariant)
    ]

pub chosen-returns-then-not-k : goal.chosen-returns-then-not-k
chosen-returns-then-not-k t c =
    let known = rw c.in-Some.is at c.in_ok-demand.ensures in
    chosen_last c.loop-k.list.items c.push.new.self.items c.in-Some.demand c.args.cases.now c.loop-k.k-index c.k-item.result c.args.shift (blank c.args.msg.now c.args.spot) _
    c.loop-k-test.true c.k-item.is c.in_ok-push.ensures.items known.0 c.if-not-k.true known.1 c.loop-k.invariant

pub chosen-returns : goal.chosen-returns
chosen-returns t c = chosen_done _ c.args.cases.now c.loop-k.k-index c.args.shift (blank c.args.msg.now c.args.spot) _ c.loop-k-test.false c.loop-k.invariant

pub tries-loop-i-preserved : goal.tries-loop-i-preserved
tries-loop-i-preserved t c =
    copies_step c.loop-i.list.items c.push.new.self.items c.in_ok-demand.demand c.args.copies c.loop-i.i c.args.leaves c.args.holds (route c.args.o.now) c.loop-i.at c.in_ok-at.at
    (blank c.args.msg.now c.args.spot) _ c.loop-i-test.true c.in_ok-push.ensures.items c.in_ok-demand.ensures c.in_ok-at.ensures c.loop-i.invariant

pub tries-returns : goal.tries-returns
tries-returns t c = copies_done _ c.args.copies c.loop-i.i c.args.leaves c.args.holds (route c.args.o.now) c.loop-i.at (blank c.args.msg.now c.args.spot) _ c.loop-i-test.false c.loop-i.invariant
