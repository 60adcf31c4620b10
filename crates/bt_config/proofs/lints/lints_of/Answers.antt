use Rattle.std.proofs.Common.{◌∙◌, sym, map}
use Rattle.std.specs.Vec.Iter.{into_iter_items}
use Rattle.bt_walk.specs.Found.{located}
use Rattle.bt_config.proofs.Turning.{ended, one_more}
use Rattle.bt_config.proofs.lints.lints_of.Goals as goal

pub loop-finding-preserved : goal.loop-finding-preserved
loop-finding-preserved c =
    let made = c.in_ok-push_finding.ensures in
    one_more (map located c.args.found.items) (into_iter_items c.loop-finding.finding-iterator) (into_iter_items c.next.new.self) _ c.loop-finding.lints _ made.0
    c.in-Some.ensures.steps.0 made.1 made.2 c.loop-finding.invariant

pub returns : goal.returns
returns c =
    let none = sym c.loop-finding.finding-iterator.rest.ok.0 ∙ c.in-None.ensures.steps.0 in
    ended (map located c.args.found.items) (into_iter_items c.loop-finding.finding-iterator) c.loop-finding.lints none c.loop-finding.invariant
