use Rattle.std.proofs.Common.{◌≡◌, drop}
use Rattle.bt_lints.specs.Names.{with_appliers}
use Rattle.bt_lints.proofs.reach.push_appliers.Given as goal

abbrev pub invariant-loop-application : goal.invariant-loop-application
invariant-loop-application l = with_appliers (drop l.application-index l.applications) l.name l.names.list ≡ with_appliers l.applications l.name l.initial.names.list
