use Rattle.std.proofs.Common.{◌≡◌, drop}
use Rattle.bt_expectations.specs.Conditions.{has_metadata}
use Rattle.bt_expectations.proofs.holding.has_metadata.Given as goal

abbrev pub invariant-loop-member : goal.invariant-loop-member
invariant-loop-member l = has_metadata (drop l.member-index l.member-items) l.meta ≡ has_metadata l.member-items l.meta
