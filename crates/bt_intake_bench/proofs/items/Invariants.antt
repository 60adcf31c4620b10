use Rattle.std.proofs.Common.{◌≡◌, None}
use Rattle.bt_intake_bench.proofs.items.Given as goal

-- the intake gave nothing but batches so far
abbrev pub invariant-items : goal.invariant-items
invariant-items l = l.intake.stopped ≡ None
