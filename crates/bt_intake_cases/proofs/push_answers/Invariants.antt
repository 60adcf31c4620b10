use Rattle.std.proofs.Common.{◌≡◌, None}
use Rattle.bt_intake_cases.proofs.push_answers.Given as goal

-- the intake gave nothing but batches so far
abbrev pub invariant-answers : goal.invariant-answers
invariant-answers l = l.intake.stopped ≡ None
