use Rattle.std.proofs.Common.{arith}
use Rattle.bt_output_plan.specs.Numbered.{next_of}
use Rattle.bt_output_plan.proofs.numbers.copies.Goals as goal

pub returns-in-Ok-clause-numbered : goal.returns-in-Ok-clause-numbered
returns-in-Ok-clause-numbered c = λ sinks p a b h.
    c.retried.ensures.numbered sinks p (next_of c.args.numbers.now) (next_of c.copied.new.numbers)
    c.requires (omega (arith, c.in-Ok.ensures.leaves)) (omega (arith, c.in-Ok.ensures.holds)) (omega (arith, c.in-Ok.ensures.leaf)) (omega (arith, c.in-Ok.ensures.hold)) h
