use Rattle.std.proofs.Common.{◌≡◌, ◌∙◌, ◌+◌, ◌-◌, ◌++◌, ap, arith, length}
use Rattle.bt_output_plan.specs.Reading.{repeated}
use Rattle.bt_output_plan.proofs.Repeating.{all_again}
use Rattle.bt_output_plan.proofs.numbers.again.Goals as goal

pub returns-clause-all : goal.returns-clause-all
returns-clause-all c =
    let count : length c.args.holds.now.list ≡ c.args.from + c.in_ok-count.count = grind (arith, c.in_ok-small.ensures, c.in_ok-count.ensures) in
    all_again c.args.from c.args.tries c.in_ok-count.count c.args.holds.now.list c.in_ok-own.own.list c.push_copies.new.holds.list
    c.requires count c.in_ok-own.ensures
    (c.in_ok-push_copies.ensures ∙ ap (λ l. c.args.holds.now.list ++ repeated (c.args.tries - 1) l) c.as_slice.ensures)
