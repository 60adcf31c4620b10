use Rattle.bt_words.specs.Printing as print
use Rattle.bt_print.proofs.StepLemmas.{on_ok, in_block}
use Rattle.bt_print.proofs.printer.Printer.block.Goals as goal

pub returns : goal.returns
returns g c =
    on_ok c.push_str-2.result
    (in_block c.args.out.now c.push_str.new.self c.query.new.out c.push_str-2.new.self (print.query c.args.q.now)
    c.in_ok-push_str.ensures.ok c.in_ok-query.ensures) c.push_str-2.ensures.ok
