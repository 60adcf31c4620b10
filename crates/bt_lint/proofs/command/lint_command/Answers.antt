use Rattle.std.proofs.Common.{Ok, Err}
use Rattle.bt_lint.specs.declared.halt.Halt.TheVariants as halt
use Rattle.bt_lint.proofs.Whole.{ends-unread, ends-read}
use Rattle.bt_lint.proofs.command.lint_command.Goals as goal

pub returns-in-Ok : goal.returns-in-Ok
returns-in-Ok g c = record {
  result = c.print_report.result;
  ends = ends-read g.W.World c.args.migrate c.args.path.now c.in-Ok.linted c.print_report.result c.args.world.now c.read_linted.new.world c.print_report.new.world c.in-Ok.ensures.reads c.print_report.ensures;
  is_status = c.status_of.ensures;
}

pub returns-in-Err : goal.returns-in-Err
returns-in-Err g c = record {
  result = Err (halt.Unprinted c.in-Err.halt);
  ends = ends-unread g.W.World c.args.migrate c.args.path.now c.in-Err.halt c.args.world.now c.read_linted.new.world c.in-Err.ensures.reads;
  is_status = c.status_of-in-Err.ensures;
}
