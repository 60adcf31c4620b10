use Rattle.std.proofs.Common.{Err}
use Rattle.bt_command_line.specs.declared.commands.WordsFault.TheVariants as fault
use Rattle.bt_top.proofs.command.benthos.Goals as goal

pub returns-in-Err-NoCommand : goal.returns-in-Err-NoCommand
returns-in-Err-NoCommand g c =
    let is = c.in-Err-NoCommand.is in
    let field = c.in-Err-NoCommand.field-0-is in
    record { read = Err fault.NoCommand; are_read = c.in-Err-NoCommand.ensures.refused cc; does = c.usage.ensures }
