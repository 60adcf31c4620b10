-- What a scanner of the program is.
use Rattle.bt_input_plan.specs.Scanners.{Scanner as Way, lines, records}
use Rattle.bt_input_plan.specs.declared.scanners.Scanner.{Scanner}
use Rattle.bt_input_plan.specs.declared.scanners.Scanner.TheVariants as scanner

abbrev pub seen : Scanner → Way
seen (scanner.Lines d) = lines d.now
seen (scanner.Records c h) = records c h
