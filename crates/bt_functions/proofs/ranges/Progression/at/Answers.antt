use Rattle.std.proofs.Common.{rules, FitsSigned, w64}
use Rattle.bt_functions.proofs.Steps.{at_place}
use Rattle.bt_functions.proofs.ranges.Progression.at.Goals as goal

pub returns : goal.returns
returns c =
    let a : FitsSigned w64 c.args.self.now.from = search rules in
    let s : FitsSigned w64 c.args.self.now.step = search rules in
    at_place c.args.self.now.from c.args.self.now.step c.args.i a s c.requires
