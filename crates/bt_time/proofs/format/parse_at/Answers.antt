use Rattle.std.proofs.Common.{◌∙◌, sym}
use Rattle.bt_time.proofs.SeenLemmas.{all_parsed, unparsed}
use Rattle.bt_time.proofs.format.parse_at.Goals as goal

pub returns-clause-none : goal.returns-clause-none
returns-clause-none c = λ e. unparsed c.args.text.now c.args.format.now (sym e ∙ c.seen.ensures)

pub returns-clause-shown : goal.returns-clause-shown
returns-clause-shown c = all_parsed c.args.text.now c.args.format.now c.seen.result c.seen.ensures
