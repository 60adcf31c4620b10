use Rattle.bt_syntax.proofs.BuiltGrammar.{built-reads}
use Rattle.bt_syntax.proofs.built.built_is_read.Goals as goal

pub returns : goal.returns
returns c = built-reads
