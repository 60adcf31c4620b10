use Rattle.bt_compile_laws.proofs.Leading as leading
use Rattle.bt_compile_laws.proofs.lints_are_of_patterns.Goals as goal

pub returns : goal.returns
returns c = leading.lints_are_of_patterns
