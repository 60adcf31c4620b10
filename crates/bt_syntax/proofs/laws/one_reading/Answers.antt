use Rattle.bt_tree.specs.declared.tree.Mapping.{Mapping}
use Rattle.bt_syntax.specs.Grammar.{ReadsMapping, ReadsCheck}
use Rattle.bt_syntax.proofs.FirstBadLemmas.{one_place}
use Rattle.bt_syntax.proofs.MappingLemmas.{one_mapping, one_check, mapping_or_bad, check_or_bad}
use Rattle.bt_syntax.proofs.laws.one_reading.Goals as goal

pub returns-clause-one_mapping : goal.returns-clause-one_mapping
returns-clause-one_mapping c = one_mapping

pub returns-clause-one_check : goal.returns-clause-one_check
returns-clause-one_check c = one_check

pub returns-clause-one_bad : goal.returns-clause-one_bad
returns-clause-one_bad c = one_place Mapping ReadsMapping

pub returns-clause-one_bad_check : goal.returns-clause-one_bad_check
returns-clause-one_bad_check c = one_place Mapping ReadsCheck

pub returns-clause-never_both : goal.returns-clause-never_both
returns-clause-never_both c = λ x ts rest s b. b.none x s

pub returns-clause-never_both_check : goal.returns-clause-never_both_check
returns-clause-never_both_check c = λ x ts rest s b. b.none x s

pub returns-clause-never_neither : goal.returns-clause-never_neither
returns-clause-never_neither c = mapping_or_bad

pub returns-clause-never_neither_check : goal.returns-clause-never_neither_check
returns-clause-never_neither_check c = check_or_bad
