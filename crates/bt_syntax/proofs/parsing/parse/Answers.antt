use Rattle.bt_syntax.proofs.EndLemmas.{mapping_is_read, mapping_is_refused, mapping_is_shallow}
use Rattle.bt_syntax.proofs.parsing.parse.Goals as goal

pub answer-requires : goal.answer-requires
answer-requires c = mapping_is_shallow _ _ _ _ c.in_ok-c.ensures.start c.in_ok-c.ensures.shallow c.mapping-found.ensures

pub returns-clause-read : goal.returns-clause-read
returns-clause-read c = mapping_is_read _ _ _ _ c.in_ok-c.ensures.start c.in_ok-c.ensures.shallow c.mapping-found.ensures _ _ c.answer.ensures

pub returns-clause-refused : goal.returns-clause-refused
returns-clause-refused c = mapping_is_refused _ _ _ _ c.in_ok-c.ensures.start c.in_ok-c.ensures.shallow c.mapping-found.ensures _ _ c.answer.ensures
