use Rattle.bt_syntax.proofs.EndLemmas.{check_is_read, check_is_refused, check_is_shallow}
use Rattle.bt_syntax.proofs.parsing.parse_check.Goals as goal

pub answer-requires : goal.answer-requires
answer-requires c = check_is_shallow _ _ _ _ c.in_ok-c.ensures.start c.in_ok-c.ensures.shallow c.check-found.ensures

pub returns-clause-read : goal.returns-clause-read
returns-clause-read c = check_is_read _ _ _ _ c.in_ok-c.ensures.start c.in_ok-c.ensures.shallow c.check-found.ensures _ _ c.answer.ensures

pub returns-clause-refused : goal.returns-clause-refused
returns-clause-refused c = check_is_refused _ _ _ _ c.in_ok-c.ensures.start c.in_ok-c.ensures.shallow c.check-found.ensures _ _ c.answer.ensures
