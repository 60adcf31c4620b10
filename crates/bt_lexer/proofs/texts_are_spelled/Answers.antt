use Rattle.bt_lexer.proofs.SpellingLemmas.{text_spelled, spelled_text}
use Rattle.bt_lexer.proofs.texts_are_spelled.Goals as goal

pub returns-clause-read : goal.returns-clause-read
returns-clause-read c = text_spelled

pub returns-clause-spelled : goal.returns-clause-spelled
returns-clause-spelled c = spelled_text
