use Rattle.bt_lexer.proofs.SpanLemmas.{tokens_spans, tokens_each, fault_within}
use Rattle.bt_lexer.proofs.spans_rise.Goals as goal

pub returns-clause-tokens : goal.returns-clause-tokens
returns-clause-tokens c = tokens_spans

pub returns-clause-each : goal.returns-clause-each
returns-clause-each c = tokens_each

pub returns-clause-fault : goal.returns-clause-fault
returns-clause-fault c = fault_within
