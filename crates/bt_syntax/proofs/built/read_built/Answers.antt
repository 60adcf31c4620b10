use Rattle.bt_syntax.proofs.BuiltLemmas.{spans_of, each_of, found_read, found_built, found_none}
use Rattle.bt_syntax.proofs.built.read_built.Goals as goal

pub mapping-requires-clause-rise : goal.mapping-requires-clause-rise
mapping-requires-clause-rise c = spans_of c.args.text.now c.args.tokens.now.list c.as_slice.result.now c.as_slice.ensures c.requires

pub mapping-requires-clause-each : goal.mapping-requires-clause-each
mapping-requires-clause-each c = each_of c.args.text.now c.args.tokens.now.list c.as_slice.result.now c.as_slice.ensures c.requires

pub returns-clause-read : goal.returns-clause-read
returns-clause-read c = found_read c.args.text.now c.as_slice.result.now c.args.tokens.now.list c.mapping.result c.as_slice.ensures c.requires c.mapping.ensures

pub returns-clause-built : goal.returns-clause-built
returns-clause-built c = found_built c.args.text.now c.as_slice.result.now c.args.tokens.now.list c.mapping.result c.as_slice.ensures c.requires c.mapping.ensures

pub returns-clause-other : goal.returns-clause-other
returns-clause-other c = found_none c.args.text.now c.as_slice.result.now c.args.tokens.now.list c.mapping.result c.as_slice.ensures c.requires c.mapping.ensures
