use Rattle.std.proofs.Common.{sym}
use Rattle.bt_parses.proofs.tokens.tokens_shape.Goals as goal

pub push_token-requires : goal.push_token-requires
push_token-requires c = c.spans_rise.ensures.each c.args.text.now c.args.tokens.now.list c.requires c.loop-i.i c.in-Some.token.now (sym c.in-Some.ensures.value)
