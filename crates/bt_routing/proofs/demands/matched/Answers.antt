use Rattle.std.proofs.Common.{sym, ◌∙◌}
use Rattle.bt_routing.proofs.Lists.{matched_some}
use Rattle.bt_routing.proofs.demands.matched.Goals as goal

pub returns-else-is_empty : goal.returns-else-is_empty
returns-else-is_empty c = c.all.ensures ∙ sym (matched_some c.args.strict c.args.list.items c.args.list.len c.args.list.ok.0 (sym c.is_empty.ensures ∙ c.if-is_empty.false))
