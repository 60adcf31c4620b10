use Rattle.std.proofs.Common.{◌∙◌, ap, rules}
use Rattle.bt_contexts.specs.Seen.{seen}
use Rattle.bt_meaning.specs.Value.{value}
use Rattle.bt_queries.proofs.Arms.{item_is, call_is, match_is, if_is, coal_is}
use Rattle.bt_queries.proofs.evaluator.Evaluator.node.Goals as goal

pub returns-in-Item : goal.returns-in-Item
returns-in-Item g c =
    let h = ap (λ q. value q (seen c.args.c.now)) c.in-Item.is ∙ item_is c.in-Item.q c.in-Item.xs (seen c.args.c.now) in
    rw h c.item.ensures

pub returns-in-Coalesce : goal.returns-in-Coalesce
returns-in-Coalesce g c =
    let h = ap (λ q. value q (seen c.args.c.now)) c.in-Coalesce.is ∙ coal_is c.in-Coalesce.q c.in-Coalesce.qs (seen c.args.c.now) in
    rw h c.coal.ensures

pub returns-in-Match : goal.returns-in-Match
returns-in-Match g c =
    let h = ap (λ q. value q (seen c.args.c.now)) c.in-Match.is ∙ match_is c.in-Match.target c.in-Match.cases (seen c.args.c.now) in
    rw h c.matched.ensures

pub returns-in-If : goal.returns-in-If
returns-in-If g c =
    let h = ap (λ q. value q (seen c.args.c.now)) c.in-If.is ∙ if_is c.in-If.branches c.in-If.last (seen c.args.c.now) in
    rw h c.branches.ensures

pub returns-in_ok-call-in-Call : goal.returns-in_ok-call-in-Call
returns-in_ok-call-in-Call g c =
    let h = ap (λ q. value q (seen c.args.c.now)) c.in-Call.is ∙ call_is c.in-Call.w c.in-Call.args (seen c.args.c.now) in
    rw h (search rules)
