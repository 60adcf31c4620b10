use Rattle.std.proofs.Common.{arith}
use Rattle.bt_same.specs.Layers.{SameQuery, SameArg, SameSuffix, SameMember, SameTerm, SameCase, SameBranch}
use Rattle.bt_same.proofs.Laws.{apart, query_law}
use Rattle.bt_same.proofs.queries.+query.Goals as goal

pub query-returns : goal.query-returns
query-returns t c =
    let law = query_law c.args.a.now c.args.b.now in
    ((λ h. law.0 (c.node.ensures.0 h)), (λ e. c.node.ensures.1 (law.1 e)))

pub queries-returns-then-a-b : goal.queries-returns-then-a-b
queries-returns-then-a-b t c = apart SameQuery c.args.a.now c.args.b.now (omega arith)

pub args-returns-then-a-b : goal.args-returns-then-a-b
args-returns-then-a-b t c = apart SameArg c.args.a.now c.args.b.now (omega arith)

pub suffixes-returns-then-a-b : goal.suffixes-returns-then-a-b
suffixes-returns-then-a-b t c = apart SameSuffix c.args.a.now c.args.b.now (omega arith)

pub members-returns-then-a-b : goal.members-returns-then-a-b
members-returns-then-a-b t c = apart SameMember c.args.a.now c.args.b.now (omega arith)

pub terms-returns-then-a-b : goal.terms-returns-then-a-b
terms-returns-then-a-b t c = apart SameTerm c.args.a.now c.args.b.now (omega arith)

pub cases-returns-then-a-b : goal.cases-returns-then-a-b
cases-returns-then-a-b t c = apart SameCase c.args.a.now c.args.b.now (omega arith)

pub branches-returns-then-a-b : goal.branches-returns-then-a-b
branches-returns-then-a-b t c = apart SameBranch c.args.a.now c.args.b.now (omega arith)
