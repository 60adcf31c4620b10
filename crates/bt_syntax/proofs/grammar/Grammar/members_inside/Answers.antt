use Rattle.std.proofs.Common.{sym, ◌∙◌}
use Rattle.std.proofs.lemmas.Result.{err_from_is_err_and}
use Rattle.bt_lexer.specs.declared.token.Kind.TheVariants as k
use Rattle.bt_syntax.specs.Readers.{members_inside}
use Rattle.bt_syntax.proofs.Turns.{listed_end, listed_go, listed_last, listed_less, listed_err}
use Rattle.bt_syntax.proofs.Progress.{member_takes, query_takes}
use Rattle.bt_syntax.proofs.grammar.Grammar.members_inside.Goals as goal

pub returns-in_err-member : goal.returns-in_err-member
unfolding members_inside
returns-in_err-member g c =
    let p = err_from_is_err_and c.from_residual.result c.from_residual.ensures.1 in
    rw (p.1, p.2) (listed_err k.RightBrace _ (member_takes _ (query_takes c.args.self.now.depth)) _ _ _ _ _ c.loop-c.invariant (sym c.sees_other.ensures ∙ c.loop-c-test.true) c.in_err-member.ensures)

pub returns-then-not-eat_comma : goal.returns-then-not-eat_comma
unfolding members_inside
returns-then-not-eat_comma g c =
    let none = rw c.if-not-eat_comma.true at c.eat_comma.ensures.found in
    let left = rw c.if-not-eat_comma.true at c.eat_comma.ensures.left in
    rw (c.in_ok-push.ensures.ok, left) (listed_last k.RightBrace _ (member_takes _ (query_takes c.args.self.now.depth)) _ _ _ _ _ c.loop-c.invariant (sym c.sees_other.ensures ∙ c.loop-c-test.true) c.in_ok-member.ensures (sym none))

pub loop-c-smaller : goal.loop-c-smaller
loop-c-smaller g c =
    let taken = rw c.if-not-eat_comma.false at c.eat_comma.ensures.taken in
    listed_less k.RightBrace _ (member_takes _ (query_takes c.args.self.now.depth)) _ _ _ _ _ c.in_ok-member.ensures taken

pub loop-c-preserved : goal.loop-c-preserved
unfolding members_inside
loop-c-preserved g c =
    let some = rw c.if-not-eat_comma.false at c.eat_comma.ensures.found in
    let taken = rw c.if-not-eat_comma.false at c.eat_comma.ensures.taken in
    rw c.in_ok-push.ensures.ok (listed_go k.RightBrace _ (member_takes _ (query_takes c.args.self.now.depth)) _ _ _ _ _ _ _ c.loop-c.invariant (sym c.sees_other.ensures ∙ c.loop-c-test.true) c.in_ok-member.ensures (sym some) taken)

pub returns : goal.returns
unfolding members_inside
returns g c = listed_end k.RightBrace _ (member_takes _ (query_takes c.args.self.now.depth)) _ _ _ c.loop-c.invariant (sym c.sees_other.ensures ∙ c.loop-c-test.false)
