use Rattle.std.proofs.Common.{sym, ◌∙◌, refl}
use Rattle.bt_moves.proofs.Delivering.{delivering_closed}
use Rattle.bt_moves.proofs.Periods.{true_false}
use Rattle.bt_floor.proofs.floor.Floor.begin_if_given.Goals as goal

pub begin-requires-clause-part : goal.begin-requires-clause-part
begin-requires-clause-part g c = λ κs within. c.requires.part (sym c.is_given.ensures ∙ c.if-is_given.true)

pub returns-else-is_given-clause-delivering : goal.returns-else-is_given-clause-delivering
returns-else-is_given-clause-delivering g c = delivering_closed c.args.slot c.args.part c.args.self.now.ledger c.requires.delivering (sym c.is_given.ensures ∙ c.if-is_given.false)

pub returns-then-is_given-clause-turn : goal.returns-then-is_given-clause-turn
returns-then-is_given-clause-turn g c = λ q e. c.begin.ensures.turn q

pub returns-then-is_given-clause-closed : goal.returns-then-is_given-clause-closed
returns-then-is_given-clause-closed g c = λ e. absurd (true_false _ (sym c.is_given.ensures ∙ c.if-is_given.true) e)

pub returns-else-is_given-clause-turn : goal.returns-else-is_given-clause-turn
returns-else-is_given-clause-turn g c = λ q e. absurd (true_false _ e (sym c.is_given.ensures ∙ c.if-is_given.false))

pub returns-else-is_given-clause-closed : goal.returns-else-is_given-clause-closed
returns-else-is_given-clause-closed g c = λ e. refl
