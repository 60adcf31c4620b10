use Rattle.std.proofs.Common.{◌≡◌, ℕ, ◌≤◌, arith, refl, sym, ◌∙◌}
use Rattle.bt_moves.proofs.Lateness.{but_same_late}
use Rattle.bt_moves.proofs.Outs.{outs_same}
use Rattle.bt_moves.proofs.Periods.{empty_past, true_false}
use Rattle.bt_floor.proofs.floor.Floor.release_if_past.Goals as goal

pub returns-then-is_past-clause-late : goal.returns-then-is_past-clause-late
returns-then-is_past-clause-late g c = c.release.ensures.late c.args.node (omega arith)

pub returns-then-is_past-clause-done : goal.returns-then-is_past-clause-done
returns-then-is_past-clause-done g c = empty_past c.release.new.self.ledger c.args.node c.args.moment c.release.ensures.empties

pub returns-then-is_past-clause-unless : goal.returns-then-is_past-clause-unless
returns-then-is_past-clause-unless g c = λ e. absurd (true_false _ (sym c.is_past.ensures ∙ c.if-is_past.true) e)

pub returns-else-is_past-clause-done : goal.returns-else-is_past-clause-done
returns-else-is_past-clause-done g c = sym c.is_past.ensures ∙ c.if-is_past.false

pub returns-else-is_past-clause-late : goal.returns-else-is_past-clause-late
returns-else-is_past-clause-late g c = but_same_late c.args.node c.args.node c.args.self.now.ledger

pub returns-else-is_past-clause-outs : goal.returns-else-is_past-clause-outs
returns-else-is_past-clause-outs g c = outs_same c.args.self.now.ledger
