use Rattle.std.proofs.Common.{[], ◌≡◌, sym, subst, IsSome, true}
use Rattle.bt_duties.specs.Calls.{NothingSettled}
use Rattle.bt_duties.specs.DeskView.{DeskView}
use Rattle.bt_duties.specs.Duties.{AllIdle}
use Rattle.bt_duties.proofs.Admitting.{same_unheld}
use Rattle.bt_duties.proofs.Standings.{standing_flushed}
use Rattle.bt_duties.proofs.desk.Desk.finish.Goals as goal

pub invariant_of-self : goal.invariant_of-self
invariant_of-self g c =
    standing_flushed (record { floor = c.self.inside.floor; duties = c.self.inside.duties.items; window = c.self.inside.window; finished = c.self.inside.finished }) c.flush_all.new.self c.self.invariant
    c.flush_all.ensures.resting c.flush_all.ensures.outs c.flush_all.ensures.empty c.flush_all.ensures.slots c.flush_all.ensures.outside
    (subst (λ (v : DeskView _ _ _ _ _). AllIdle v.duties) (sym c.self.view_is) c.requires.idle) c.flush_all.ensures.closed true
    (λ _. subst (λ (v : DeskView _ _ _ _ _). IsSome v.floor.outside.ending) (sym c.self.view_is) c.requires.ended)

pub returns-clause-unheld : goal.returns-clause-unheld
returns-clause-unheld g c = subst (λ (v : DeskView _ _ _ _ _). v.floor.ledger.policies ≡ [] → NothingSettled v.floor c.flush_all.new.self) c.self.view_is (λ q. same_unheld c.self.inside.floor c.flush_all.new.self (c.flush_all.ensures.unheld q))
