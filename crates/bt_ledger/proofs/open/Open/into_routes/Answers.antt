use Rattle.std.proofs.Common.{ap, ◌∙◌, subst}
use Rattle.bt_ledger.specs.Due.{unanswered, AllSettled}
use Rattle.bt_ledger.specs.Open.{Open}
use Rattle.bt_ledger.proofs.Answering.{all_settled}
use Rattle.bt_ledger.proofs.open.Open.into_routes.Goals as goal

pub returns-clause-settled : goal.returns-clause-settled
returns-clause-settled c = λ e. subst (λ (v : Open). AllSettled v.parts) c.self.view_is (all_settled _ c.self.inside.counts.items _ _ _ c.self.invariant (ap (λ (v : Open). unanswered v.answered) c.self.view_is ∙ e))
