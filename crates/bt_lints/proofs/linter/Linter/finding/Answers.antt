use Rattle.bt_findings.proofs.FoundLayers.{on_ok}
use Rattle.bt_lints.proofs.linter.Linter.finding.Goals as goal

pub returns-in-Root : goal.returns-in-Root
returns-in-Root c = on_ok c.root.result (λ h. rw c.in-Root.is h) c.root.ensures

pub returns-in-Variable : goal.returns-in-Variable
returns-in-Variable c = on_ok c.variable.result (λ h. rw c.in-Variable.is h) c.variable.ensures

pub returns-in-UnknownFunction : goal.returns-in-UnknownFunction
returns-in-UnknownFunction c = on_ok c.push.result (λ h. rw c.in-UnknownFunction.is h) c.push.ensures

pub returns-in-UnknownMethod : goal.returns-in-UnknownMethod
returns-in-UnknownMethod c = on_ok c.push-in-UnknownMethod.result (λ h. rw c.in-UnknownMethod.is h) c.push-in-UnknownMethod.ensures

pub returns-in-WrongArguments : goal.returns-in-WrongArguments
returns-in-WrongArguments c = on_ok c.push-in-WrongArguments.result (λ h. rw c.in-WrongArguments.is h) c.push-in-WrongArguments.ensures

pub returns-in-Apply : goal.returns-in-Apply
returns-in-Apply c = on_ok c.apply.result (λ h. rw c.in-Apply.is h) c.apply.ensures
