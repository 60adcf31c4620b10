use Rattle.std.proofs.Common.{◌≡◌}
use Rattle.std.proofs.lemmas.List.Elements.{All-push, All-same}
use Rattle.bt_ports.specs.declared.parts.Named.{Named}
use Rattle.bt_intake_cases.specs.declared.Measured.{Measured}
use Rattle.bt_intake_cases.proofs.sources.Goals as goal

pub loop-text-preserved : goal.loop-text-preserved
loop-text-preserved c =
    All-same (λ (n : Named Measured). n.source.source.taken ≡ 0) c.push.new.self.list _ c.in_ok-push.ensures.ok
    (All-push (λ (n : Named Measured). n.source.source.taken ≡ 0) c.loop-text.all.list c.in_ok-source.field-0 c.loop-text.invariant c.in_ok-source.ensures)
