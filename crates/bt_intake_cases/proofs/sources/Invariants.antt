use Rattle.std.proofs.Common.{◌≡◌}
use Rattle.std.specs.List.{All}
use Rattle.bt_ports.specs.declared.parts.Named.{Named}
use Rattle.bt_intake_cases.specs.declared.Measured.{Measured}
use Rattle.bt_intake_cases.proofs.sources.Given as goal

-- nothing was taken of the sources so far
abbrev pub invariant-loop-text : goal.invariant-loop-text
invariant-loop-text l = All (λ (n : Named Measured). n.source.source.taken ≡ 0) l.all.list
