use Rattle.std.proofs.Common.{◌≡◌, ◌++◌, drop}
use Rattle.bt_literals.specs.Literals.{AllRead, IsRefused, patterns_among, texts}
use Rattle.bt_literals.specs.declared.patterns.PatternFault.{PatternFault}
use Rattle.bt_literals.proofs.patterns.build_all.Given as goal

abbrev pub invariant-loop-finding : goal.invariant-loop-finding
invariant-loop-finding l = record {
  built : l.patterns.list ++ texts (patterns_among (drop l.finding-index l.findings)) ≡ l.initial.patterns.list ++ texts (patterns_among l.findings);
  read : AllRead (patterns_among (drop l.finding-index l.findings)) → AllRead (patterns_among l.findings);
  refused : (e : PatternFault) → IsRefused (patterns_among (drop l.finding-index l.findings)) e → IsRefused (patterns_among l.findings) e;
}
