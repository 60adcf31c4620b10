use Rattle.std.proofs.Common.{◌≡◌, [], drop}
use Rattle.regex.specs.Names.{names_of}
use Rattle.regex.specs.Replace.{bytes_of}
use Rattle.regex.specs.Strings.{captures_haystack, captures_span}
use Rattle.bt_matches.specs.Patterns as spec
use Rattle.bt_matches.proofs.patterns.groups.Given as goal

abbrev pub invariant-loop-name : goal.invariant-loop-name
invariant-loop-name l = record {
  place : l.i ≡ l.name-index;
  so_far : spec.groups_from 0 (names_of l.names) (λ n. bytes_of (captures_haystack l.captures) (captures_span l.captures n)) []
      ≡ spec.groups_from l.i (names_of (drop l.name-index l.names)) (λ n. bytes_of (captures_haystack l.captures) (captures_span l.captures n)) l.got;
}
