use Rattle.std.proofs.Common.{◌≡◌, ◌++◌, map, slice_range, string_bytes, ℕ, List}
use Rattle.regex.specs.Patterns.{find_all_str}
use Rattle.regex.specs.Strings.{regex_pattern, placed_spans_left}
use Rattle.bt_matches.specs.Patterns as spec
use Rattle.bt_matches.proofs.patterns.texts_found.Given as goal

abbrev pub cut_out : List ℕ × (ℕ × ℕ) → List ℕ
cut_out p = slice_range p.0 p.1.0 p.1.1

abbrev pub invariant-loop-found : goal.invariant-loop-found
invariant-loop-found l =
    map string_bytes l.texts.items ++ map cut_out (placed_spans_left l.found-iterator)
    ≡ spec.matched_texts (find_all_str (regex_pattern l.fn.regex) l.fn.text) l.fn.text
