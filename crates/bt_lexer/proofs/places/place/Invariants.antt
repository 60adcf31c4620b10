use Rattle.std.proofs.Common.{◌≡◌, ◌+◌, ◌==◌, ◌≤◌, take}
use Rattle.std.specs.List.{count_by, suffix_len}
use Rattle.bt_lexer.specs.Bytes.{line_feed, is_in_line}
use Rattle.bt_lexer.proofs.places.place.Given as goal

-- the line and the column of the bytes so far
abbrev pub invariant-loop-c : goal.invariant-loop-c
invariant-loop-c l = record {
  line : l.here.line ≡ 1 + count_by (λ c. c == line_feed) (take l.c-index l.c-items);
  column : l.here.column ≡ 1 + suffix_len is_in_line (take l.c-index l.c-items);
  short : l.here.column ≤ l.c-index + 1;
}
