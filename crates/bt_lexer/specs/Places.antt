-- Lines and columns, both counted from 1, columns in bytes.
use Rattle.std.specs.Prelude.{ℕ, ◌+◌, ◌==◌, List, take}
use Rattle.std.specs.List.{count_by, suffix_len}
use Rattle.bt_lexer.specs.Bytes.{line_feed, is_in_line}

-- one more than the line feeds before the place
abbrev pub line_of : List ℕ → ℕ → ℕ
line_of s at = 1 + count_by (λ c. c == line_feed) (take at s)

-- one more than the bytes that stand in the place's line before it
abbrev pub column_of : List ℕ → ℕ → ℕ
column_of s at = 1 + suffix_len is_in_line (take at s)
