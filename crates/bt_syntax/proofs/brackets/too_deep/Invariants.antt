use Rattle.std.proofs.Common.{◌≡◌, ◌≤◌, ℕ, List, drop}
use Rattle.bt_syntax.specs.Brackets.{deep_at}
use Rattle.bt_syntax.specs.Lexemes.{lexemes}
use Rattle.bt_syntax.proofs.brackets.too_deep.Given as goal

abbrev pub invariant-loop-token : goal.invariant-loop-token
invariant-loop-token l = ((s : List ℕ) → deep_at l.open (lexemes s (drop l.token-index l.tokens)) ≡ deep_at 0 (lexemes s l.tokens)) × (l.open ≤ 64)
