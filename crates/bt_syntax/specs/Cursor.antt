-- What a cursor shows, and what it keeps.
use Rattle.std.specs.Prelude.{◌≡◌}
use Rattle.bt_lexer.specs.Spans.{AreSpans}
use Rattle.bt_lexer.specs.Places.{line_of}
use Rattle.bt_syntax.specs.declared.cursor.Cursor.TheInside.{Inside}
use Rattle.bt_syntax.specs.Lexemes.{Lexemes, lexemes}

-- the tokens that are left
abbrev pub lexemes_of : Inside → Lexemes
lexemes_of c = lexemes c.text.now c.rest.now

-- The tokens rise from the place up to which lines are counted, and the line there is known.
abbrev pub IsCounted : Inside → Type 0
IsCounted c = AreSpans c.text.now c.counted c.rest.now × (c.line ≡ line_of c.text.now c.counted)
