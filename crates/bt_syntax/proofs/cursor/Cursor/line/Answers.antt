use Rattle.std.proofs.Common.{ap, ◌∙◌, sym, arith}
use Rattle.bt_syntax.specs.Code.{next}
use Rattle.bt_syntax.proofs.CountLemmas.{line_here, spans_from_first, next_line}
use Rattle.bt_syntax.proofs.cursor.Cursor.line.Goals as goal

pub invariant_of-self : goal.invariant_of-self
invariant_of-self c = (
  spans_from_first _ _ _ _ (omega arith) c.self.invariant.0,
  line_here c.self.inside.text.now c.as_bytes.result.now c.self.inside.counted c.self.inside.line c.line_feeds.result c.self.inside.rest.now _ (omega arith) c.self.invariant.0 c.self.invariant.1 c.as_bytes.ensures.value c.line_feeds.ensures,
)

pub returns-in-len1-up-clause-line : goal.returns-in-len1-up-clause-line
returns-in-len1-up-clause-line c =
    line_here c.self.inside.text.now c.as_bytes.result.now c.self.inside.counted c.self.inside.line c.line_feeds.result c.self.inside.rest.now _ (omega arith) c.self.invariant.0 c.self.invariant.1 c.as_bytes.ensures.value c.line_feeds.ensures
    ∙ sym (next_line c.self.inside.text.now c.self.inside.rest.now _ (omega arith)) ∙ ap (λ ws. (next ws).line) c.self.view_is
