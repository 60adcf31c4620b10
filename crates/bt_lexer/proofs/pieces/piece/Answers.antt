use Rattle.bt_lexer.proofs.PieceLemmas.{cut_before, cut_after}
use Rattle.bt_lexer.proofs.pieces.piece.Goals as goal

pub range-requires-clause-start_boundary : goal.range-requires-clause-start_boundary
range-requires-clause-start_boundary c _ = cut_before c.args.text.now c.args.token.now c.utf8.text c.requires

pub range-requires-clause-end_boundary : goal.range-requires-clause-end_boundary
range-requires-clause-end_boundary c = cut_after c.args.text.now c.args.token.now c.utf8.text c.requires
