use Rattle.bt_syntax.proofs.grammar.+query.Given as goal

abbrev pub decreases-query : goal.decreases-query
decreases-query l = l.depth
