use Rattle.bt_queries.proofs.evaluator.+eval_in.Given as goal

abbrev pub decreases-eval_in : goal.decreases-eval_in
decreases-eval_in l = l.room
