use Rattle.bt_print.proofs.printing.+query_in.Given as goal

abbrev pub decreases-query_in : goal.decreases-query_in
decreases-query_in l = l.room
