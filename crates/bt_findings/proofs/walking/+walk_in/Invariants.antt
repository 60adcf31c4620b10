use Rattle.bt_findings.proofs.walking.+walk_in.Given as goal

abbrev pub decreases-walk_in : goal.decreases-walk_in
decreases-walk_in l = l.room
