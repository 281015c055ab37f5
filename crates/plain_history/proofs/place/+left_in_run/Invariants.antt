use Rattle.plain_history.proofs.place.+left_in_run.Given as goal

abbrev pub decreases-left_in_run : goal.decreases-left_in_run
decreases-left_in_run l = l.bound
