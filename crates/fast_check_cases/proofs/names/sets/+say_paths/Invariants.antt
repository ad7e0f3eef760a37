use Rattle.fast_check_cases.proofs.names.sets.+say_paths.Given as goal

abbrev pub decreases-say_paths : goal.decreases-say_paths
decreases-say_paths l = l.levels
