use Rattle.fast_check_source_parser.proofs.parse.+parse.Given as goal

abbrev pub decreases-parse : goal.decreases-parse
decreases-parse l = l.depth
