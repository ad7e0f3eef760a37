use Rattle.fast_check_print.proofs.variants.+open_variants.Given as goal

abbrev pub decreases-open_variants : goal.decreases-open_variants
decreases-open_variants l = l.levels
