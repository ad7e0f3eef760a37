use Rattle.fast_check_tables_symbols.specs.AliasKeys.{AreMet}
use Rattle.fast_check_tables_symbols.proofs.aliases.first_aliases.Given as goal

abbrev pub invariant-loop-place : goal.invariant-loop-place
invariant-loop-place l = AreMet l.decls l.place l.met l.places.items
