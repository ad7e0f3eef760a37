use Rattle.std.proofs.Common.{◌≡◌, option_map}
use Rattle.std.specs.Option.{option_or}
use Rattle.fast_check_finder_lattice.specs.Names.{Name}
use Rattle.fast_check_tables_modules.specs.symbols.Tables.{resolved_export}
use Rattle.fast_check_finder_demands.specs.re_exports.Origins.{indexed, entries_origin}
use Rattle.fast_check_finder_demands.proofs.re_exports.origins.put_names.Given as goal

abbrev pub invariant-loop-name : goal.invariant-loop-name
invariant-loop-name l = (asked : Name) → option_or (indexed asked l.names) (entries_origin asked l.node l.name-iterator)
    ≡ option_or (indexed asked l.initial.names) (option_map (λ url. (l.node, url)) (resolved_export l.tables asked))
