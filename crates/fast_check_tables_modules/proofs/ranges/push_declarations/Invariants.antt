use Rattle.std.proofs.Common.{◌≡◌, ◌++◌, take, map}
use Rattle.std.specs.List.{flat_map}
use Rattle.fast_check_tables_modules.proofs.ranges.push_declarations.Given as goal

abbrev pub invariant-loop-symbol : goal.invariant-loop-symbol
invariant-loop-symbol l = l.out.items ≡ l.initial.out.items ++ flat_map (λ s. map (λ d. d.range) s.decls.items)
    (take l.symbol-index l.symbols)
