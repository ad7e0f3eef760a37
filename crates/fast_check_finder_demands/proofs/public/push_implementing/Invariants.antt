use Rattle.std.proofs.Common.{◌≡◌, ◌++◌, ◌&&◌, take}
use Rattle.std.specs.List.{filter}
use Rattle.fast_check_finder_demands.specs.symbol_demands.Decls.{binds, is_implementation}
use Rattle.fast_check_finder_demands.specs.Yields.{decl_ranges}
use Rattle.fast_check_finder_demands.proofs.public.push_implementing.Given as goal

abbrev pub invariant-loop-decl : goal.invariant-loop-decl
invariant-loop-decl l = l.out.items ≡ l.initial.out.items ++ decl_ranges
    (filter (λ x. binds x l.namespaces && is_implementation x) (take l.decl-index l.decls))
