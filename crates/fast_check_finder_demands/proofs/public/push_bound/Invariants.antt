use Rattle.std.proofs.Common.{◌≡◌, ◌++◌, take}
use Rattle.std.specs.List.{filter}
use Rattle.fast_check_finder_demands.specs.symbol_demands.Decls.{binds}
use Rattle.fast_check_finder_demands.specs.Yields.{decl_ranges}
use Rattle.fast_check_finder_demands.proofs.public.push_bound.Given as goal

abbrev pub invariant-loop-decl : goal.invariant-loop-decl
invariant-loop-decl l = l.out.items ≡ l.initial.out.items ++ decl_ranges (filter (λ x. binds x l.namespaces) (take l.decl-index l.decls))
